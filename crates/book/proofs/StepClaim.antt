-- The step of Claim.
use mathlib.Core.Path.{◌≡◌, refl, sym, ◌∙◌, ap, subst}
use mathlib.Core.Bool.{true, false, not}
use mathlib.Core.Logic.{◌⊎◌, inl, inr, ◌≢◌}
use mathlib.Core.List.{List, [], ◌∷◌}
use Prim.Native.Nat.{ℕ, suc, ◌+◌, ◌*◌, ◌^◌, ◌≤◌, ◌<◌}
use native.Mathlib.Omega.{arith}
use borrow.Author.Tests as tests
use Rattle.tree.specs.Memory.{Memory, reads, with_bit, Store, segmented, is_some, Fit, CrashImage, single}
use Rattle.tree.specs.declared.layout.Geometry.{Geometry}
use Rattle.tree.specs.Layout.{next_at, locate_at, size_at}
use Rattle.tree.specs.Path.{fanout, child}
use Rattle.tree.specs.Fingerprint.{rule_of}
use Rattle.tree.specs.Slots.{slot_of}
use Rattle.tree.specs.Reach.{Reaches}
use Rattle.tree.specs.declared.path.Spot.{Spot}
use Rattle.tree.specs.Lookup.{path_from, find, free_run}
use Rattle.tree.specs.Pool.{mark_all}
use Rattle.tree.proofs.Cases.{true_not_false}
use Rattle.tree.proofs.Memory.{crash_laws, apply_single, apply_first}
use Rattle.tree.proofs.Laws.{slot_laws, lookup_rule, child_laws}
use Rattle.book.specs.declared.Target.{Target}
use Rattle.book.specs.declared.HeadState.TheVariants.{Claimed}
use Rattle.book.specs.Heads.{head_count, head_at, is_idle, with_head}
use Rattle.book.specs.State.{State, Work, claim}
use Rattle.tree.specs.declared.path.Room.{Room}
use Rattle.tree.specs.declared.path.Room.TheVariants.{Clear, ScaleUp, BranchOut}
use Rattle.tree.specs.Room.{room_on, needs}
use Rattle.book.specs.Checks.{place_in, target_in, no_run_for, refusals}
use Rattle.book.specs.Perform.{room_script, claim_script, taken, group, writing, granted, perform}
use Rattle.book.specs.Table.{Table, claimed, with_table_head, table_work}
use Rattle.book.specs.Agrees.{About, Agrees}
use Rattle.book.specs.Histories.{carried_out}
use Rattle.book.specs.Ways.{FullPath, LowestRun, Takes, first_clear, scaled_up, branched_out}
use Rattle.book.specs.Growth.{ClaimGrows, finds_clear, scales_up, branches_out}
use Rattle.book.proofs.Refusals.{passes, denied}
use Rattle.book.proofs.Performed.{answer_is}
use Rattle.book.proofs.Heads.{no_conflict}
use Rattle.book.proofs.Reading.{sizes_of, path_there}
use Rattle.book.proofs.Rooms.{ScaleRoom, RoomIs, room_is}
use Rattle.book.proofs.Level31.{full_above_31, lowest_run}
use Rattle.book.proofs.Showing.{shows_view, view_shows}
use Rattle.book.proofs.Crashed.{Through, AfterEach, through_each, falls_through}
use Rattle.book.proofs.Still.{Still, still_self, still_keeps}
use Rattle.book.proofs.Step.{Step}
use Rattle.book.proofs.Claims.{about_claim}
use Rattle.book.proofs.Claiming.{NoneAt, Asked, target_at}
use Rattle.book.proofs.NewNodes.{new_nodes}
use Rattle.book.proofs.StepClear.{agrees_clear, still_clear, beside_clear}
use Rattle.book.proofs.StepScale.{agrees_scaled, each_scaled, size_scaled, beside_scaled, doubles_scaled, nodes_scaled}
use Rattle.book.proofs.StepBranch.{agrees_branched, through_branched, path_branched, beside_branched, adds_branched, nodes_branched}
use Rattle.book.proofs.SameNodes.{Nodes, quiet_nodes}

-- ---- what the tests say

abbrev pub slot_in : State → ℕ → ℕ
slot_in s reel = slot_of (sizes_of s.image) (reads s.image) reel

abbrev pub room_in : State → (reel f : ℕ) → Room
room_in s reel f = room_on (sizes_of s.image) (reads s.image) (path_from (sizes_of s.image) (reads s.image) (slot_in s reel) f)

-- the first node that a room takes from the pool
abbrev pub start_in : State → Room → ℕ
start_in s r = free_run (sizes_of s.image) (reads s.pool) (needs r)

record Tests (s : State) (h reel f : ℕ) : Type 0 where
  low : h < head_count
  idle : is_idle (head_at s.heads h) ≡ true
  slot : slot_in s reel < (sizes_of s.image).slots
  absent : is_some (find (rule_of (reads s.image)) (sizes_of s.image) (reads s.image) (slot_in s reel) f) ≡ false
  -- a head of the slot has another frame, at another node
  apart : (k : ℕ) {y : Target} → k < head_count → About y (head_at s.heads k) → y.slot ≡ slot_in s reel
      → (y.frame ≢ f) × (y.node ≢ (place_in (room_in s reel f) (start_in s (room_in s reel f)) f).node)
  run : (needs (room_in s reel f) ≤ 0) ⊎ (start_in s (room_in s reel f) < (sizes_of s.image).nodes)

tests_passed : (s : State) (words script h reel f : ℕ) → (perform (claim words script h reel f) s).answer ≡ 0 → Tests s h reel f
unfolding refusals
tests_passed s words script h reel f e =
    let p = (passes (refusals (claim words script h reel f) s) (omega arith) (sym (answer_is (claim words script h reel f) s) ∙ e)).1.1.1.1 in
    record {
      low = p.0;
      idle = tests.not-false _ p.1.0;
      slot = p.1.1.0;
      absent = p.1.1.1.1.0;
      apart = λ k l o q.
          let z = no_conflict (target_in (slot_in s reel) (room_in s reel f) (start_in s (room_in s reel f)) f) _ s.heads p.1.1.1.1.1.0 k l o q in
          (z.0, z.1 (ap not (denied (no_run_for (sizes_of s.image) (reads s.pool) (room_in s reel f)) p.1.1.1.1.1.1.0)));
      run = p.1.1.1.1.1.1.0;
    }

asked : {s : State} {t : Table} {h reel f : ℕ} → Agrees s t → f < 2 ^ 64 → Tests s h reel f → Asked s t h reel f (slot_in s reel)
asked {s} {t} {h} {reel} {f} a fit u =
    let b = (slot_laws (sizes_of s.image) (reads s.image)).reel reel u.slot in
    record {
      agrees = a;
      low = u.low;
      idle = u.idle;
      has = record { open_slot = b.0; number = b.1 };
      other_frame = λ k l o q. (u.apart k l o q).0;
      word = fit;
      absent = λ x.
          let rule = lookup_rule (rule_of (reads s.image)) (sizes_of s.image) (reads s.image) a.shows.sound b.0 in
          true_not_false ((rule.yes f).1 x) u.absent;
    }

-- ---- scripts

module _ (g : Geometry) (m : Memory) (start f : ℕ) where
  pub script_clear : (t : Spot) → claim_script g m (Clear t) start f ≡ single ((locate_at g t.node, with_bit (m (locate_at g t.node)) t.place) ∷ [])
  unfolding claim_script room_script
  script_clear t = refl

  pub script_scale : (n size : ℕ) → claim_script g m (ScaleUp n size) start f
      ≡ single ((size_at g n, 2 * size) ∷ (locate_at g n, with_bit (m (locate_at g n)) size) ∷ [])
  unfolding claim_script room_script
  script_scale n size = refl

  pub script_branch : (parent d : ℕ) → claim_script g m (BranchOut parent d) start f
      ≡ new_nodes g (suc d) 64 (group start d) ∷ single ((next_at g parent, start + 1) ∷ (locate_at g (start + child d f), with_bit 0 0) ∷ [])
  unfolding claim_script room_script
  script_branch parent d = refl

mark_none : (pool : List ℕ) → mark_all pool [] ≡ pool
unfolding mark_all
mark_none pool = refl

-- ---- by the room

abbrev pub work_of : State → (h f slot : ℕ) → Room → ℕ → Work
work_of s h f slot r start = writing (claim_script (sizes_of s.image) (reads s.image) r start f) (record {
  image = s.image;
  pool = mark_all s.pool (taken r start);
  heads = with_head s.heads h (Claimed (target_at slot (place_in r start f).node (place_in r start f).place f));
})

pub record ClaimStep (s : State) (t : Table) (h reel f slot : ℕ) (r : Room) (start : ℕ) : Type 0 where
  pub final : Agrees (carried_out (work_of s h f slot r start)) (with_table_head t h (claimed reel f))
  pub through : Through (Still (sizes_of s.image) t.own t.reels s.image) s.image (claim_script (sizes_of s.image) (reads s.image) r start f)
  pub takes : Takes (sizes_of s.image) (reads s.image) (reads (carried_out (work_of s h f slot r start)).image) slot f
      (place_in r start f).node (place_in r start f).place
  pub nodes : Nodes s.image (claim_script (sizes_of s.image) (reads s.image) r start f) (λ im'. ClaimGrows s.image im' slot f)

module _ {s : State} {t : Table} {h reel f slot : ℕ} (a : Asked s t h reel f slot) where
  abbrev g : Geometry
  g = sizes_of s.image

  abbrev m : Memory
  m = reads s.image

  start_view : Still g t.own t.reels s.image s.image
  start_view = still_self (shows_view a.agrees.shows)

  each : (zs : List Store) → AfterEach (Still g t.own t.reels s.image) s.image zs → Through (Still g t.own t.reels s.image) s.image (single zs)
  each zs b = through_each (Still g t.own t.reels s.image) s.image zs start_view b

  -- a node of the reel's tree with no head of its slot has none at all
  none_at : {n : ℕ} {w : List ℕ} → Reaches g m slot w n
      → ((k : ℕ) (y : Target) → k < head_count → About y (head_at s.heads k) → y.slot ≡ slot → y.node ≢ n) → NoneAt s.heads n
  none_at x apart = record {
    none = λ k {x = y} l o q.
        let c = (about_claim (a.agrees.heads k l) o).2 in
        apart k y l o (a.agrees.shows.sound.once (subst (Reaches g m y.slot _) q c.on_path_lem) x).0 q;
  }

  scaled : {n : ℕ} (start : ℕ) → ScaleRoom g m slot f n (m (size_at g n)) → NoneAt s.heads n → ClaimStep s t h reel f slot (ScaleUp n (m (size_at g n))) start
  scaled {n} start c o =
      let some : 0 < m (size_at g n) = elim c.small [ inl e ↦ omega arith | inr e ↦ omega arith ] in
      let small : m (size_at g n) < 64 = elim c.small [ inl e ↦ omega arith | inr e ↦ omega arith ] in
      record {
        final = rw (script_scale, apply_single, mark_none) (agrees_scaled a c.there c.ends some small o);
        through = rw script_scale (each ((size_at g n, 2 * m (size_at g n)) ∷ (locate_at g n, with_bit (m (locate_at g n)) (m (size_at g n))) ∷ [])
            (each_scaled a c.there c.ends some small o));
        takes = scaled_up c.there c.ends small c.full (rw (script_scale, apply_single) (size_scaled a c.there c.ends some small o))
            (rw (script_scale, apply_single) (beside_scaled a c.there c.ends some small o));
        nodes = rw script_scale (nodes_scaled a c.there c.ends some small o
            (scales_up c.there c.ends small c.full (doubles_scaled a c.there c.ends some small o)));
      }

  branched : {d start : ℕ} (x : FullPath g m slot f d) → d < 31 → LowestRun g m (fanout d) start → ClaimStep s t h reel f slot (BranchOut x.last d) start
  branched {d} {start} x deep l = record {
    final = rw (script_branch, apply_first, apply_single) (agrees_branched a x deep l.run);
    through = rw script_branch (through_branched a x deep l.run);
    takes = branched_out x l (rw (script_branch, apply_first, apply_single) (path_branched a x deep l.run))
        (rw (script_branch, apply_first, apply_single) (beside_branched a x deep l.run));
    nodes = rw script_branch (nodes_branched a x deep l.run (branches_out x l (adds_branched a x deep l.run)));
  }

  by_room : (r : Room) → RoomIs g m slot f r → (needs r ≤ 0) ⊎ (start_in s r < g.nodes)
      → ((k : ℕ) (y : Target) → k < head_count → About y (head_at s.heads k) → y.slot ≡ slot → y.node ≢ (place_in r (start_in s r) f).node)
      → ClaimStep s t h reel f slot r (start_in s r)
  by_room (Clear u) c l e = let o = none_at c.there e in record {
    final = rw (script_clear, apply_single, mark_none) (agrees_clear c.depth a c.there c.place c.clear_bit o);
    through = rw script_clear (each ((locate_at g u.node, with_bit (m (locate_at g u.node)) u.place) ∷ [])
        (still_clear c.depth a c.there c.place c.clear_bit o, tt));
    takes = first_clear c.there c.above c.place c.clear_bit c.lower
        (rw (script_clear, apply_single) (beside_clear c.depth a c.there c.place c.clear_bit o));
    nodes = rw script_clear (quiet_nodes (((u.node, 1, refl, omega arith, omega arith, omega arith), tt), tt) (λ im'. finds_clear c.depth c.there c.place c.clear_bit));
  }
  by_room (ScaleUp n size) c l e = rw c.is (scaled _ (rw c.is at c) (none_at c.there e))
  by_room (BranchOut parent d) c l e =
      let deep = full_above_31 a.agrees c.path in
      let some : 0 < fanout d = omega (arith, child_laws.below d f deep) in
      let inside : start_in s (BranchOut parent d) < g.nodes = elim l [ inl k ↦ absurd (omega arith) | inr k ↦ k ] in
      rw (← c.is) (branched c.path deep (lowest_run a.agrees (fanout d) some inside))

-- ---- the step

pub work_is : (s : State) (words script h reel f : ℕ)
    → granted (claim words script h reel f) s ≡ work_of s h f (slot_in s reel) (room_in s reel f) (start_in s (room_in s reel f))
unfolding granted
work_is s words script h reel f = refl

table_is : (t : Table) (words script h reel f : ℕ) → (table_work (claim words script h reel f) t).after ≡ with_table_head t h (claimed reel f)
unfolding table_work
table_is t words script h reel f = refl

module _ {s : State} {t : Table} (a : Agrees s t) (words script h reel f : ℕ) (fit : f < 2 ^ 64) (answered : (perform (claim words script h reel f) s).answer ≡ 0) where
  pub asked_now : Asked s t h reel f (slot_in s reel)
  asked_now = asked a fit (tests_passed s words script h reel f answered)

  pub claim_step : ClaimStep s t h reel f (slot_in s reel) (room_in s reel f) (start_in s (room_in s reel f))
  claim_step =
      let b = asked_now.has.open_slot in
      let p = path_there a.shows b f in
      by_room asked_now (room_in s reel f) (rw p.1 (room_is f p.0 b p.1)) (tests_passed s words script h reel f answered).run
      (λ k y l o q. ((tests_passed s words script h reel f answered).apart k l o q).1)

  -- whatever a crash leaves shows and holds what was there before
  crashed : (k : ℕ) (im' : List ℕ) → CrashImage s.image (segmented (granted (claim words script h reel f) s).script) k im'
      → Still (sizes_of s.image) t.own t.reels s.image im'
  crashed k im' c =
      falls_through (Still (sizes_of s.image) t.own t.reels s.image) (crash_laws.falls_in s.image _ k im' c) (rw work_is claim_step.through)

  step : Step (claim words script h reel f) s t
  step = record {
    final = rw (work_is, table_is) claim_step.final;
    crash = λ k im' c. inl (view_shows (crashed k im' c).view a.shows.slots a.shows.nodes);
    keeps = λ k im' c. still_keeps (shows_view a.shows) (crashed k im' c);
  }

pub step_claim : {s : State} {t : Table} → Agrees s t → (words script h reel f : ℕ) → Fit (h ∷ reel ∷ f ∷ [])
    → (perform (claim words script h reel f) s).answer ≡ 0 → Step (claim words script h reel f) s t
step_claim a words script h reel f fits answered = step a words script h reel f (fits 2) answered
