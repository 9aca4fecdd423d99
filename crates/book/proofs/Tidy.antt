-- What Tidy promises in histories: the frames stay where they are, through any cut, and it makes room.
use mathlib.Core.Path.{◌≡◌, refl, sym, ◌∙◌, ap}
use mathlib.Core.Bool.{true, false, not}
use mathlib.Core.Logic.{inl, inr, ◌≢◌}
use mathlib.Core.List.{List, [], ◌∷◌, ◌++◌}
use Prim.Native.Nat.{ℕ, ◌-◌}
use native.Mathlib.Omega.{arith}
use native.Mathlib.Decide.{ℕ_discrete}
use lib.Dec.{eqb}
use borrow.Author.Tests.{not-false}
use Rattle.tree.specs.Memory.{Memory, reads, is_set, Store, Module, Fit}
use Rattle.tree.specs.Test.{le, is, ◌or◌, holds}
use Rattle.tree.specs.declared.layout.Geometry.{Geometry}
use Rattle.tree.specs.Layout.{geometry_of, next_at, locate_at, size_at}
use Rattle.tree.specs.Path.{fanout, child}
use Rattle.tree.specs.Fingerprint.{Rule}
use Rattle.tree.specs.Slots.{slot_of}
use Rattle.tree.specs.Groups.{EmptyGroup}
use Rattle.tree.specs.Same.{Stores}
use Rattle.tree.specs.Changes.{InGroup, Pruned}
use Rattle.tree.proofs.Cases.{test, true_not_false, or_right}
use Rattle.tree.proofs.Cases.{not-false as not-true-false}
use Rattle.tree.proofs.Memory.{no_bit, crash_laws, crash_none, apply_single}
use Rattle.tree.proofs.Laws.{child_laws, reach_laws}
use Rattle.book.specs.Heads.{head_count}
use Rattle.book.specs.Refusals.{Refusal, ◌gives◌, refusal, comes_to}
use Rattle.book.specs.State.{State, Operation, claim, tidy, memory, shape}
use Rattle.book.specs.Checks.{bad_map, bad_script}
use Rattle.book.specs.Perform.{perform}
use Rattle.book.specs.Table as table
use Rattle.book.specs.Table.{Table, Fed, no_run, nothing, fed, is_no_run, is_same_node, is_present, is_held, is_taken, table_head, table_refusals, table_work, reply, geometry}
use Rattle.book.specs.Agrees.{Reached, Shows, Agrees}
use Rattle.book.specs.Ways.{SlotHas, FullPath, UnreachedRun, Lacks, no_run_lem, UsesOf, at_clear, at_root, at_child, HeadNames, InTheWay, same_frame, same_node}
use Rattle.book.specs.Histories.{carried_out, done, Interrupted, none_yet, performed}
use Rattle.book.specs.Demands.{Demand3}
use Rattle.book.specs.Tidy.{SameHeld, MadeAgain, TidyMakesRoom, Tidying}
use Rattle.book.proofs.Refusals.{Passes, denies, denied}
use Rattle.book.proofs.Performed.{work_granted, reply_is}
use Rattle.book.proofs.Demand1.{demand1}
use Rattle.book.proofs.Done.{done_granted, done_image, refused_image}
use Rattle.book.proofs.Rooms.{root_way, way_ends}
use Rattle.book.proofs.Reels.{node_slots}
use Rattle.book.proofs.Reading.{one_slot, same_idle}
use Rattle.book.proofs.Claims.{about_claim}
use Rattle.book.proofs.Crashed.{through_each, falls_through}
use Rattle.book.proofs.InTheWay.{taken_by}
use Rattle.book.proofs.Level31.{full_above_31}
use Rattle.book.proofs.Paired.{fed_8, fed_13}
use Rattle.book.proofs.Showing.{shows_view, view_shows}
use Rattle.book.proofs.Recovery.{attempts_view}
use Rattle.book.proofs.Alike.{alike}
use Rattle.book.proofs.Placed.{Held, attempts_held, ended_held, script_alone}
use Rattle.book.proofs.TidyFound.{Found, tidy_found}
use Rattle.book.proofs.StepTidy.{cleared, stored, same_shape, change, shows_cleared}

-- ---- lists of refusals

-- every number of a list is another
abbrev Others : ℕ → List Refusal → Type 0
Others n [] = Unit {0}
Others n (r ∷ rs) = (r.number ≢ n) × Others n rs

-- the tests before the answer do not hold
passed_before : (n : ℕ) (rs qs : List Refusal) → Others n rs → refusal (rs ++ qs) ≡ n → Passes rs × (refusal qs ≡ n)
unfolding refusal
passed_before n [] qs o h = (tt, h)
passed_before n (r ∷ rs) qs o h = elim (test (holds r.test)) [
  | inl e ↦ absurd (o.0 (rw e at h))
  | inr e ↦ let p = passed_before n rs qs o.1 (rw e at h) in ((denies r.test e, p.0), p.1)
]

after_passed : (rs qs : List Refusal) → Passes rs → refusal (rs ++ qs) ≡ refusal qs
unfolding refusal
after_passed [] qs p = refl
after_passed (r ∷ rs) qs p = rw (denied r.test p.0) (after_passed rs qs p.1)

comes_after : (n : ℕ) (rs qs : List Refusal) → Passes rs → comes_to n qs ≡ true → comes_to n (rs ++ qs) ≡ true
unfolding comes_to
comes_after n [] qs p h = h
comes_after n (r ∷ rs) qs p h = rw (denied r.test p.0) (or_right (eqb r.number n) (comes_after n rs qs p.1 h))

-- ---- a claim that the table refuses 8

module _ (words script h reel f : ℕ) (t : Table) where
  abbrev asked : Operation
  asked = claim words script h reel f

  abbrev before : List Refusal
  before =
      (bad_map (geometry t) words or bad_script script gives 3)
      ∷ (le head_count h gives 11)
      ∷ (is (not (table.is_idle (table_head t h))) gives 12)
      ∷ (is (not (is_present t reel)) gives 5)
      ∷ (is (is_held t reel f) gives 9)
      ∷ []

  abbrev last : Fed → List Refusal
  last x = (is (is_taken t reel f) or is (is_same_node x) gives 13) ∷ (is (is_no_run x) gives 8) ∷ []

  claim_tests : (x : Fed) → table_refusals asked x t ≡ before ++ last x
  unfolding table_refusals
  claim_tests x = refl

  record Waits : Type 0 where
    passed : Passes before
    not_taken : is_taken t reel f ≡ false

  waits : (reply asked no_run t).answer ≡ 8 → Waits
  unfolding refusal
  waits e =
      let p = passed_before 8 before (last no_run) (omega arith) (ap refusal (sym (claim_tests no_run)) ∙ sym (reply_is asked no_run t) ∙ e) in
      record { passed = p.0; not_taken = not-true-false (λ y. let z : ◌≡◌ {A = ℕ} 13 8 = rw y at p.1 in omega arith) }

  -- it comes to 13 and to 8, and where neither comes it is answered
  comes_13 : Waits → comes_to 13 (table_refusals asked nothing t) ≡ true
  unfolding comes_to
  comes_13 w = ap (comes_to 13) (claim_tests nothing) ∙ comes_after 13 before (last nothing) w.passed refl

  comes_8 : Waits → comes_to 8 (table_refusals asked nothing t) ≡ true
  unfolding comes_to
  comes_8 w = ap (comes_to 8) (claim_tests nothing) ∙ comes_after 8 before (last nothing) w.passed (rw w.not_taken refl)

  answered : Waits → (n : ℕ) → n ≡ (reply asked (fed n) t).answer → n ≢ 8 → n ≢ 13 → n ≡ 0
  unfolding refusal
  answered w n e no-8 no-13 =
      let a : is_no_run (fed n) ≡ false = not-true-false (λ y. no-8 (fed_8 n y)) in
      let b : is_same_node (fed n) ≡ false = not-true-false (λ y. no-13 (fed_13 n y)) in
      e ∙ reply_is asked (fed n) t ∙ ap refusal (claim_tests (fed n)) ∙ after_passed before (last (fed n)) w.passed ∙ rw (w.not_taken, a, b) refl

-- ---- a full path

module _ {r : Rule} {g : Geometry} {m m' : Memory} {slot n : ℕ} {w : List ℕ} (x : EmptyGroup g m slot w n) (t : Stores m (next_at g n) 0 m')
    (c : Pruned r g m m' (InGroup slot w (m (next_at g n) - 1))) where
  -- no node of it is empty, so that it stays
  full_after : {s f d : ℕ} → FullPath g m s f d → FullPath g m' s f d
  full_after {s} {f} {d} p = record {
    last = p.last;
    there = c.reaches.1 (
      p.there,
      λ y.
          let locate = ap (λ k. m (locate_at g k)) y.is ∙ (x.empty y.child y.low).unlocated in
          true_not_false (p.full d p.last (omega arith) p.there 0 (omega (arith, p.wide))) (ap (λ b. is_set b 0) locate ∙ no_bit 0),
    );
    ends = elim (ℕ_discrete p.last n) [
      | yes q ↦ ap (λ k. m' (next_at g k)) q ∙ t.new
      | no q ↦ sym (t.old (next_at g p.last) (λ z. q (omega arith))) ∙ p.ends
    ];
    wide = sym (t.old (size_at g p.last) (λ z. omega arith)) ∙ p.wide;
    full = λ j k l y. rw (← t.old (size_at g k) (λ z. omega arith), ← t.old (locate_at g k) (λ z. omega arith)) (p.full j k l (c.reaches.0 y).0);
  }

module _ {g : Geometry} {m : Memory} {slot f d : ℕ} (p : FullPath g m slot f d) where
  -- a full path has one end
  one_end : {d' : ℕ} → FullPath g m slot f d' → d' ≡ d
  one_end {d'} p' =
      let a = way_ends f d d' p.there p.ends p'.there in
      let b = way_ends f d' d p'.there p'.ends p.there in
      omega arith

-- a claim along a full path uses a node that no reel reaches
uses_unreached : {s : State} {t : Table} {slot f d n : ℕ} → Agrees s t → FullPath (shape s) (memory s) slot f d → UsesOf s slot f n
    → Reached (shape s) (memory s) n → ⊥
uses_unreached {f = f} {d = d} a p (at_clear {d = j} {p = q} r above l e) x =
    let low = way_ends f d j p.there p.ends r in
    true_not_false (p.full j _ (omega arith) r q l) e
uses_unreached {s} {f = f} {d = d} a p (at_root r ends small full) x =
    let top = rw (← root_way f) at r in
    let q : d ≡ 0 = omega (arith, way_ends f 0 d top ends p.there) in
    let same = (reach_laws (shape s) (memory s)).one_node (rw (q, root_way f) at p.there) r in
    omega (arith, small, p.wide, ap (λ k. memory s (size_at (shape s) k)) same)
uses_unreached {f = f} a p (at_child {d = j} y run) x = run.run.free (child j f) (child_laws.below j f (full_above_31 a y)) x

-- and a head is at one that its reel reaches
head_reached : {s : State} {t : Table} {k slot : ℕ} → Agrees s t → (x : HeadNames s k slot) → Reached (shape s) (memory s) x.target.node
head_reached {k = k} a x = let c = about_claim (a.heads k x.low) x.about in record { slot = x.target.slot; way = _; there = c.2.on_path_lem }

-- ---- a claim refused 8, made again where the table is the same and its path as full

module _ {s s' : State} {t : Table} (a : Agrees s t) (a' : Agrees s' t)
    (words script h reel f : ℕ) (fit : Fit (h ∷ reel ∷ f ∷ []))
    (slot_then : (k : ℕ) → SlotHas (shape s) (memory s) reel k → SlotHas (shape s') (memory s') reel k)
    (full_then : (k d : ℕ) → FullPath (shape s) (memory s) k f d → FullPath (shape s') (memory s') k f d) where
  abbrev c : Operation
  c = claim words script h reel f

  still_lacks : {k d : ℕ} → SlotHas (shape s') (memory s') reel k → FullPath (shape s') (memory s') k f d → (start : ℕ)
      → UnreachedRun (shape s') (memory s') (fanout d) start → Lacks s' c → ⊥
  still_lacks b p start run (no_run_lem b' p' none) = none start (rw (one_end p (rw (one_slot a'.shows b' b) at p')) run)

  in_nobodys_way : Waits words script h reel f t → {k d : ℕ} → SlotHas (shape s') (memory s') reel k → FullPath (shape s') (memory s') k f d → InTheWay s' c → ⊥
  in_nobodys_way w b p (same_frame {k = i} r' d x q) =
      let idle = same_idle (a'.heads h w.passed.1.0) ∙ not-false _ w.passed.1.1.0 in
      let y : HeadNames s' i _ = record { low = x.low; target = x.target; about = x.about; of_slot = x.of_slot ∙ one_slot a'.shows r' b } in
      true_not_false ((taken_by a' b words script f h idle).1 (i, y, q)) w.not_taken
  in_nobodys_way w b p (same_node r' d x u) = uses_unreached a' p (rw (one_slot a'.shows r' b) at u) (head_reached a' x)

  made_again : (perform c s).answer ≡ 8 → MadeAgain words script h reel f s s'
  made_again refused = go (((alike a c fit).no_run_lem (comes_8 words script h reel f t w)).0 refused)
    where
      w : Waits words script h reel f t
      w = waits words script h reel f t (sym (rw refused at (alike a c fit).answer))

      go : Lacks s c → MadeAgain words script h reel f s s'
      go (no_run_lem {slot = k} {d = d} b p none) = record {
        slot = k;
        of_reel = b;
        level = d;
        full = p;
        run = λ start run.
            let again = alike a' c fit in
            answered words script h reel f t w (perform c s').answer again.answer
            (λ z. still_lacks (slot_then k b) (full_then k d p) start run ((again.no_run_lem (comes_8 words script h reel f t w)).0 z))
            (λ z. in_nobodys_way w (slot_then k b) (full_then k d p) ((again.busy (comes_13 words script h reel f t w)).0 z));
        no_run_lem = λ none'. ((alike a' c fit).no_run_lem (comes_8 words script h reel f t w)).1 (no_run_lem (slot_then k b) (full_then k d p) none');
      }

-- ---- an answered Tidy

held_itself : {im : List ℕ} → SameHeld im im
held_itself = record { frames = (λ x. x, λ x. x) }

module _ {s : State} {t : Table} (a : Agrees s t) (words scratch script reel : ℕ) (h : (perform (tidy words scratch script reel) s).answer ≡ 0) where
  abbrev op : Operation
  op = tidy words scratch script reel

  f : Found s words scratch script reel
  f = tidy_found s words scratch script reel h

  abbrev slot : ℕ
  slot = slot_of (shape s) (memory s) reel

  abbrev im' : List ℕ
  im' = cleared a slot f.parent f.first.is f.inside

  image_then : (done op s).image ≡ im'
  image_then =
      ap (λ y. y.image) (done_granted op s h ∙ ap carried_out f.work) ∙ apply_single s.image ((next_at (shape s) f.parent.node, 0) ∷ [])

  cleared_held : SameHeld s.image im'
  cleared_held = record { frames = rw (same_shape a slot f.parent f.first.is f.inside) (change a slot f.parent f.first.is f.inside).holds }

  done_held : SameHeld s.image (done op s).image
  done_held = rw image_then cleared_held

  cut_held : {on : Module} (k : ℕ) (m : List ℕ) → Interrupted on op s k m → SameHeld s.image m × Shows m t
  cut_held k m c =
      let w = work_granted op s h ∙ f.work in
      let store : Store = (next_at (shape s) f.parent.node, 0) in
      let crash = rw w at (script_alone c (ap (λ y. y.after.image) w)) in
      falls_through (λ im. SameHeld s.image im × Shows im t) (crash_laws.falls_in s.image ((store ∷ []) ∷ []) _ m crash)
      (through_each (λ im. SameHeld s.image im × Shows im t) s.image (store ∷ []) (held_itself, a.shows)
      ((cleared_held, shows_cleared a slot f.parent f.first.is f.inside), tt))

  -- a claim refused 8 before it: its path is as full after it
  makes_room : Agrees (done op s) t → TidyMakesRoom s (done op s)
  makes_room a' words' script' h' reel' f' fit = made_again a a' words' script' h' reel' f' fit (λ k. slot_then) (λ k d. full_then)
    where
      t' : Stores (memory s) (next_at (shape s) f.parent.node) 0 (reads im')
      t' = stored a slot f.parent f.first.is f.inside

      same : geometry_of (reads im') ≡ shape s
      same = same_shape a slot f.parent f.first.is f.inside

      full_then : {k f' d : ℕ} → FullPath (shape s) (memory s) k f' d → FullPath (shape (done op s)) (memory (done op s)) k f' d
      full_then p = rw (image_then, same) (full_after f.first.is t' (change a slot f.parent f.first.is f.inside) p)

      slot_then : {reel' k : ℕ} → SlotHas (shape s) (memory s) reel' k → SlotHas (shape (done op s)) (memory (done op s)) reel' k
      slot_then b =
          let slots = node_slots {g = shape s} f.parent.node (omega arith) t' in
          rw (image_then, same) (record { open_slot = slots.filled.0 b.open_slot; number = sym (slots.reels b.open_slot) ∙ b.number })

-- ---- histories

-- the table is the same after Tidy, whatever it is fed
same_table : (words scratch script reel : ℕ) (x : Fed) (t : Table) → (reply (tidy words scratch script reel) x t).work.after ≡ t
unfolding reply table_work
same_table words scratch script reel x t =
    elim (test (eqb (refusal (table_refusals (tidy words scratch script reel) x t)) 0)) [ inl e ↦ rw e refl | inr e ↦ rw e refl ]

pub tidying_from : {on : Module} → Demand3 on → Tidying on
tidying_from {on} demand3 s t follows words scratch script reel fit = record {
  table = same_table words scratch script reel _ t;
  agrees = agrees;
  held = held;
  cut = λ k m m' c tried.
      let now = cut k m c in
      let e = attempts_held tried in
      (held_then now.0 e, view_shows (attempts_view tried (shows_view now.1)) now.1.slots now.1.nodes);
  recovered = λ k m s' c r. (
    held_then (cut k m c).0 (ended_held r),
    elim (((demand3 s t follows).survives op fit k m m c none_yet).whole s' r) [
      | inl y ↦ y.1
      | inr y ↦ rw (same_table words scratch script reel _ t) at y
    ],
  );
  room = λ e. makes_room a words scratch script reel e agrees;
}
  where
    op : Operation
    op = tidy words scratch script reel

    a : Agrees s t
    a = (demand3 s t follows).agrees

    agrees : Agrees (done op s) t
    agrees = rw (same_table words scratch script reel _ t) at (demand3 _ _ (performed follows op fit)).agrees

    held : SameHeld s.image (done op s).image
    held = elim (ℕ_discrete (perform op s).answer 0) [
      | yes e ↦ done_held a words scratch script reel e
      | no e ↦ rw (done_image op s e) held_itself
    ]

    held_then : {im im' : List ℕ} → SameHeld s.image im → Held im im' → SameHeld s.image im'
    held_then h e = record { frames = (λ x. h.frames.0 (e.held x).0, λ x. e.still (h.frames.1 x)) }

    cut : (k : ℕ) (m : List ℕ) → Interrupted on op s k m → SameHeld s.image m × Shows m t
    cut k m c = elim (ℕ_discrete (perform op s).answer 0) [
      | yes e ↦ cut_held a words scratch script reel e k m c
      | no e ↦ rw (crash_none s.image _ m (rw (demand1.refused op s e).no_store at (script_alone c (refused_image op s e)))) (held_itself, a.shows)
    ]
