-- The step of Commit: the set bit is put on, the frame joins its reel, and the head is idle.
use mathlib.Core.Path.{◌≡◌, refl, sym, ◌∙◌, ap}
use mathlib.Core.Bool.{Bool, true}
use mathlib.Core.Logic.{inl, inr}
use mathlib.Core.List.{List, [], ◌∷◌}
use Prim.Native.Nat.{ℕ, ◌<◌}
use native.Mathlib.Omega.{arith}
use lib.ListN.{length}
use borrow.Author.Tests.{not-false}
use Rattle.tree.specs.Memory.{Memory, reads, is_set, with_bit, Store, Fit, single, set_all}
use Rattle.tree.specs.declared.layout.Geometry.{Geometry}
use Rattle.tree.specs.Layout.{geometry_of, locate_at, set_at}
use Rattle.tree.specs.Path.{way_of}
use Rattle.tree.specs.Fingerprint.{rule_of}
use Rattle.tree.specs.Node.{held}
use Rattle.tree.specs.Reach.{FrameOf}
use Rattle.tree.specs.Same.{Stores}
use Rattle.tree.specs.Changes.{Commits, Committed}
use Rattle.tree.proofs.Cases.{true_not_false}
use Rattle.tree.proofs.Memory.{bit_laws}
use Rattle.tree.proofs.Laws.{child_laws, change_laws}
use Rattle.book.specs.declared.Target.{Target}
use Rattle.book.specs.declared.HeadState.{HeadState}
use Rattle.book.specs.declared.HeadState.TheVariants as heads
use Rattle.book.specs.Heads.{head_count, head_at, is_filled, target_of, with_head}
use Rattle.book.specs.State.{State, commit, arguments}
use Rattle.book.specs.Checks.{refusals}
use Rattle.book.specs.Perform.{granted, writing, perform}
use Rattle.book.specs.Table.{Table, TableHead, Reel, table_head, idle, reel_of, frame_of, change_frames, joined, table_work}
use Rattle.book.specs.Agrees.{Claims, Written, HeadAgrees, both_idle, both_claimed, both_filled, About, by_fill, Agrees}
use Rattle.book.specs.Demands.{FilledBy}
use Rattle.book.proofs.Refusals.{passes}
use Rattle.book.proofs.Performed.{answer_is}
use Rattle.book.proofs.View.{View}
use Rattle.book.proofs.Heads.{filled_is}
use Rattle.book.proofs.Step.{Step}
use Rattle.book.proofs.Keeps.{Keeping}
use Rattle.book.proofs.Stored.{stores_set, header_set, node_inside}
use Rattle.book.proofs.Views.{view_committed}
use Rattle.book.proofs.Showing.{shows_view}
use Rattle.book.proofs.OnePlace.{OnePlace, set_place}
use Rattle.book.proofs.Replaced.{claim_formed, claim_low, retabled, idled}
use Rattle.book.proofs.Single.{agrees_by, left_new, agrees_new, step_of}

-- ---- what it does

-- one store
abbrev setting : Geometry → Memory → Target → List Store
setting g m x = (set_at g x.node, with_bit (m (set_at g x.node)) x.place) ∷ []

module _ (script h : ℕ) (s : State) where
  commit_passes : (perform (commit script h) s).answer ≡ 0 → (h < head_count) × (is_filled (head_at s.heads h) ≡ true)
  unfolding refusals
  commit_passes e =
      let p = passes (refusals (commit script h) s) (omega arith) (sym (answer_is (commit script h) s) ∙ e) in
      (p.1.1.1.1.0, not-false _ p.1.1.1.1.1.0)

  commit_granted : granted (commit script h) s ≡ writing (single (setting (geometry_of (reads s.image)) (reads s.image) (target_of (head_at s.heads h))))
      (record { image = s.image; pool = s.pool; heads = with_head s.heads h heads.Idle })
  unfolding granted
  commit_granted = refl

abbrev joining : Table → ℕ → List Reel
joining t h = change_frames (reel_of (table_head t h)) (joined (frame_of (table_head t h))) t.reels

commit_table : (script h : ℕ) (t : Table) → (table_work (commit script h) t).after ≡ retabled t (joining t h) h idle
unfolding table_work
commit_table script h t = refl

-- a filled head's claim, with frame and fingerprint in place
record Filling (g : Geometry) (m : Memory) (x : HeadState) (reel f : ℕ) : Type 0 where
  about : About (target_of x) x
  claim : Claims g m (target_of x) reel f
  written : Written g m (target_of x) f

filling : {g : Geometry} {m : Memory} {x : HeadState} {y : TableHead} → HeadAgrees g m x y → is_filled x ≡ true → Filling g m x (reel_of y) (frame_of y)
filling both_idle h = absurd (true_not_false h refl)
filling (both_claimed c) h = absurd (true_not_false h refl)
filling (both_filled c w) h = record { about = by_fill; claim = c; written = w }

-- ---- the image after it

module _ {g : Geometry} {o : Bool} {im : List ℕ} {rs : List Reel} {x : Target} {reel f : ℕ} (v : View g o im rs) (c : Claims g (reads im) x reel f)
    (written : Written g (reads im) x f) where
  abbrev word : ℕ
  word = with_bit (reads im (set_at g x.node)) x.place

  abbrev held_now : List ℕ
  held_now = set_all im (setting g (reads im) x)

  inside : set_at g x.node < length im
  inside = node_inside x.node 2 v.header (claim_formed v.sound c).inside (omega arith)

  stored : Stores (reads im) (set_at g x.node) word (reads held_now)
  stored = stores_set im _ _ inside

  commits : Commits (rule_of (reads im)) g (reads im) x.slot (way_of c.depth f) x.node x.place f word
  commits = record {
    there = c.on_path_lem;
    place = claim_low v.sound c;
    is = written.frame_there;
    on_path_lem = ap (λ k. way_of k f) (sym (child_laws.length_way c.depth f));
    fingerprinted = written.fingerprint_there;
    new_frame_lem = c.not_held;
    bits = record {
      others = λ q d. sym (bit_laws.with_keeps _ x.place q d);
      fits = bit_laws.with_fits _ _ _ c.place (claim_formed v.sound c).set;
    };
    on = bit_laws.with_sets _ x.place;
  }

  change : Committed (rule_of (reads im)) g (reads im) (reads held_now) x.slot (way_of c.depth f) x.node x.place f
  change = (change_laws (reads held_now) v.sound).committed commits stored

  view : View g o held_now (change_frames reel (joined f) rs)
  view = rw c.of_reel at
      (view_committed v (header_set _ word v.header (omega arith) inside (bit_laws.with_fits _ _ 64 (claim_low v.sound c) (v.header.fits _))) commits stored)

  place : OnePlace g (reads im) (reads held_now) x.node x.place
  place = set_place x.node x.place stored (λ q d. sym (bit_laws.with_keeps _ x.place q d))

  -- the frame that is new is the one that the head had filled its place with
  keeping : {ws : List ℕ} → FilledBy ws x.slot x.node x.place f → Keeping ws g (reads im) (reads held_now)
  keeping y = record {
    reels = λ b b'. place.reels b;
    held = λ {s} {w} {n} {p} {f = f'} u. elim (change.holds.0 u) [
      | inl z ↦ inl z
      | inr z ↦ inr (rw (z.slot, z.node, z.place, z.is) (c.open_slot, c.not_held, y))
    ];
  }

  -- no other frame is new
  frames : (slot f' : ℕ) → ((slot ≡ x.slot) × (f' ≡ x.frame) → ⊥) → FrameOf g (reads held_now) slot f' → FrameOf g (reads im) slot f'
  frames slot f' d y = elim (change.holds.0 y.holds) [
    | inl z ↦ record { way = y.way; node = y.node; place = y.place; holds = z }
    | inr z ↦ absurd (d (z.slot, z.is ∙ sym c.of_frame))
  ]

  -- located and held
  bits : is_set (reads held_now (locate_at g x.node)) x.place ≡ held g (reads held_now) x.node x.place
  bits =
      ap (λ w. is_set w x.place) (sym (stored.old (locate_at g x.node) (λ q. omega arith))) ∙ c.located
      ∙ sym (ap (λ w. is_set w x.place) stored.new ∙ bit_laws.with_sets _ x.place)

pub step_commit : {s : State} {t : Table} → Agrees s t → (script h : ℕ) → Fit (arguments (commit script h)) → (perform (commit script h) s).answer ≡ 0
    → Step (commit script h) s t
step_commit {s} {t} a script h fits e =
    let p = commit_passes script h s e in
    let y = filling (a.heads h p.0) p.1 in
    let c = y.claim in let w = y.written in
    let v = shows_view a.shows in
    let by : FilledBy s.heads (target_of (head_at s.heads h)).slot _ _ (frame_of (table_head t h)) = record {
      head = h;
      low = p.0;
      target = target_of (head_at s.heads h);
      filled = filled_is (head_at s.heads h) p.1;
      of_slot = refl;
      of_node = refl;
      of_place = refl;
      of_frame = c.of_frame;
    } in
    step_of (setting (geometry_of (reads s.image)) (reads s.image) (target_of (head_at s.heads h))) s.pool (with_head s.heads h heads.Idle)
    (retabled t (joining t h) h idle) a.shows (commit_granted script h s) (commit_table script h t)
    (left_new a.shows (view v c w) refl refl (keeping v c w by), tt)
    (agrees_new a.shows (view v c w) refl refl
    (idled (agrees_by a) p.0 y.about (held_now v c w) v.sound (place v c w) (frames v c w) (joining t h) (bits v c w)))
