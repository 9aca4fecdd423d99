-- 13, in histories: the book's tests of its heads say that a head is in the operation's way, and the table's that one has the frame.
use mathlib.Core.Path.{◌≡◌, sym, ◌∙◌, subst}
use mathlib.Core.Bool.{true, false, ◌&&◌}
use mathlib.Core.Logic.{inl, inr, ◌↔◌, ◌≢◌}
use Prim.Native.Nat.{ℕ}
use lib.Dec.{eqb}
use borrow.Author.Tests.{eqb-true, eq-eqb, not-true}
use Rattle.tree.specs.Memory.{Memory, reads}
use Rattle.tree.specs.Test.{holds}
use Rattle.tree.specs.declared.layout.Geometry.{Geometry}
use Rattle.tree.specs.Lookup.{path_from}
use Rattle.tree.specs.Room.{room_on}
use Rattle.tree.proofs.Cases.{true_not_false, and-true, true_and}
use Rattle.book.specs.declared.Target.{Target}
use Rattle.book.specs.declared.HeadState.{HeadState}
use Rattle.book.specs.Heads.{head_at, is_idle, busy}
use Rattle.book.specs.State.{State, Operation, claim, remove, retire, tidy, memory, shape}
use Rattle.book.specs.Checks.{no_run_for, in_conflict}
use Rattle.book.specs.Table.{Table, TableHead, table_head, frame_of, is_about, is_taken}
use Rattle.book.specs.Agrees.{About, by_claim, by_fill, HeadAgrees, both_idle, both_claimed, both_filled, Agrees}
use Rattle.book.specs.Ways.{SlotHas, UsesOf, HeadNames, InTheWay, same_frame, same_node, of_remove, of_retire, of_tidy}
use Rattle.book.proofs.Heads.{idle_nothing, names_about, any_table_head_lem}
use Rattle.book.proofs.Reading.{one_slot, path_there, same_names}
use Rattle.book.proofs.Level31.{full_above_31, lowest_found}
use Rattle.book.proofs.Uses.{uses}
use Rattle.book.proofs.Conflicts.{busy_by, conflict_by}

-- a head's frame is the table's
same_frames : {g : Geometry} {m : Memory} {x : HeadState} {y : TableHead} {z : Target} → HeadAgrees g m x y → About z x → z.frame ≡ frame_of y
same_frames both_idle x = elim x [ ]
same_frames (both_claimed c) by_claim = c.of_frame
same_frames (both_filled c w) by_fill = c.of_frame

module _ {s : State} {t : Table} (a : Agrees s t) {reel slot : ℕ} (r : SlotHas (shape s) (memory s) reel slot) where
  -- a reel has one slot
  abbrev its_slot : {k slot' : ℕ} → SlotHas (shape s) (memory s) reel slot' → HeadNames s k slot' → HeadNames s k slot
  its_slot r' x = record { low = x.low; target = x.target; about = x.about; of_slot = x.of_slot ∙ one_slot a.shows r' r }

  its_use : {f n slot' : ℕ} → SlotHas (shape s) (memory s) reel slot' → UsesOf s slot' f n → UsesOf s slot f n
  its_use {f} {n} r' u = subst (λ i. UsesOf s i f n) (one_slot a.shows r' r) u

  -- in an operation that any head in the slot is in the way of
  busy_in : {op : Operation} → ((k : ℕ) → HeadNames s k slot → InTheWay s op) → (InTheWay s op → (k : ℕ) × HeadNames s k slot)
      → (busy s.heads slot ≡ true) ↔ InTheWay s op
  busy_in there back = (λ e. let x = (busy_by s slot).0 e in there x.0 x.1, λ b. (busy_by s slot).1 (back b))

  pub busy_remove : (script f : ℕ) → (busy s.heads slot ≡ true) ↔ InTheWay s (remove script reel f)
  busy_remove script f = busy_in (λ k x. of_remove r x) (λ b. elim b [ of_remove {k = k} r' x ↦ (k, its_slot r' x) ])

  pub busy_retire : (words scratch script : ℕ) → (busy s.heads slot ≡ true) ↔ InTheWay s (retire words scratch script reel)
  busy_retire words scratch script = busy_in (λ k x. of_retire r x) (λ b. elim b [ of_retire {k = k} r' x ↦ (k, its_slot r' x) ])

  pub busy_tidy : (words scratch script : ℕ) → (busy s.heads slot ≡ true) ↔ InTheWay s (tidy words scratch script reel)
  busy_tidy words scratch script = busy_in (λ k x. of_tidy r x) (λ b. elim b [ of_tidy {k = k} r' x ↦ (k, its_slot r' x) ])

  -- ---- in Claim

  module _ (words script f h : ℕ) (idle : is_idle (head_at s.heads h) ≡ true) where
    other : {k : ℕ} → HeadNames s k slot → k ≢ h
    other x q = idle_nothing idle (subst (λ k. About x.target (head_at s.heads k)) q x.about)

    -- the table's own part: a head with the frame
    pub taken_by : (is_taken t reel f ≡ true) ↔ ((k : ℕ) × (x : HeadNames s k slot) × (x.target.frame ≡ f))
    taken_by = (there, back)
      where
        there : is_taken t reel f ≡ true → (k : ℕ) × (x : HeadNames s k slot) × (x.target.frame ≡ f)
        there e =
            let k = (any_table_head_lem (λ y. is_about reel y && eqb (frame_of y) f) t).0 e in
            let l = rw a.table_heads at k.1 in
            let b = and-true (is_about reel (table_head t k.0)) _ k.2 in
            let both = a.heads k.0 l in
            let z = (names_about slot (head_at s.heads k.0)).0 (same_names a.shows r both ∙ b.0) in (
              k.0,
              record { low = l; target = z.0; about = z.1; of_slot = z.2 },
              same_frames both z.1 ∙ eqb-true (frame_of (table_head t k.0)) f b.1,
            )

        back : (k : ℕ) × (x : HeadNames s k slot) × (x.target.frame ≡ f) → is_taken t reel f ≡ true
        back k =
            let x = k.1 in
            let both = a.heads k.0 x.low in
            let about = (names_about slot (head_at s.heads k.0)).1 (x.target, x.about, x.of_slot) in
            (any_table_head_lem (λ y. is_about reel y && eqb (frame_of y) f) t).1 (
              k.0,
              rw a.table_heads x.low,
              true_and (sym (same_names a.shows r both) ∙ about)
                  (eq-eqb (frame_of (table_head t k.0)) f (sym (same_frames both x.about) ∙ k.2)),
            )

    pub taken_in_the_way : is_taken t reel f ≡ true → InTheWay s (claim words script h reel f)
    taken_in_the_way e = let k = taken_by.0 e in same_frame r (other k.1) k.1 k.2

    pub conflict_claim : (holds (in_conflict (shape s) (reads s.pool) s.heads slot (room_on (shape s) (memory s) (path_from (shape s) (memory s) slot f)) f) ≡ true)
        ↔ InTheWay s (claim words script h reel f)
    conflict_claim =
        let p = path_there a.shows r.open_slot f in
        let b = conflict_by s {slot = slot} {f = f} (lowest_found a) (λ d. full_above_31 a) p.0 r.open_slot p.1 in
        rw p.1 (
          λ e. let k = b.0 e in elim k.2 [ inl q ↦ same_frame r (other k.1) k.1 q | inr u ↦ same_node r (other k.1) k.1 u ],
          λ w. elim w [
            | same_frame {k = k} r' d x q ↦ b.1 (k, its_slot r' x, inl q)
            | same_node {k = k} r' d x u ↦ b.1 (k, its_slot r' x, inr (its_use r' u))
          ],
        )

    -- a claim that lacks a run uses no node, so that only a head with the frame is in its way
    pub lacking : holds (no_run_for (shape s) (reads s.pool) (room_on (shape s) (memory s) (path_from (shape s) (memory s) slot f))) ≡ true
        → is_taken t reel f ≡ false → InTheWay s (claim words script h reel f) → ⊥
    lacking none own (same_frame {k = k} r' d x q) = true_not_false (taken_by.1 (k, its_slot r' x, q)) own
    lacking none own (same_node {k = k} r' d x u) =
        let p = path_there a.shows r.open_slot f in
        let y = (uses (reads s.pool) (lowest_found a) (λ d. full_above_31 a) p.0 r.open_slot p.1 x.target.node).1 (its_use r' u) in
        true_not_false (rw p.1 at none) (not-true _ y.run)
