-- Reel slots: the filled ones, a reel's, the lowest empty one.
use mathlib.Core.Path.{◌≡◌, refl}
use mathlib.Core.Bool.{true, not}
use mathlib.Core.Logic.{◌↔◌}
use mathlib.Core.List.{Memᴰ}
use Prim.Native.Nat.{ℕ, ◌<◌}
use native.Mathlib.Omega.{arith}
use lib.Dec.{eqb}
use borrow.Author.Tests.{eqb-true, eq-eqb, not-true, not-false}
use Rattle.memory.specs.Words.{Memory}
use Rattle.memory.specs.Laws.{SearchLaws}
use Rattle.tree.specs.Test.{Test, is, eq, ◌and◌, holds}
use Rattle.tree.specs.Lists.{up_to, Distinct}
use Rattle.tree.specs.declared.layout.Geometry.{Geometry}
use Rattle.tree.specs.Layout.{reel_at, root_at}
use Rattle.tree.specs.Slots.{filled, Filled, filled_slots, slot_of, empty_slot}
use Rattle.tree.specs.Laws.{SlotLaws}
use Rattle.tree.proofs.Cases.{nonzero, nonzero_test}
use Rattle.tree.proofs.Tests.{says, said}
use Rattle.tree.proofs.Lists.{up_to_members, kept, keeps}
use Rattle.tree.proofs.Distinct.{distinct_keep, distinct_up_to}
use Rattle.memory.proofs.Laws.{first_laws}

-- the test of a slot's root word
pub filled_test : (m : Memory) (s : ℕ) → (filled m s ≡ true) ↔ (0 < m (root_at s))
unfolding filled
filled_test m s = (λ h. nonzero (m (root_at s)) (not-true (eqb (m (root_at s)) 0) h), λ h. rw (nonzero_test (m (root_at s)) h))

module _ (g : Geometry) (m : Memory) where
  pub filled_slots_lem : {s : ℕ} → Memᴰ s (filled_slots g m) ↔ Filled g m s
  unfolding filled_slots
  filled_slots_lem {s} = (
    λ x. let t = kept (filled m) (up_to g.slots) x in record { inside = (up_to_members g.slots).0 t.0; linked = (filled_test m s).0 t.1 },
    λ b. keeps (filled m) ((up_to_members g.slots).1 b.inside) ((filled_test m s).1 b.linked),
  )

  pub distinct_slots : Distinct (λ s. s) (filled_slots g m)
  unfolding filled_slots
  distinct_slots = distinct_keep (filled m) (distinct_up_to g.slots)

  -- the tests that the two searches make
  is_reel : ℕ → ℕ → Test
  is_reel reel s = is (filled m s) and eq (m (reel_at s)) reel

  reel_search : (reel : ℕ) → SearchLaws (λ s. holds (is_reel reel s)) g.slots
  reel_search reel = first_laws (λ s. holds (is_reel reel s)) g.slots

  pub slot_laws : SlotLaws g m
  unfolding slot_of empty_slot is_reel filled
  slot_laws = record {
    listed = filled_slots_lem;
    listed_once = distinct_slots;
    reel = λ reel h.
        let t = says (is_reel reel (slot_of g m reel)) ((reel_search reel).holds h) in
        (record { inside = h; linked = (filled_test m (slot_of g m reel)).0 t.0 }, t.1);
    lowest = λ {s} b. (reel_search (m (reel_at s))).least s b.inside (said (is_reel (m (reel_at s)) s) ((filled_test m s).1 b.linked, refl));
    empty = λ h. eqb-true (m (root_at (empty_slot g m))) 0 (not-false _ (not-true _ ((first_laws (λ s. not (filled m s)) g.slots).holds h)));
    lowest_empty = λ s h e. (first_laws (λ s. not (filled m s)) g.slots).least s h (rw (eq-eqb (m (root_at s)) 0 e));
  }

-- a filled slot whose reel no other has is its reel's
pub own_slot : {g : Geometry} {m : Memory} {s : ℕ} → ((s' : ℕ) → Filled g m s' → m (reel_at s') ≡ m (reel_at s) → s' ≡ s) → Filled g m s
    → slot_of g m (m (reel_at s)) ≡ s
own_slot {g} {m} {s} only b =
    let l = slot_laws g m in
    let t = l.reel (m (reel_at s)) (omega (arith, l.lowest b, b.inside)) in
    only (slot_of g m (m (reel_at s))) t.0 t.1
