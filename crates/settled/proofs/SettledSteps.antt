-- The test of frames, a step at a time: down a frame's path below a node, over a node's places, and along a group of children.
use mathlib.Core.Path.{◌≡◌, refl, sym, ◌∙◌, ap, subst}
use mathlib.Core.Bool.{Bool, true, false, not, ◌&&◌}
use mathlib.Core.Logic.{◌≢◌, inl, inr}
use mathlib.Core.Option.{Option, none, some}
use mathlib.Core.List.{List, []}
use Prim.Native.Nat.{ℕ, zero, suc, ◌+◌, ◌-◌, ◌^◌, ◌≤◌, ◌<◌}
use native.Mathlib.Omega.{arith}
use native.Mathlib.Decide.{dec_lt}
use lib.Bits.{bit_and, and_mask}
use lib.Count.{count_trailing_zeros}
use lib.Dec.{eqb, leb}
use borrow.Author.Tests.{eqb-false, eq-eqb, ne_eqb, le-leb, lt-leb, le-ltb, lt-ltb}
use Rattle.memory.specs.Words.{Memory, without_bit}
use Rattle.memory.specs.Search.{first}
use Rattle.memory.specs.Apply.{is_some}
use Rattle.tree.specs.Lists.{up_to, every}
use Rattle.tree.specs.declared.layout.Geometry.{Geometry}
use Rattle.tree.specs.Layout.{next_at, set_at}
use Rattle.tree.specs.Path.{levels, fanout, child, bits_to}
use Rattle.tree.specs.Fingerprint.{fingerprint, rule_of}
use Rattle.tree.specs.Node.{child_of, well_formed, frame, stored_fingerprint}
use Rattle.tree.specs.Lookup.{before, path, found_at, lookup, first_spot}
use Rattle.tree.specs.Subtree.{held_places}
use Rattle.tree.specs.Laws.{WellFormed}
use Rattle.tree.proofs.Cases.{test, seen, nothing, just}
use Rattle.tree.proofs.Lists.{up_to_members, every_at, every_flat_map}
use Rattle.tree.proofs.Nodes.{children_inside}
use Rattle.tree.proofs.Laws.{child_laws, node_laws}
use Rattle.std.specs.Prelude.{Option as Optional, Some, None}
use Rattle.paths.specs.Descent.{step_from, trail_on, trail_from}
use Rattle.visits.specs.Walk.{group_stops, formed_at}
use Rattle.settled.specs.Settled.{Formed, is_absent, absent_below, holds_at, settled_at, settled_node}
use Rattle.visits.specs.Places.{set_places}
use Rattle.visits.proofs.Places.{places_none, places_next}
use Rattle.visits.proofs.StopFacts.{node_facts, linked_facts}

module _ (g : Geometry) (m : Memory) where
  pub known_facts : {left n : ℕ} → Formed g m left n → WellFormed g m (levels - left) n
  known_facts a = node_facts g m _ _ a.some_left a.all_left a.is

  pub known_formed : {left n : ℕ} → Formed g m left n → well_formed g m (levels - left) n ≡ true
  known_formed {left} {n} a = ((node_laws g m).facts (levels - left) n).1 (known_facts a)

  -- so are its children
  pub children_formed : {left n next : ℕ} → Formed g m left n → next ≡ m (next_at g n) → next ≢ 0 → (c : ℕ) → c < fanout (levels - left)
      → Formed g m (left - 1) (next - 1 + c)
  unfolding group_stops
  children_formed {left} {n} a e z c l =
      let t = linked_facts g m left n a.some_left a.all_left e z a.is in
      let all = sym (every_flat_map (formed_at g m) _ (up_to (fanout (levels - left)))) ∙ t.formed in
      record { some_left = omega (arith, t.above); all_left = omega (arith, a.all_left); is = every_at _ all ((up_to_members _).1 l) }

  -- and the one on a frame's path
  child_formed : {left n : ℕ} → Formed g m (suc left) n → eqb (m (next_at g n)) 0 ≡ false → (f : ℕ)
      → Formed g m left (child_of g m n (child (levels - suc left) f))
  child_formed {left} {n} a z f =
      let e : suc left - 1 ≡ left = omega arith in
      let o = eqb-false (m (next_at g n)) 0 z in
      let d = levels - suc left in
      rw e at (children_formed a refl o (child d f) (child_laws.below d f (children_inside (known_facts a) o).0))

  -- ---- down a frame's path

  module _ (f : ℕ) where
    -- the lookup finds the frame in no node of a path that is there
    abbrev absent_on : Option (List ℕ) → Bool
    absent_on none = false
    absent_on (some ns) = not (is_some (lookup (rule_of m) g m f ns))

    trail_absent : (d n : ℕ) → is_absent (trail_from g m false d n f) ≡ absent_on (path g m (32 - d) d n f)
    unfolding trail_from trail_on
    trail_absent d n = elim (seen (path g m (32 - d) d n f)) [
      | nothing q ↦ rw q refl
      | just ns q ↦ rw q (elim (seen (lookup (rule_of m) g m f ns)) [ nothing z ↦ rw z refl | just t z ↦ rw z refl ])
    ]

    absent_before : (n : ℕ) (o : Option (List ℕ)) → absent_on (before n o) ≡ leb 64 (found_at (rule_of m) g m f n) && absent_on o
    unfolding lookup first_spot
    absent_before n o = elim (dec_lt (found_at (rule_of m) g m f n) 64) [
      | yes l ↦
          rw (lt-leb 64 (found_at (rule_of m) g m f n) l)
          (elim (seen o) [ nothing q ↦ rw q refl | just ns q ↦ rw (q, lt-ltb (found_at (rule_of m) g m f n) 64 l) refl ])
      | no l ↦
          let h : 64 ≤ found_at (rule_of m) g m f n = omega arith in
          rw (le-leb 64 (found_at (rule_of m) g m f n) h)
          (elim (seen o) [ nothing q ↦ rw q refl | just ns q ↦ rw (q, le-ltb (found_at (rule_of m) g m f n) 64 h) refl ])
    ]

    -- the path from a node known to be formed with all below it is there
    path_absent : (left : ℕ) {n : ℕ} → Formed g m left n
        → absent_on (path g m left (levels - left) n f) ≡ leb 64 (found_at (rule_of m) g m f n) && absent_below g m left (levels - left) n f
    unfolding path absent_below lookup first_spot
    path_absent zero a = absurd (omega (arith, a.some_left))
    path_absent (suc left) {n} a =
        let d = levels - suc left in
        let next : levels - left ≡ suc d = omega (arith, a.all_left) in
        rw (known_formed a) (elim (test (eqb (m (next_at g n)) 0)) [
          | inl z ↦ rw z (absent_before n (some []))
          | inr z ↦
              rw z (absent_before n (path g m left (suc d) (child_of g m n (child d f)) f)
              ∙ ap (λ b. leb 64 (found_at (rule_of m) g m f n) && b) (rw next at (path_absent left (child_formed a z f))))
        ])

    -- what the step from such a node tells of those below
    abbrev Tells : (left n : ℕ) → Optional ℕ → Type 0
    Tells left n None = true ≡ absent_below g m left (levels - left) n f
    Tells left n (Some c) = (33 - left ≤ 31) × (is_absent (trail_from g m false (33 - left) c f) ≡ absent_below g m left (levels - left) n f)

    step_tells : (left : ℕ) {n : ℕ} → Formed g m left n → Tells left n (step_from g m (levels - left) n f)
    unfolding absent_below step_from
    step_tells zero a = absurd (omega (arith, a.some_left))
    step_tells (suc left) {n} a = elim (test (eqb (m (next_at g n)) 0)) [
      | inl z ↦ rw z (rw z refl)
      | inr z ↦
          let c = child_of g m n (child (levels - suc left) f) in
          let below = child_formed a z f in
          let rest : 32 - (33 - suc left) ≡ left = omega (arith, a.all_left) in
          let level : 33 - suc left ≡ levels - left = omega (arith, a.all_left) in
          let next : suc (levels - suc left) ≡ levels - left = omega (arith, a.all_left) in
          rw z (rw (z, next) (omega (arith, below.some_left), rw rest at (trail_absent (33 - suc left) c) ∙ rw level (path_absent left below)))
    ]

    pub told_below : {left n : ℕ} {x y : Optional ℕ} → Formed g m left n → x ≡ step_from g m (levels - left) n f → x ≡ y → Tells left n y
    told_below {left} {n} a e z = subst (Tells left n) (sym e ∙ z) (step_tells left a)

  -- ---- the frame of a place

  -- a place as it is read: the unit of its level, its frame, the fingerprint stored and the one due
  pub record Place (d n p unit f stored print : ℕ) : Type 0 where
    pub unit_is : unit ≡ 2 ^ bits_to d
    pub frame_is : f ≡ frame g m n p
    pub stored_is : stored ≡ stored_fingerprint g m n p
    pub print_is : print ≡ fingerprint (rule_of m) f

  pub read : {d n p unit f stored print : ℕ} → unit ≡ 2 ^ bits_to d → f ≡ frame g m n p → stored ≡ stored_fingerprint g m n p
      → print ≡ fingerprint (rule_of m) f → Place d n p unit f stored print
  read u f s k = record { unit_is = u; frame_is = f; stored_is = s; print_is = k }

  module _ (left x : ℕ) {d n p unit f stored print : ℕ} (a : Place d n p unit f stored print) where
    tested : settled_at g m left d n x p
        ≡ eqb (bit_and f (unit - 1)) x && (eqb stored print && (eqb (first (holds_at g m n f) p) p && absent_below g m left d n f))
    unfolding settled_at
    tested = rw (a.unit_is, a.stored_is, a.print_is, a.frame_is, and_mask (frame g m n p) (bits_to d)) refl

    pub off_path : (bit_and f (unit - 1) ≡ x → ⊥) → false ≡ settled_at g m left d n x p
    off_path o = rw (tested, ne_eqb (bit_and f (unit - 1)) x o) refl

    module _ (on : bit_and f (unit - 1) ≡ x) where
      pub wrong_print : (stored ≡ print → ⊥) → false ≡ settled_at g m left d n x p
      wrong_print o = rw (tested, eq-eqb (bit_and f (unit - 1)) x on, ne_eqb stored print o) refl

      module _ (right : stored ≡ print) where
        passed : settled_at g m left d n x p ≡ eqb (first (holds_at g m n f) p) p && absent_below g m left d n f
        passed = rw (tested, eq-eqb (bit_and f (unit - 1)) x on, eq-eqb stored print right) refl

        pub held_before : {q : ℕ} → q ≡ first (holds_at g m n f) p → (q ≡ p → ⊥) → false ≡ settled_at g m left d n x p
        held_before {q} e o = rw (passed, ← e, ne_eqb q p o) refl

        pub first_here : {r : Bool} → first (holds_at g m n f) p ≡ p → r ≡ absent_below g m left d n f → r ≡ settled_at g m left d n x p
        first_here o e = e ∙ rw (passed, eq-eqb (first (holds_at g m n f) p) p o) refl

-- ---- a test at each set bit of a word, the lowest first

module _ (good : ℕ → Bool) (w : ℕ) where
  pub bits_end : w ≡ 0 → true ≡ every good (set_places w)
  unfolding every
  bits_end z = rw (places_none w z) refl

  module _ (o : w ≢ 0) (h : w < 2 ^ 64) {r : Bool} (e : r ≡ good (count_trailing_zeros 64 w)) where
    pub bits_stop : r ≡ false → false ≡ every good (set_places w)
    unfolding every
    bits_stop z = rw (places_next w o h, ← e, z) refl

    pub bits_on : r ≡ true → every good (set_places w) ≡ every good (set_places (without_bit w (count_trailing_zeros 64 w)))
    unfolding every
    bits_on z = rw (places_next w o h, ← e, z) refl

pub settled_places : (g : Geometry) (m : Memory) (left d n x : ℕ) {set : ℕ} → set ≡ m (set_at g n)
    → settled_node g m left d n x ≡ every (settled_at g m left d n x) (set_places set)
unfolding settled_node held_places set_places
settled_places g m left d n x e = rw e refl
