-- The test of a node's subtree and of a group's, in the terms of the code that makes it.
use mathlib.Core.Path.{◌≡◌, refl, sym, ◌∙◌}
use mathlib.Core.Bool.{Bool, true, false, ◌&&◌}
use mathlib.Core.Logic.{◌≢◌}
use Prim.Native.Nat.{ℕ, zero, suc, ◌+◌, ◌-◌, ◌*◌, ◌^◌, ◌≤◌, ◌<◌}
use native.Mathlib.Nat.{add-mul, suc-mul, mul-le-mul_right}
use native.Mathlib.Omega.{arith}
use lib.Pow.{pow_mono}
use Rattle.memory.specs.Words.{Memory}
use Rattle.tree.specs.Lists.{range, up_to, every}
use Rattle.tree.specs.declared.layout.Geometry.{Geometry}
use Rattle.tree.specs.Layout.{next_at}
use Rattle.tree.specs.Path.{levels, fanout, bits_to}
use Rattle.tree.specs.Subtree.{children}
use Rattle.tree.proofs.Ways.{bits_next}
use Rattle.tree.proofs.Lists.{range_next}
use Rattle.settled.specs.Settled.{settled_node, settled_tree, settled_group}
use Rattle.visits.proofs.Stops.{leaf, linked}

-- ---- units: the number that the bits to a level can be

-- a child's suffix is below its unit, which fits
pub unit_fits : (left count unit c : ℕ) → c < count → count * unit ≡ 2 ^ bits_to (levels - left) → (c * unit + unit ≤ count * unit) × (count * unit ≤ 2 ^ 61)
unit_fits left count unit c l e = (rw (← suc-mul c unit) (mul-le-mul_right unit l), rw e (pow_mono {j = 61} (omega arith)))

-- the unit of a node's children
pub unit_below : {left count unit : ℕ} → 2 ≤ left → left ≤ levels → count ≡ fanout (levels - left) → unit ≡ 2 ^ bits_to (levels - left)
    → count * unit ≡ 2 ^ bits_to (levels - (left - 1))
unit_below {left} h k p q =
    let deeper : levels - (left - 1) ≡ suc (levels - left) = omega arith in
    rw (p, q, deeper) (sym (bits_next (levels - left) (omega arith)))

module _ (g : Geometry) (m : Memory) where
  -- ---- a group of children

  module _ (left start count unit x : ℕ) where
    abbrev child : ℕ → Bool
    child c = settled_tree g m left (levels - left) (start + c) (c * unit + x)

    -- the first c children have passed, and the next has the suffix own
    pub record Passed (own c : ℕ) : Type 0 where
      pub within : c ≤ count
      pub suffix : own ≡ c * unit + x
      pub others : every child (range c (count - c)) ≡ settled_group g m left (levels - left) start count unit x

    pub passed_none : Passed x 0
    unfolding settled_group up_to
    passed_none = let e : count - 0 ≡ count = omega arith in record { within = omega arith; suffix = omega arith; others = rw e refl }

    module _ {own c : ℕ} (a : Passed own c) where
      pub passed_all : count ≤ c → true ≡ settled_group g m left (levels - left) start count unit x
      unfolding every range
      passed_all l = let e : count - c ≡ 0 = omega arith in rw e at a.others

      module _ (l : c < count) {r : Bool} (e : r ≡ settled_tree g m left (levels - left) (start + c) own) where
        next : r && every child (range (c + 1) (count - (c + 1))) ≡ settled_group g m left (levels - left) start count unit x
        unfolding every
        next = rw (e, a.suffix) (rw (range_next c count l) at a.others)

        pub child_fails : r ≡ false → false ≡ settled_group g m left (levels - left) start count unit x
        child_fails z = rw z at next

        pub child_passes : r ≡ true → Passed (own + unit) (c + 1)
        child_passes z = record {
          within = omega arith;
          suffix = omega (arith, a.suffix, add-mul c 1 unit);
          others = rw z at next;
        }

  -- ---- a node

  tree_first : (left d n x : ℕ) → 1 ≤ left
      → settled_tree g m left d n x
      ≡ settled_node g m left d n x && settled_group g m (left - 1) (suc d) (m (next_at g n) - 1) (children g m d n) (2 ^ bits_to d) x
  unfolding settled_tree settled_group
  tree_first zero d n x h = absurd (omega arith)
  tree_first (suc left) d n x h = let p : suc left - 1 ≡ left = omega arith in rw p refl

  module _ (left n x : ℕ) (h : 1 ≤ left) (k : left ≤ levels) {r : Bool} (e : r ≡ settled_node g m left (levels - left) n x) where
    pub own_fails : r ≡ false → false ≡ settled_tree g m left (levels - left) n x
    own_fails z = rw (tree_first left (levels - left) n x h, ← e, z) refl

    module _ (z : r ≡ true) where
      pub leaf_passes : {next : ℕ} → next ≡ m (next_at g n) → next ≡ 0 → true ≡ settled_tree g m left (levels - left) n x
      unfolding settled_group up_to range every
      leaf_passes t o = rw (tree_first left (levels - left) n x h, ← e, z, leaf g m (levels - left) n (sym t ∙ o)) refl

      pub below_passes : {next count unit : ℕ} {b : Bool} → next ≡ m (next_at g n) → next ≢ 0 → count ≡ fanout (levels - left)
          → unit ≡ 2 ^ bits_to (levels - left)
          → b ≡ settled_group g m (left - 1) (levels - (left - 1)) (next - 1) count unit x
          → b ≡ settled_tree g m left (levels - left) n x
      below_passes t o p q below =
          let deeper : suc (levels - left) ≡ levels - (left - 1) = omega arith in
          below ∙ rw (tree_first left (levels - left) n x h, ← e, z, linked g m (levels - left) n (rw t at o), ← p, ← q, ← t, deeper) refl
