-- What the code of nodes computes, step by step, in the code's own terms.
use mathlib.Core.Path.{◌≡◌, refl, sym}
use mathlib.Core.Bool.{Bool, false, and_assoc, or-false}
use mathlib.Core.Logic.{inl, inr}
use Prim.Native.Nat.{ℕ, ◌+◌, ◌-◌, ◌^◌, ◌≤◌, ◌<◌}
use native.Mathlib.Omega.{arith}
use borrow.Author.Tests.{lt-ltb, le-ltb, eq-eqb, ne_eqb}
use Rattle.memory.specs.Words.{Memory}
use Rattle.tree.specs.declared.layout.Geometry.{Geometry}
use Rattle.tree.specs.Test.{Test, lt, le, eq, ◌and◌, ◌or◌, holds}
use Rattle.tree.specs.Layout.{next_at, locate_at, set_at, level_at, size_at}
use Rattle.tree.specs.Node.{size_allowed, formed, well_formed}
use Rattle.tree.specs.Path.{fanout}
use Rattle.tree.proofs.Cases.{not-false}
use Rattle.tree.proofs.Tests.{says}
use Rattle.tree.proofs.Ways.{child_lt}

-- a root of a size below 64
module _ (size : ℕ) where
  abbrev small_size : Test
  small_size = eq size 16 or eq size 32

  abbrev pub small_root : (d locate set next : ℕ) → Test
  small_root d locate set next = eq d 0 and small_size and lt locate (2 ^ size) and lt set (2 ^ size) and eq next 0

-- a node's children are inside the pool
module _ (nodes d next : ℕ) where
  abbrev pub children_inside : Test
  children_inside = eq next 0 or (lt d 31 and le (next - 1 + fanout d) nodes)

  pub children_past : (next ≡ 0 → ⊥) → nodes ≤ next - 1 → false ≡ holds children_inside
  children_past z l =
      sym (not-false (λ h. elim (says children_inside h) [ inl q ↦ z q | inr t ↦ omega (arith, child_lt d 0 t.0) ]))

module _ (g : Geometry) (m : Memory) (d n : ℕ) where
  pub formed_outside : g.nodes ≤ n → false ≡ well_formed g m d n
  unfolding well_formed formed
  formed_outside h = simp (le-ltb n g.nodes h)

  -- the words read, and what each test says of them
  module _ {level : ℕ} (h : n < g.nodes) (l : level ≡ m (level_at g n)) where
    pub formed_elsewhere : (level ≡ d → ⊥) → false ≡ well_formed g m d n
    unfolding well_formed formed
    formed_elsewhere z = rw (lt-ltb n g.nodes h, ← l, ne_eqb level d z) refl

    module _ {size next : ℕ} {r : Bool} (e : level ≡ d) (z : size ≡ m (size_at g n)) (k : next ≡ m (next_at g n)) where
      pub formed_small : {locate set : ℕ} → (size ≡ 64 → ⊥) → locate ≡ m (locate_at g n) → set ≡ m (set_at g n)
          → r ≡ holds (small_root size d locate set next) → r ≡ well_formed g m d n
      unfolding well_formed formed size_allowed
      formed_small q i t s =
          rw (lt-ltb n g.nodes h, ← l, ← z, ← k, ← i, ← t, eq-eqb level d e, ne_eqb size 64 q, or-false, and_assoc) s

      -- at size 64 every word is within
      pub formed_full : size ≡ 64 → ((i : ℕ) → m i < 2 ^ 64) → r ≡ holds (children_inside g.nodes d next)
          → r ≡ well_formed g m d n
      unfolding well_formed formed size_allowed
      formed_full q f s =
          let locates = lt-ltb (m (locate_at g n)) (2 ^ 64) (f _) in
          let sets = lt-ltb (m (set_at g n)) (2 ^ 64) (f _) in
          rw (lt-ltb n g.nodes h, ← l, ← z, ← k, eq-eqb level d e, q, locates, sets) s
