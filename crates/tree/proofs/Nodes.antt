-- What a well-formed node is, fact by fact, and back.
use mathlib.Core.Path.{◌≡◌}
use mathlib.Core.Bool.{true}
use mathlib.Core.Logic.{inl, inr, ◌↔◌}
use Prim.Native.Nat.{ℕ, ◌+◌, ◌-◌, ◌≤◌, ◌<◌}
use native.Mathlib.Omega.{arith}
use Rattle.memory.specs.Words.{Memory}
use Rattle.tree.specs.declared.layout.Geometry.{Geometry}
use Rattle.tree.specs.Layout.{next_at, size_at}
use Rattle.tree.specs.Path.{fanout}
use Rattle.tree.specs.Node.{size_allowed, formed, well_formed}
use Rattle.tree.specs.Laws.{WellFormed}
use Rattle.tree.proofs.Tests.{says, said}

module _ (g : Geometry) (m : Memory) (d n : ℕ) where
  pub well_formed_facts : (well_formed g m d n ≡ true) ↔ WellFormed g m d n
  unfolding well_formed formed size_allowed
  well_formed_facts = (
    λ h.
        let a = says (formed g m d n) h in
        record { inside = a.0; level = a.1.0; size = a.1.1.0; locate = a.1.1.1.0; set = a.1.1.1.1.0; next = a.1.1.1.1.1 },
    λ a. said (formed g m d n) (a.inside, (a.level, (a.size, (a.locate, (a.set, a.next))))),
  )

module _ {g : Geometry} {m : Memory} {d n : ℕ} (w : WellFormed g m d n) where
  -- its size is 64 at most, and not 0
  pub size_most : m (size_at g n) ≤ 64
  size_most = elim w.size [ inl q ↦ omega arith | inr q ↦ elim q.1 [ inl e ↦ omega arith | inr e ↦ omega arith ] ]

  pub some_size : 0 < m (size_at g n)
  some_size = elim w.size [ inl q ↦ omega arith | inr q ↦ elim q.1 [ inl e ↦ omega arith | inr e ↦ omega arith ] ]

  -- a node with children is above level 31, and all of them are inside the pool
  pub children_inside : (m (next_at g n) ≡ 0 → ⊥) → (d < 31) × (m (next_at g n) - 1 + fanout d ≤ g.nodes)
  children_inside z = elim w.next [ inl q ↦ absurd (z q) | inr t ↦ t.1 ]

pub linked_depth : (g : Geometry) (m : Memory) (d n : ℕ) → well_formed g m d n ≡ true → 0 < m (next_at g n) → d < 31
linked_depth g m d n h l = (children_inside ((well_formed_facts g m d n).0 h) (λ z. omega arith)).0
