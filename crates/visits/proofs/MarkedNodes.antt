-- What the laws of marked nodes share: nodes that are not marked, and the nodes of trees that are walked through.
use mathlib.Core.Path.{◌≡◌, ◌∙◌, ap}
use mathlib.Core.Bool.{true, false}
use mathlib.Core.List.Memᴰ
use mathlib.Core.List.{List, Memᴰ}
use Prim.Native.Nat.{ℕ, zero, suc, ◌+◌, ◌-◌, ◌<◌}
use native.Mathlib.Omega.{arith}
use Rattle.memory.specs.Words.{Memory}
use Rattle.tree.specs.declared.layout.Geometry.{Geometry}
use Rattle.tree.specs.Subtree.{Visit, nodes_of}
use Rattle.tree.specs.Check.{walkable}
use Rattle.tree.specs.Pool.{used}
use Rattle.tree.specs.PoolLaws.{NoneUsed}
use Rattle.tree.proofs.Nodes.{well_formed_facts}
use Rattle.tree.proofs.Trees.{formed_at}

-- what stays the same at a node that is not marked stays the same where none is
module _ {A : Type 0} (f : ℕ → A) (pool : List ℕ) (still : (k : ℕ) → used pool k ≡ false → f (suc k) ≡ f k) where
  along : (n j : ℕ) → NoneUsed pool n (n + j) → f (n + j) ≡ f n
  along n zero t = ap f (omega arith)
  along n (suc j) t =
      let q : n + suc j ≡ suc (n + j) = omega arith in
      let before : NoneUsed pool n (n + j) = record { onward = omega arith; none = λ k l b. t.none k l (omega arith) } in
      ap f q ∙ still (n + j) (t.none (n + j) (omega arith) (omega arith)) ∙ along n j before

  pub past_unmarked : {from n : ℕ} → NoneUsed pool from n → f n ≡ f from
  past_unmarked {from} {n} t =
      let q : n ≡ from + (n - from) = omega (arith, t.onward) in
      ap f q ∙ along from (n - from) (rw (← q) t)

-- the nodes of trees without a malformed node are inside the pool
pub nodes_inside : (g : Geometry) (m : Memory) (vs : List Visit) → walkable g m vs ≡ true → (n : ℕ) → Memᴰ n (nodes_of vs) → n < g.nodes
unfolding nodes_of
nodes_inside g m vs h n x =
    let t = Memᴰ.of_map (λ v. v.node) vs x in
    rw (← t.2) ((well_formed_facts g m _ _).0 (formed_at g m h t.1)).inside
