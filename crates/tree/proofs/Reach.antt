-- Ways: a way leads to one node, and there are 31 steps at most.
use mathlib.Core.Path.{◌≡◌, sym, ◌∙◌, ap}
use mathlib.Core.List.{List}
use Prim.Native.Nat.{ℕ, ◌+◌, ◌-◌, ◌≤◌}
use native.Mathlib.Omega.{arith}
use lib.ListN.{length}
use Rattle.memory.specs.Words.{Memory}
use Rattle.tree.specs.declared.layout.Geometry.{Geometry}
use Rattle.tree.specs.Layout.{next_at}
use Rattle.tree.specs.Slots.{Filled}
use Rattle.tree.specs.Reach.{Reaches, root, down}
use Rattle.tree.proofs.Ways.{fanout_depth}

module _ {g : Geometry} {m : Memory} {s : ℕ} where
  pub one_node : {w : List ℕ} {n n' : ℕ} → Reaches g m s w n → Reaches g m s w n' → n ≡ n'
  one_node (root f e) (root f' e') = e ∙ sym e'
  one_node (down {c = c} r k l e) (down r' k' l' e') = e ∙ ap (λ x. m (next_at g x) - 1 + c) (one_node r r') ∙ sym e'

  pub depth : {w : List ℕ} {n : ℕ} → Reaches g m s w n → length w ≤ 31
  depth (root f e) = omega arith
  depth (down {w} {c} r k l e) = fanout_depth (length w) c l

  pub slot_filled : {w : List ℕ} {n : ℕ} → Reaches g m s w n → Filled g m s
  slot_filled (root f e) = f
  slot_filled (down r k l e) = slot_filled r
