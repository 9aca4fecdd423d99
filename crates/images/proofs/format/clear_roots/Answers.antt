use Rattle.std.proofs.Common.{◌≡◌, ◌∙◌, ap, refl, arith, ℕ}
use Rattle.tree.specs.Memory.{stores, apply}
use Rattle.tree.specs.Lists.{range, up_to}
use Rattle.tree.specs.Layout.{root_at}
use Rattle.images.proofs.Formatting.{zeros, put_none, put_more}
use Rattle.images.proofs.format.clear_roots.Goals as goal

pub loop-s-init : goal.loop-s-init
loop-s-init c = put_none root_at (λ i. 0) _ 0

pub loop-s-preserved : goal.loop-s-preserved
loop-s-preserved c =
    let l = c.loop-s in
    put_more root_at (λ i. 0) _ l.image 0 l.s _ _ 0 l.invariant refl (omega (arith, c.root_at.ensures)) refl

pub returns : goal.returns
unfolding up_to
returns c =
    let l = c.loop-s in
    let e : l.s ≡ c.args.g.slots = omega arith in
    l.invariant ∙ ap (λ (n : ℕ). apply c.args.image.now (stores (zeros root_at (range 0 n)))) e
