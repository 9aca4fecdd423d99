use Rattle.std.proofs.Common.{◌≡◌, ◌+◌, ◌∙◌, sym, refl, arith}
use borrow.Author.Tests.{eqb-true, eqb-false}
use Rattle.tree.specs.Layout.{table_at}
use Rattle.tree.specs.Fingerprint.{packed}
use Rattle.images.proofs.Formatting.{put_none, put_more, given_256, none_given, table_first}
use Rattle.images.proofs.format.put_table.Goals as goal

pub returns-then-is_empty : goal.returns-then-is_empty
returns-then-is_empty c = none_given _ _ (eqb-true _ _ (sym c.is_empty.ensures ∙ c.if-is_empty.true))

pub loop-j-init : goal.loop-j-init
loop-j-init c = put_none (λ i. table_at + i) (packed _) _ 0

pub packed-requires : goal.packed-requires
packed-requires c = (given_256 _ c.requires.1 (eqb-false _ _ (sym c.is_empty.ensures ∙ c.if-is_empty.false)), c.loop-j-test.true)

pub loop-j-preserved : goal.loop-j-preserved
loop-j-preserved c =
    let l = c.loop-j in
    let here : 0 + l.j ≡ l.j = omega arith in
    put_more (λ i. table_at + i) (packed _) _ l.image 0 l.j _ _ _ l.invariant refl (omega arith) (rw here c.packed.ensures)

pub returns : goal.returns
returns c =
    let l = c.loop-j in
    let e : l.j ≡ 32 = omega arith in
    (rw e at l.invariant) ∙ table_first _ _ (given_256 _ c.requires.1 (eqb-false _ _ (sym c.is_empty.ensures ∙ c.if-is_empty.false)))
