use Rattle.memory.specs.Words.{reads}
use Rattle.nodes.proofs.NodeCode.{formed_outside, formed_elsewhere, formed_small, formed_full}
use Rattle.nodes.proofs.node.well_formed.Goals as goal

pub returns-then-nodes-n : goal.returns-then-nodes-n
returns-then-nodes-n c = formed_outside _ _ _ _ c.if-nodes-n.true

pub returns-then-word_of-depth : goal.returns-then-word_of-depth
returns-then-word_of-depth c = formed_elsewhere c.args.g (reads c.args.image.now) _ _ c.if-nodes-n.false c.word_of.ensures c.if-word_of-depth.true

pub returns-then-size-ne64 : goal.returns-then-size-ne64
returns-then-size-ne64 c =
    formed_small c.args.g (reads c.args.image.now) _ _ c.if-nodes-n.false c.word_of.ensures c.if-word_of-depth.false c.word_of-size.ensures
    c.next_of-next.ensures c.if-size-ne64.true c.word_of-then-size-ne64.ensures c.word_of-then-size-ne64-2.ensures c.small_root.ensures

pub returns : goal.returns
returns c =
    formed_full c.args.g (reads c.args.image.now) _ _ c.if-nodes-n.false c.word_of.ensures c.if-word_of-depth.false c.word_of-size.ensures
    c.next_of-next.ensures c.if-size-ne64.false (λ i. (c.type_inv.image i).fits) c.children_inside.ensures
