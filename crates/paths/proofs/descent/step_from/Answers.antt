use Rattle.std.proofs.Common.{rules}
use Rattle.memory.specs.Words.{reads}
use Rattle.paths.proofs.PathSteps.{node_inside, child_inside, step_end, step_down}
use Rattle.paths.proofs.descent.step_from.Goals as goal

pub next_of-next-requires : goal.next_of-next-requires
next_of-next-requires c = (c.requires.0, node_inside _ _ _ _ c.requires.1)

pub returns-then-next-eq0 : goal.returns-then-next-eq0
returns-then-next-eq0 c = step_end _ _ _ _ _ c.next_of-next.ensures c.if-next-eq0.true

pub child-requires : goal.child-requires
child-requires c =
    let below = child_inside c.args.g (reads c.args.image.now) _ _ c.requires.1 c.args.frame c.next_of-next.ensures c.if-next-eq0.false in
    search rules

pub overflow_add-result : goal.overflow_add-result
overflow_add-result c =
    let below = child_inside c.args.g (reads c.args.image.now) _ _ c.requires.1 c.args.frame c.next_of-next.ensures c.if-next-eq0.false in
    search rules

pub returns : goal.returns
returns c = step_down _ _ _ _ _ c.next_of-next.ensures c.if-next-eq0.false c.child.ensures
