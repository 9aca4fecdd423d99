use Rattle.std.proofs.Common.{arith, ap, length}
use Rattle.pool.proofs.UsedNodes.{begins, goes_on, gives, ends}
use Rattle.visits.proofs.MarkedNodesCount.{held_none, held_more, held_all}
use Rattle.visits.proofs.marked.count_frames.Goals as goal

pub loop-n-init : goal.loop-n-init
loop-n-init c =
    let t = begins c.into_iter-n-iterator.ensures.into_iter_gives c.used_nodes-n-items.ensures in
    ((omega arith, omega (arith, ap length t.0.map), omega arith), tt, t.0, rw t.1 (held_none _ _ _))

pub loop-n-preserved : goal.loop-n-preserved
loop-n-preserved c =
    let l = c.loop-n in
    let step = c.in-Some.ensures.steps in
    let t = gives l.invariant.2 l.invariant.0.0 step.2 in (
      c.in-Some.ensures.goes.keeps,
      tt,
      goes_on l.invariant.2 step.0 step.1,
      rw t.onward (held_more _ _ t.none_before t.is_used c.word_of.ensures c.word_of.type_inv l.invariant.3),
    )

pub returns : goal.returns
returns c =
    let l = c.loop-n in
    held_all _ _ (ends l.invariant.2 l.invariant.0.0 c.in-None.ensures.steps.2) l.invariant.3
