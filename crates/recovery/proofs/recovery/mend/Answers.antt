use Rattle.std.proofs.Common.{arith, ap, length}
use Rattle.pool.proofs.UsedNodes.{begins, goes_on, gives, ends}
use Rattle.recovery.proofs.MarkedNodesMend.{mended_none, mended_past, pass_equal, pass_stored}
use Rattle.recovery.proofs.recovery.mend.Goals as goal

pub loop-n-init : goal.loop-n-init
loop-n-init c =
    let t = begins c.into_iter-n-iterator.ensures.into_iter_gives c.used_nodes-n-items.ensures in
    ((omega arith, omega (arith, ap length t.0.map), omega arith), tt, t.0, rw t.1 (mended_none _ _ _))

pub loop-n-preserved-then-word_of-set : goal.loop-n-preserved-then-word_of-set
loop-n-preserved-then-word_of-set c =
    let l = c.loop-n in
    let step = c.in-Some.ensures.steps in
    let t = gives l.invariant.2 l.invariant.0.0 step.2 in (
      c.in-Some.ensures.goes.keeps,
      tt,
      goes_on l.invariant.2 step.0 step.1,
      rw t.onward (pass_stored _ _ _ t.none_before l.invariant.3 c.word_of-set.ensures c.word_of.ensures c.node_at.ensures t.is_used c.if-word_of-set.true),
    )

pub loop-n-preserved : goal.loop-n-preserved
loop-n-preserved c =
    let l = c.loop-n in
    let step = c.in-Some.ensures.steps in
    let t = gives l.invariant.2 l.invariant.0.0 step.2 in (
      c.in-Some.ensures.goes.keeps,
      tt,
      goes_on l.invariant.2 step.0 step.1,
      rw t.onward (pass_equal _ _ _ t.none_before l.invariant.3 c.word_of-set.ensures c.word_of.ensures c.if-word_of-set.false),
    )

pub returns : goal.returns
returns c = let l = c.loop-n in mended_past _ _ _ (ends l.invariant.2 l.invariant.0.0 c.in-None.ensures.steps.2) l.invariant.3
