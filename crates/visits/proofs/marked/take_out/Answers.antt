use Rattle.std.proofs.Common.{rules}
use Rattle.visits.proofs.MarkedNodesFree.{taken_none, taken_more, taken_all}
use Rattle.visits.proofs.marked.take_out.Goals as goal

pub loop-i-init : goal.loop-i-init
loop-i-init c = taken_none _ _

pub loop-i-preserved : goal.loop-i-preserved
loop-i-preserved c = let l = c.loop-i in taken_more _ _ l.pool l.i (search rules) l.invariant

pub returns : goal.returns
returns c = let l = c.loop-i in taken_all _ _ _ l.i c.requires (search rules) l.invariant
