use Rattle.visits.proofs.MarkedNodesFree.{TakenTo}
use Rattle.visits.proofs.marked.take_out.Given as goal

-- words below i are without the marked nodes, the others as they were
abbrev pub invariant-loop-i : goal.invariant-loop-i
invariant-loop-i l = TakenTo l.fn.pool l.marks l.pool l.i
