use Rattle.pool.proofs.UsedNodes.{Over}
use Rattle.recovery.proofs.MarkedNodesMend.{MendedTo}
use Rattle.recovery.proofs.recovery.mend.Given as goal

-- the image is mended below the nodes that are left
abbrev pub invariant-loop-n : goal.invariant-loop-n
invariant-loop-n l =
    goal.iterator-loop-n.can_next l.n-iterator
    × goal.iterator-loop-n.is_finite l.n-iterator
    × Over l.pool l.g.nodes l.n-iterator
    × MendedTo l.g l.pool l.fn.image l.image l.n-iterator.from
