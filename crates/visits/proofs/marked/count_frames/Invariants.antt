use Rattle.memory.specs.Words.{reads}
use Rattle.pool.proofs.UsedNodes.{Over}
use Rattle.visits.proofs.MarkedNodesCount.{HeldTo}
use Rattle.visits.proofs.marked.count_frames.Given as goal

-- the frames of the marked nodes below those that are left are counted
abbrev pub invariant-loop-n : goal.invariant-loop-n
invariant-loop-n l =
    goal.iterator-loop-n.can_next l.n-iterator
    × goal.iterator-loop-n.is_finite l.n-iterator
    × Over l.pool l.g.nodes l.n-iterator
    × HeldTo l.g (reads l.image) l.pool l.count l.n-iterator.from
