use Rattle.memory.specs.Words.{reads}
use Rattle.nodes.proofs.Places.{Seeking}
use Rattle.nodes.proofs.place.found_place.Given as goal

abbrev pub invariant-loop-left : goal.invariant-loop-left
invariant-loop-left l = Seeking l.g (reads l.image) l.frame l.n l.left l.lowest

abbrev pub decreases-loop-left : goal.decreases-loop-left
decreases-loop-left l = l.left
