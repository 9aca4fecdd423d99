use Rattle.visits.specs.Walk.{walked_slot}
use Rattle.visits.proofs.visit.visit_slot.Goals as goal

pub returns : goal.returns
unfolding walked_slot
returns c = rw (← c.root_of-root.ensures) c.visit_node.ensures
