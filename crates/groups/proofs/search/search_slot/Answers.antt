use Rattle.std.proofs.Common.{arith}
use Rattle.memory.specs.Words.{reads}
use Rattle.visits.proofs.StopFacts.{sound_stops}
use Rattle.groups.proofs.Searches.{slot_search}
use Rattle.groups.proofs.search.search_slot.Goals as goal

pub search_node-requires : goal.search_node-requires
search_node-requires c =
    let a = c.args in
    rw c.root_of-root.ensures (c.requires.0, omega arith, omega arith, sound_stops a.g (reads a.image.now) a.slot c.requires.2)

pub returns : goal.returns
returns c =
    let a = c.args in
    rw (← slot_search a.g (reads a.image.now) a.slot, ← c.root_of-root.ensures) c.search_node.ensures
