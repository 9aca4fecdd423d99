use Rattle.std.proofs.Common.{arith}
use Rattle.memory.specs.Words.{reads}
use Rattle.visits.proofs.StopFacts.{sound_stops}
use Rattle.walks.proofs.ListingsStops.{listing_stops}
use Rattle.walks.proofs.listing.list_slot.Goals as goal

pub list_node-requires : goal.list_node-requires
list_node-requires c =
    let a = c.args in
    let pre = c.requires in
    let m = reads a.image.now in
    rw c.root_of-root.ensures
    (pre.0, omega arith, omega arith, sound_stops a.g m a.slot pre.2, rw (listing_stops a.g m a.slot) at pre.3)

pub returns : goal.returns
returns c =
    let a = c.args in
    rw (listing_stops a.g (reads a.image.now) a.slot, ← c.root_of-root.ensures) c.list_node.ensures
