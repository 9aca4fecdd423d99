use Rattle.std.proofs.Common.{rules, arith, ◌-◌}
use Rattle.memory.specs.Words.{reads}
use Rattle.tree.specs.Path.{levels}
use Rattle.tree.specs.Laws.{WellFormed}
use Rattle.walks.proofs.Listings.{Writing, rest_fits, rest_written}
use Rattle.visits.proofs.StopFacts.{node_facts, linked_facts}
use Rattle.walks.proofs.ListingsStops.{own_room, leaf_frames}
use Rattle.walks.proofs.ListingsGroups.{of_node, group_starts, group_next, group_more, group_ends, below, own_written}
use Rattle.walks.proofs.listing.+list_group_list_node.Goals as goal

pub list_group-loop-c-init : goal.list_group-loop-c-init
list_group-loop-c-init t c = group_starts _ _ _ _ _ _ c.requires.4

pub list_group-list_node-written-requires : goal.list_group-list_node-written-requires
list_group-list_node-written-requires t c =
    let next = group_next _ _ _ _ _ _ c.requires.5 c.loop-c-test.true c.loop-c.invariant in
    search (rules, next.formed, next.room)

pub list_group-overflow_add-written : goal.list_group-overflow_add-written
list_group-overflow_add-written t c =
    let next = group_next _ _ _ _ _ _ c.requires.5 c.loop-c-test.true c.loop-c.invariant in
    search (rules, next.fits, c.list_node-written.ensures.0)

pub list_group-loop-c-preserved : goal.list_group-loop-c-preserved
list_group-loop-c-preserved t c =
    let call = c.list_node-written in
    group_more _ _ _ _ _ _ c.requires.5 _ _ c.loop-c-test.true c.loop-c.invariant call.ensures.0 call.ensures.1

pub list_group-returns : goal.list_group-returns
list_group-returns t c = group_ends _ _ _ _ _ _ c.loop-c-test.false c.loop-c.invariant

pub list_node-list_places-own-requires : goal.list_node-list_places-own-requires
list_node-list_places-own-requires t c =
    let facts : WellFormed c.args.g (reads c.args.image.now) (levels - c.args.left) c.args.n =
    node_facts _ _ _ _ c.requires.1 c.requires.2 c.requires.3 in
    let room = own_room c.args.g (reads c.args.image.now) c.args.left c.args.n c.requires.1 c.requires.2 in
    (c.requires.0, facts.inside, omega (arith, room, c.requires.4))

pub list_node-next_of-next-requires : goal.list_node-next_of-next-requires
list_node-next_of-next-requires t c =
    let facts : WellFormed c.args.g (reads c.args.image.now) (levels - c.args.left) c.args.n =
    node_facts _ _ _ _ c.requires.1 c.requires.2 c.requires.3 in
    search (rules, facts.inside)

pub list_node-returns-then-next-eq0 : goal.list_node-returns-then-next-eq0
list_node-returns-then-next-eq0 t c =
    rw (leaf_frames _ _ c.args.left c.args.n c.requires.1 c.requires.2 c.next_of-next.ensures c.if-next-eq0.true) c.list_places-own.ensures

pub list_node-offset_bounds-list-own : goal.list_node-offset_bounds-list-own
list_node-offset_bounds-list-own t c =
    let a = c.args in
    let call = c.list_places-own in
    let written : Writing (of_node a.g (reads a.image.now) a.left a.n) a.list.now call.result (below a.g (reads a.image.now) a.left c.next_of-next.result) call.new.list =
    own_written _ _ _ _ _ _ _ _ c.requires.1 c.requires.2 c.next_of-next.ensures c.if-next-eq0.false c.requires.4 call.ensures.0 call.ensures.1 in
    search (rules, written)

pub list_node-slice_bounds-list_group-count : goal.list_node-slice_bounds-list_group-count
list_node-slice_bounds-list_group-count t c =
    let a = c.args in
    let call = c.list_places-own in
    let written : Writing (of_node a.g (reads a.image.now) a.left a.n) a.list.now call.result (below a.g (reads a.image.now) a.left c.next_of-next.result) call.new.list =
    own_written _ _ _ _ _ _ _ _ c.requires.1 c.requires.2 c.next_of-next.ensures c.if-next-eq0.false c.requires.4 call.ensures.0 call.ensures.1 in
    search (rules, written)

pub list_node-slice_bounds-list_group-start : goal.list_node-slice_bounds-list_group-start
list_node-slice_bounds-list_group-start t c =
    let a = c.args in
    let call = c.list_places-own in
    let written : Writing (of_node a.g (reads a.image.now) a.left a.n) a.list.now call.result (below a.g (reads a.image.now) a.left c.next_of-next.result) call.new.list =
    own_written _ _ _ _ _ _ _ _ c.requires.1 c.requires.2 c.next_of-next.ensures c.if-next-eq0.false c.requires.4 call.ensures.0 call.ensures.1 in
    search (rules, written)

pub list_node-list_group-requires : goal.list_node-list_group-requires
list_node-list_group-requires t c =
    let a = c.args in
    let call = c.list_places-own in
    let written : Writing (of_node a.g (reads a.image.now) a.left a.n) a.list.now call.result (below a.g (reads a.image.now) a.left c.next_of-next.result) call.new.list =
    own_written _ _ _ _ _ _ _ _ c.requires.1 c.requires.2 c.next_of-next.ensures c.if-next-eq0.false c.requires.4 call.ensures.0 call.ensures.1 in
    let pre = c.requires in
    let link = linked_facts _ _ a.left a.n pre.1 pre.2 c.next_of-next.ensures c.if-next-eq0.false pre.3 in
    let room = rest_fits pre.4 written in
    rw c.fanout.ensures
    (search rules, (pre.0, omega (arith, link.above), omega (arith, pre.2), omega (arith, link.inside, pre.0.nodes_limit), link.formed, room.1))

pub list_node-overflow_add-result : goal.list_node-overflow_add-result
list_node-overflow_add-result t c =
    let a = c.args in
    let call = c.list_places-own in
    let written : Writing (of_node a.g (reads a.image.now) a.left a.n) a.list.now call.result (below a.g (reads a.image.now) a.left c.next_of-next.result) call.new.list =
    own_written _ _ _ _ _ _ _ _ c.requires.1 c.requires.2 c.next_of-next.ensures c.if-next-eq0.false c.requires.4 call.ensures.0 call.ensures.1 in
    let room = rest_fits c.requires.4 written in
    search (rules, room.0, rw c.fanout.ensures at c.list_group.ensures.0)

pub list_node-returns : goal.list_node-returns
list_node-returns t c =
    let a = c.args in
    let call = c.list_places-own in
    let written : Writing (of_node a.g (reads a.image.now) a.left a.n) a.list.now call.result (below a.g (reads a.image.now) a.left c.next_of-next.result) call.new.list =
    own_written _ _ _ _ _ _ _ _ c.requires.1 c.requires.2 c.next_of-next.ensures c.if-next-eq0.false c.requires.4 call.ensures.0 call.ensures.1 in
    let e = rw c.fanout.ensures at c.list_group.ensures in
    rest_written _ _ c.requires.4 written e.0 e.1
