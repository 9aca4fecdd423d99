use Rattle.std.proofs.Common.{rules, arith}
use Rattle.memory.specs.Words.{reads}
use Rattle.visits.proofs.StopFacts.{Linked, node_facts, linked_facts}
use Rattle.groups.proofs.Searches.{searched_none, searched_all, child_formed, found_here, not_here}
use Rattle.groups.proofs.Searches.{leaf_nothing, node_found, node_below}
use Rattle.groups.proofs.search.+search_group_search_node.Goals as goal

pub search_group-loop-c-init : goal.search_group-loop-c-init
search_group-loop-c-init t c = searched_none _ _ _ _ _ c.requires.4

pub search_group-search_node-requires : goal.search_group-search_node-requires
search_group-search_node-requires t c = search (rules, child_formed _ _ _ _ _ c.loop-c.invariant c.loop-c-test.true)

pub search_group-returns-in-Some : goal.search_group-returns-in-Some
search_group-returns-in-Some t c = found_here _ _ _ _ _ c.loop-c.invariant c.loop-c-test.true c.search_node.ensures _ c.in-Some.is

pub search_group-loop-c-preserved : goal.search_group-loop-c-preserved
search_group-loop-c-preserved t c = not_here _ _ _ _ _ c.loop-c.invariant c.loop-c-test.true c.search_node.ensures c.in_default.is

pub search_group-returns : goal.search_group-returns
search_group-returns t c = searched_all _ _ _ _ _ c.loop-c.invariant c.loop-c-test.false

pub search_node-next_of-next-requires : goal.search_node-next_of-next-requires
search_node-next_of-next-requires t c = search (rules, (node_facts _ _ _ _ c.requires.1 c.requires.2 c.requires.3).inside)

pub search_node-returns-then-next-eq0 : goal.search_node-returns-then-next-eq0
search_node-returns-then-next-eq0 t c = leaf_nothing _ _ _ _ c.requires.1 c.requires.2 c.next_of-next.ensures c.if-next-eq0.true

pub search_node-all_empty-requires : goal.search_node-all_empty-requires
search_node-all_empty-requires t c =
    let below : Linked c.args.g (reads c.args.image.now) c.args.left c.next_of-next.result =
    linked_facts _ _ _ _ c.requires.1 c.requires.2 c.next_of-next.ensures c.if-next-eq0.false c.requires.3 in
    rw c.fanout-count.ensures (c.requires.0, below.inside)

pub search_node-returns-then-all_empty : goal.search_node-returns-then-all_empty
search_node-returns-then-all_empty t c =
    node_found _ _ _ _ c.requires.1 c.requires.2 c.next_of-next.ensures c.if-next-eq0.false c.fanout-count.ensures
    c.all_empty.ensures _ (omega arith) c.if-all_empty.true

pub search_node-search_group-requires : goal.search_node-search_group-requires
search_node-search_group-requires t c =
    let below : Linked c.args.g (reads c.args.image.now) c.args.left c.next_of-next.result =
    linked_facts _ _ _ _ c.requires.1 c.requires.2 c.next_of-next.ensures c.if-next-eq0.false c.requires.3 in
    rw c.fanout-count.ensures
    (search (rules, below.above), (c.requires.0, omega (arith, below.above), omega (arith, c.requires.2), omega (arith, below.inside, c.requires.0.nodes_limit), below.formed))

pub search_node-returns : goal.search_node-returns
search_node-returns t c =
    node_below _ _ _ _ c.requires.1 c.requires.2 c.next_of-next.ensures c.if-next-eq0.false c.fanout-count.ensures
    c.all_empty.ensures c.if-all_empty.false c.search_group.ensures
