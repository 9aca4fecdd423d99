use Rattle.std.proofs.Common.{rules, arith, ◌∙◌, ◌+◌, ◌*◌, ◌^◌, ◌≤◌}
use Rattle.tree.proofs.Nodes.{children_inside}
use Rattle.settled.proofs.SettledSteps.{known_facts, children_formed}
use Rattle.settled.proofs.SettledGroups.{passed_none, unit_fits, passed_all, child_fails, child_passes, own_fails, leaf_passes, below_passes, unit_below}
use Rattle.settled.proofs.frames.+settled_group_settled_tree.Goals as goal

pub settled_group-loop-c-init : goal.settled_group-loop-c-init
settled_group-loop-c-init t c = passed_none _ _ _ _ _ _ _

pub settled_group-overflow_add-child : goal.settled_group-overflow_add-child
settled_group-overflow_add-child t c = search (rules, (known_facts _ _ (c.requires.1.formed _ c.loop-c-test.true)).inside, c.requires.0)

pub settled_group-overflow_mul-child : goal.settled_group-overflow_mul-child
settled_group-overflow_mul-child t c =
    let a = c.args in
    let units : (c.loop-c.c * a.t.unit + a.t.unit ≤ a.count * a.t.unit) × (a.count * a.t.unit ≤ 2 ^ 61) =
    unit_fits a.t.left _ _ _ c.loop-c-test.true c.requires.1.unit in
    search (rules, units.1)

pub settled_group-settled_tree-requires : goal.settled_group-settled_tree-requires
settled_group-settled_tree-requires t c =
    let a = c.args in
    let units : (c.loop-c.c * a.t.unit + a.t.unit ≤ a.count * a.t.unit) × (a.count * a.t.unit ≤ 2 ^ 61) =
    unit_fits a.t.left _ _ _ c.loop-c-test.true c.requires.1.unit in
    let pre = c.requires in
    let taken = c.loop-c-test.true in
    (search rules, (pre.0, record { formed = pre.1.formed _ taken; unit = pre.1.unit }, omega (arith, units, pre.2, c.loop-c.invariant.suffix), pre.3))

pub settled_group-returns-then-not-settled_tree : goal.settled_group-returns-then-not-settled_tree
settled_group-returns-then-not-settled_tree t c = child_fails _ _ _ _ _ _ _ c.loop-c.invariant c.loop-c-test.true c.settled_tree.ensures c.if-not-settled_tree.true

pub settled_group-overflow_add-own : goal.settled_group-overflow_add-own
settled_group-overflow_add-own t c =
    let a = c.args in
    let units : (c.loop-c.c * a.t.unit + a.t.unit ≤ a.count * a.t.unit) × (a.count * a.t.unit ≤ 2 ^ 61) =
    unit_fits a.t.left _ _ _ c.loop-c-test.true c.requires.1.unit in
    search (rules, units, c.requires.2, c.loop-c.invariant.suffix)

pub settled_group-loop-c-preserved : goal.settled_group-loop-c-preserved
settled_group-loop-c-preserved t c = child_passes _ _ _ _ _ _ _ c.loop-c.invariant c.loop-c-test.true c.settled_tree.ensures c.if-not-settled_tree.false

pub settled_group-returns : goal.settled_group-returns
settled_group-returns t c = passed_all _ _ _ _ _ _ _ c.loop-c.invariant c.loop-c-test.false

pub settled_tree-returns-then-not-settled_node : goal.settled_tree-returns-then-not-settled_node
settled_tree-returns-then-not-settled_node t c =
    let formed = c.requires.1.formed in
    own_fails _ _ _ _ _ formed.some_left formed.all_left c.settled_node.ensures c.if-not-settled_node.true

pub settled_tree-next_of-next-requires : goal.settled_tree-next_of-next-requires
settled_tree-next_of-next-requires t c = search (rules, (known_facts _ _ c.requires.1.formed).inside)

pub settled_tree-returns-then-next-eq0 : goal.settled_tree-returns-then-next-eq0
settled_tree-returns-then-next-eq0 t c =
    let formed = c.requires.1.formed in
    leaf_passes _ _ _ _ _ formed.some_left formed.all_left c.settled_node.ensures c.if-not-settled_node.false c.next_of-next.ensures c.if-next-eq0.true

pub settled_tree-settled_group-requires : goal.settled_tree-settled_group-requires
settled_tree-settled_group-requires t c =
    let pre = c.requires in
    let next = c.next_of-next.ensures in
    let formed = pre.1.formed in
    let deep = (children_inside (known_facts _ _ formed) (λ z. c.if-next-eq0.false (next ∙ z))).0 in (
      search rules,
      (
        pre.0,
        record {
          formed = rw c.fanout.ensures (children_formed _ _ formed next c.if-next-eq0.false);
          unit = unit_below (omega (arith, deep)) formed.all_left c.fanout.ensures pre.1.unit;
        },
        pre.2,
        pre.3,
      ),
    )

pub settled_tree-returns : goal.settled_tree-returns
settled_tree-returns t c =
    let known = c.requires.1 in
    below_passes _ _ _ _ _ known.formed.some_left known.formed.all_left c.settled_node.ensures c.if-not-settled_node.false
    c.next_of-next.ensures c.if-next-eq0.false c.fanout.ensures known.unit c.settled_group.ensures
