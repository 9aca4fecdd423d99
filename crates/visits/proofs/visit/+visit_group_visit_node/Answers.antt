use Rattle.std.proofs.Common.{rules, arith, ◌≡◌, ◌+◌, ◌-◌, ◌∙◌, sym}
use Rattle.memory.specs.Words.{reads}
use Rattle.tree.specs.Path.{levels}
use Rattle.tree.specs.Laws.{WellFormed}
use Rattle.tree.proofs.Nodes.{children_inside}
use Rattle.visits.proofs.Visits.{formed_facts, group_none, group_stop, group_more, node_fails, node_met, node_leaf, node_below}
use Rattle.visits.proofs.visit.+visit_group_visit_node.Goals as goal

pub visit_group-returns-then-not-visit_node : goal.visit_group-returns-then-not-visit_node
visit_group-returns-then-not-visit_node t c =
    let a = c.args in
    let l = c.loop-n in
    let v = c.visit_node in
    group_stop a.g (reads a.image.now) _ _ _ (a.start + a.count - l.n) _ v.result v.new.pool (λ z. omega arith) v.ensures c.if-not-visit_node.true
    ∙ sym l.invariant.1

pub visit_group-loop-n-preserved : goal.visit_group-loop-n-preserved
visit_group-loop-n-preserved t c =
    let a = c.args in
    let l = c.loop-n in
    let v = c.visit_node in
    let e : a.start + a.count - (l.n + 1) ≡ a.start + a.count - l.n - 1 = omega arith in
    let more = group_more a.g (reads a.image.now) _ _ _ (a.start + a.count - l.n) _ v.result v.new.pool (λ z. omega arith) v.ensures c.if-not-visit_node.false in
    (search rules, rw e (l.invariant.1 ∙ more))

pub visit_group-returns : goal.visit_group-returns
visit_group-returns t c =
    let a = c.args in
    group_none _ _ _ _ _ (a.start + a.count - c.loop-n.n) _ (omega arith) ∙ sym c.loop-n.invariant.1

pub visit_node-returns-then-not-well_formed : goal.visit_node-returns-then-not-well_formed
visit_node-returns-then-not-well_formed t c = node_fails _ _ _ _ _ _ (search rules) _ c.well_formed-2.ensures c.if-not-well_formed.true

pub visit_node-is_used-requires : goal.visit_node-is_used-requires
visit_node-is_used-requires t c =
    let w : WellFormed c.args.g (reads c.args.image.now) (levels - c.args.left) c.args.n = formed_facts _ _ _ _ _ c.well_formed-2.ensures c.if-not-well_formed.false in
    search rules

pub visit_node-returns-then-is_used : goal.visit_node-returns-then-is_used
visit_node-returns-then-is_used t c =
    node_met _ _ _ _ _ _ (search rules) _ c.well_formed-2.ensures c.if-not-well_formed.false _ c.is_used.ensures c.if-is_used.true

pub visit_node-mark-requires : goal.visit_node-mark-requires
visit_node-mark-requires t c =
    let w : WellFormed c.args.g (reads c.args.image.now) (levels - c.args.left) c.args.n = formed_facts _ _ _ _ _ c.well_formed-2.ensures c.if-not-well_formed.false in
    search rules

pub visit_node-next_of-next-requires : goal.visit_node-next_of-next-requires
visit_node-next_of-next-requires t c =
    let w : WellFormed c.args.g (reads c.args.image.now) (levels - c.args.left) c.args.n = formed_facts _ _ _ _ _ c.well_formed-2.ensures c.if-not-well_formed.false in
    search rules

pub visit_node-returns-then-next-eq0 : goal.visit_node-returns-then-next-eq0
visit_node-returns-then-next-eq0 t c =
    node_leaf _ _ _ _ _ _ (search rules) _ c.well_formed-2.ensures c.if-not-well_formed.false _ c.is_used.ensures c.if-is_used.false
    _ c.mark.ensures c.next_of-next.ensures c.if-next-eq0.true

pub visit_node-visit_group-requires : goal.visit_node-visit_group-requires
visit_node-visit_group-requires t c =
    let w : WellFormed c.args.g (reads c.args.image.now) (levels - c.args.left) c.args.n = formed_facts _ _ _ _ _ c.well_formed-2.ensures c.if-not-well_formed.false in
    let k = children_inside w (λ z. c.if-next-eq0.false (c.next_of-next.ensures ∙ z)) in
    search rules

pub visit_node-returns : goal.visit_node-returns
visit_node-returns t c =
    let a = c.args in
    node_below a.g (reads a.image.now) _ _ _ _ (search rules) _ c.well_formed-2.ensures c.if-not-well_formed.false _ c.is_used.ensures c.if-is_used.false
    _ c.mark.ensures _ _ _ c.next_of-next.ensures (omega arith) c.fanout.ensures c.if-next-eq0.false c.visit_group.ensures
