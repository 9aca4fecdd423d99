use Rattle.nodes.proofs.NodeCode.{children_past}
use Rattle.nodes.proofs.node.children_inside.Goals as goal

pub returns-then-nodes-before : goal.returns-then-nodes-before
returns-then-nodes-before c = let a = c.args in children_past a.nodes a.depth a.next c.if-next-eq0.false c.if-nodes-before.true
