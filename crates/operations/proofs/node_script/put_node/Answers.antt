use Rattle.std.proofs.Common.{sym, ◌∙◌}
use Rattle.std.proofs.Math.Seq.{sets-eq}
use Rattle.tree.specs.Memory.{store_words}
use Rattle.tree.proofs.Memory.{segment_laws}
use Rattle.book.specs.Perform.{new_node}
use Rattle.operations.proofs.node_script.put_node.Goals as goal

pub returns : goal.returns
returns c =
    let a = c.args in
    let made = new_node a.g a.n a.level a.size in
    rw c.node_at-at.ensures (sets-eq (store_words made) a.script.now 0 c.requires.0 ∙ sym (segment_laws.stores_written made a.script.now))
