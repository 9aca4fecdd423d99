use Rattle.std.proofs.Common.{rules, length}
use Rattle.memory.specs.Words.{reads}
use Rattle.tree.specs.Layout.{map_words}
use Rattle.visits.proofs.Kept.{cleared}
use Rattle.visits.proofs.Checked.{same_answer}
use Rattle.visits.proofs.visit.sound_tree.Goals as goal

pub returns : goal.returns
returns c =
    let a = c.args in
    let check = c.check_tree-sound in (
      same_answer a.g (reads a.image.now) a.slot check.result _ check.ensures,
      cleared (length check.new.scratch) (map_words a.g) _ c.clear_map.ensures (search rules),
    )
