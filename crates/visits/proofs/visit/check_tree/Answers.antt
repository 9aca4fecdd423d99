use Rattle.std.proofs.Common.{length}
use Rattle.tree.specs.Layout.{map_words}
use Rattle.visits.proofs.Kept.{cleared}
use Rattle.visits.proofs.Checked.{whole_tree}
use Rattle.visits.proofs.visit.check_tree.Goals as goal

pub returns : goal.returns
returns c =
    let a = c.args in
    let walk = c.visit_slot in
    whole_tree a.g a.image.now a.slot _ (cleared (length a.scratch.now) (map_words a.g) _ c.clear_map.ensures c.requires.2) walk.result _ walk.ensures
