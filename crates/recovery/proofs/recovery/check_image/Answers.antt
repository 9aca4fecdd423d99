use Rattle.std.proofs.Common.{rules, length}
use Rattle.tree.specs.Layout.{map_words}
use Rattle.visits.proofs.Kept.{cleared}
use Rattle.recovery.proofs.Sounds.{image_unsound, image_sound}
use Rattle.recovery.proofs.recovery.check_image.Goals as goal

pub returns-then-not-visit_slots : goal.returns-then-not-visit_slots
returns-then-not-visit_slots c =
    let a = c.args in
    let walk = c.visit_slots in
    image_unsound a.g a.image.now _ (cleared (length a.pool.now) (map_words a.g) _ c.clear_map.ensures (search rules)) walk.result _ walk.ensures c.if-not-visit_slots.true
    _ (cleared (length walk.new.pool) (map_words a.g) _ c.clear_map-then-not-visit_slots.ensures (search rules))

pub returns : goal.returns
returns c =
    let a = c.args in
    let walk = c.visit_slots in
    image_sound a.g a.image.now _ (cleared (length a.pool.now) (map_words a.g) _ c.clear_map.ensures (search rules)) walk.result _ walk.ensures c.if-not-visit_slots.false
