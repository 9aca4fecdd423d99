use Rattle.std.proofs.Common.{rules}
use Rattle.recovery.proofs.Sounds.{reel_doubled, tree_fails, tree_sound, tree_walked}
use Rattle.recovery.proofs.recovery.visit_reel.Goals as goal

pub returns-then-slot_of-slot : goal.returns-then-slot_of-slot
returns-then-slot_of-slot c = reel_doubled _ _ c.args.slot _ c.slot_of.ensures (search rules) c.if-slot_of-slot.true

pub returns-then-not-visit_slot : goal.returns-then-not-visit_slot
returns-then-not-visit_slot c =
    let walk = c.visit_slot in
    tree_fails _ _ c.args.slot _ c.slot_of.ensures (search rules) c.if-slot_of-slot.false walk.result walk.new.pool walk.ensures c.if-not-visit_slot.true

pub frames_in_place-requires : goal.frames_in_place-requires
frames_in_place-requires c =
    let walk = c.visit_slot in
    let sound = tree_sound _ _ c.args.slot _ c.slot_of.ensures (search rules) c.if-slot_of-slot.false walk.result walk.new.pool walk.ensures c.if-not-visit_slot.false c.requires.2 in
    (c.requires.0, c.requires.1, sound)

pub returns : goal.returns
returns c =
    let walk = c.visit_slot in
    tree_walked _ _ c.args.slot _ c.slot_of.ensures (search rules) c.if-slot_of-slot.false walk.result walk.new.pool walk.ensures c.if-not-visit_slot.false _ c.frames_in_place.ensures
