use Rattle.std.proofs.Common.{sym, ◌∙◌}
use Rattle.operations.proofs.Passed.{refused_first, passed, sized_image}
use Rattle.reels.proofs.SlotReads.{past_3}
use Rattle.reels.proofs.begin.slot_checked.Goals as goal

pub returns-in-Err-clause-scratch_left : goal.returns-in-Err-clause-scratch_left
returns-in-Err-clause-scratch_left c =
    let a = c.args in
    rw (← past_3 _ (refused_first a.image.now a.map _ a.script (sym c.in-Err.is ∙ c.checks.ensures)).most) c.clear_on_4.ensures

pub slot_of-slot-requires : goal.slot_of-slot-requires
slot_of-slot-requires c =
    let a = c.args in
    let p = passed a.image.now a.map _ a.script (sym c.in-Ok.is ∙ c.checks.ensures) in
    rw p.geometry (sized_image a.image.now _ p.image_fine)
