use Rattle.std.proofs.Common.{arith, rules}
use mathlib.Core.Option.{none}
use Rattle.std.proofs.lemmas.Result.{err_from_is_err_and}
use Rattle.operations.specs.Ends.{no_buffers, state}
use Rattle.operations.proofs.Passed.{all_checked}
use Rattle.operations.proofs.Tested.{filled_slot, check_bad, no_reel}
use Rattle.lookups.proofs.FrameLookups.{look, on_has, has_malformed, has_said}
use Rattle.lookups.proofs.frames.has.Goals as goal

pub returns-in_err-g : goal.returns-in_err-g
returns-in_err-g c pool ws =
    let a = c.args in
    let p = err_from_is_err_and c.from_residual.result c.from_residual.ensures.1 in
    rw (p.1, p.2) (check_bad (on_has (state a.image.now pool ws) a.reel a.frame).tested no_buffers c.checks.ensures c.in_err-g.was)

pub slot_of-slot-requires : goal.slot_of-slot-requires
slot_of-slot-requires c = (all_checked c.args.image.now none none none c.checks.ensures c.in_ok-g.was).sized

pub returns-then-g-slot : goal.returns-then-g-slot
returns-then-g-slot c pool ws =
    let a = c.args in
    let checked = all_checked a.image.now none none none c.checks.ensures c.in_ok-g.was in
    no_reel (on_has (state a.image.now pool ws) a.reel a.frame) no_buffers (record { checked = checked; slot_is = c.slot_of-slot.ensures }) c.if-g-slot.true

pub fingerprint-requires : goal.fingerprint-requires
fingerprint-requires c = omega (arith, (all_checked c.args.image.now none none none c.checks.ensures c.in_ok-g.was).sized.words)

pub find-requires : goal.find-requires
find-requires c =
    let checked = all_checked c.args.image.now none none none c.checks.ensures c.in_ok-g.was in
    (checked.sized, filled_slot (record { checked = checked; slot_is = c.slot_of-slot.ensures }) c.if-g-slot.false, c.fingerprint.ensures)

-- the frame was looked up
pub returns-in_default : goal.returns-in_default
returns-in_default c pool ws =
    has_malformed (state _ pool ws) _ _ (look (all_checked c.args.image.now none none none c.checks.ensures c.in_ok-g.was) c.slot_of-slot.ensures c.if-g-slot.false c.find.ensures) c.in_default.is

pub returns : goal.returns
returns c pool ws =
    let s = state c.args.image.now pool ws in
    let l = look (all_checked c.args.image.now none none none c.checks.ensures c.in_ok-g.was) c.slot_of-slot.ensures c.if-g-slot.false c.find.ensures in
    search (rules, has_said s c.args.reel c.args.frame l c.in-Ok.is)
