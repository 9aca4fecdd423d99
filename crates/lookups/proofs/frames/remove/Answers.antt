use Rattle.std.proofs.Common.{arith, sym, ◌∙◌, []}
use mathlib.Core.Option.{none, some}
use Rattle.std.proofs.lemmas.Result.{err_from_is_err_and}
use Rattle.book.specs.Heads.{names}
use Rattle.operations.specs.Ends.{buffers, state}
use Rattle.operations.proofs.Passed.{all_checked}
use Rattle.operations.proofs.Tested.{filled_slot, check_bad, no_reel}
use Rattle.operations.proofs.HeadRecords.{any_read}
use Rattle.lookups.proofs.FrameLookups.{look, found_inside}
use Rattle.lookups.proofs.FrameLookups.{on_remove, remove_busy, remove_malformed, remove_absent, removed}
use Rattle.lookups.proofs.frames.remove.Goals as goal

pub returns-in_err-g : goal.returns-in_err-g
returns-in_err-g c pool ws e =
    let a = c.args in
    let p = err_from_is_err_and c.from_residual.result c.from_residual.ensures.1 in
    rw (p.1, p.2) (check_bad (on_remove (state a.image.now pool ws) a.script.now a.reel a.frame).tested (buffers [] a.script.now []) c.checks.ensures c.in_err-g.was)

pub slot_of-slot-requires : goal.slot_of-slot-requires
slot_of-slot-requires c = (all_checked c.args.image.now none none (some c.args.script.now) c.checks.ensures c.in_ok-g.was).sized

pub returns-then-g-slot : goal.returns-then-g-slot
returns-then-g-slot c pool ws e =
    let a = c.args in
    no_reel (on_remove (state a.image.now pool ws) a.script.now a.reel a.frame) (buffers [] a.script.now [])
    (record { checked = all_checked c.args.image.now none none (some c.args.script.now) c.checks.ensures c.in_ok-g.was; slot_is = c.slot_of-slot.ensures }) c.if-g-slot.true

-- the slot is busy by the heads' records if it is by the driver's words
pub returns-then-is_busy : goal.returns-then-is_busy
returns-then-is_busy c pool ws e =
    remove_busy (state _ pool ws) _ _ _ (record { checked = all_checked c.args.image.now none none (some c.args.script.now) c.checks.ensures c.in_ok-g.was; slot_is = c.slot_of-slot.ensures }) c.if-g-slot.false
    (sym (c.is_busy.ensures ∙ any_read (names _) ws _ e) ∙ c.if-is_busy.true)

pub fingerprint-requires : goal.fingerprint-requires
fingerprint-requires c = omega (arith, (all_checked c.args.image.now none none (some c.args.script.now) c.checks.ensures c.in_ok-g.was).sized.words)

pub find-requires : goal.find-requires
find-requires c =
    let checked = all_checked c.args.image.now none none (some c.args.script.now) c.checks.ensures c.in_ok-g.was in
    (checked.sized, filled_slot (record { checked = checked; slot_is = c.slot_of-slot.ensures }) c.if-g-slot.false, c.fingerprint.ensures)

-- the frame was looked up
pub returns-in_default : goal.returns-in_default
returns-in_default c pool ws e =
    remove_malformed (state _ pool ws) _ _ _ (sym (c.is_busy.ensures ∙ any_read (names _) ws _ e) ∙ c.if-is_busy.false) (look (all_checked c.args.image.now none none (some c.args.script.now) c.checks.ensures c.in_ok-g.was) c.slot_of-slot.ensures c.if-g-slot.false c.find.ensures) c.in_default.is

pub returns-in_default-found : goal.returns-in_default-found
returns-in_default-found c pool ws e =
    remove_absent (state _ pool ws) _ _ _ (sym (c.is_busy.ensures ∙ any_read (names _) ws _ e) ∙ c.if-is_busy.false) (look (all_checked c.args.image.now none none (some c.args.script.now) c.checks.ensures c.in_ok-g.was) c.slot_of-slot.ensures c.if-g-slot.false c.find.ensures) c.in-Ok.is c.in_default-found.is

pub put_remove-requires : goal.put_remove-requires
put_remove-requires c =
    let checked = all_checked c.args.image.now none none (some c.args.script.now) c.checks.ensures c.in_ok-g.was in
    let there = found_inside _ _ _ _ c.find.ensures c.in-Ok.is c.in-Some.is in
    (checked.sized, there.0, there.1, omega arith)

pub returns : goal.returns
returns c pool ws e =
    removed (state _ pool ws) _ _ _ (sym (c.is_busy.ensures ∙ any_read (names _) ws _ e) ∙ c.if-is_busy.false) (look (all_checked c.args.image.now none none (some c.args.script.now) c.checks.ensures c.in_ok-g.was) c.slot_of-slot.ensures c.if-g-slot.false c.find.ensures) c.in-Ok.is c.in-Some.is _ c.put_remove.ensures
