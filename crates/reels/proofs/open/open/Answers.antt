use Rattle.std.proofs.Common.{[], rules}
use Rattle.std.proofs.lemmas.Result.{err_from_is_err_and}
use Rattle.operations.specs.Ends.{buffers}
use Rattle.operations.proofs.Tested.{check_bad}
use Rattle.operations.proofs.Passed.{open_checked}
use Rattle.reels.proofs.Opening.{on_open, already_open, no_slot, no_node, opened}
use Rattle.reels.proofs.open.open.Goals as goal

pub returns-in_err-g : goal.returns-in_err-g
returns-in_err-g c heads =
    let a = c.args in
    let p = err_from_is_err_and c.from_residual.result c.from_residual.ensures.1 in
    rw (p.1, p.2) (check_bad (on_open a.image.now a.pool.now a.script.now heads a.reel) (buffers [] a.script.now []) c.checks.ensures c.in_err-g.was)

pub slot_of-requires : goal.slot_of-requires
slot_of-requires c = (open_checked c.args.image.now c.args.pool.now c.args.script.now c.checks.ensures c.in_ok-g.was).sized

pub returns-then-slot_of-g : goal.returns-then-slot_of-g
returns-then-slot_of-g c heads =
    let p = open_checked c.args.image.now c.args.pool.now c.args.script.now c.checks.ensures c.in_ok-g.was in
    already_open _ _ _ heads _ _ p _ c.slot_of.ensures c.if-slot_of-g.true

pub empty_slot-slot-requires : goal.empty_slot-slot-requires
empty_slot-slot-requires c = (open_checked c.args.image.now c.args.pool.now c.args.script.now c.checks.ensures c.in_ok-g.was).sized

pub returns-then-g-slot : goal.returns-then-g-slot
returns-then-g-slot c heads =
    let p = open_checked c.args.image.now c.args.pool.now c.args.script.now c.checks.ensures c.in_ok-g.was in
    no_slot _ _ _ heads _ _ p _ c.slot_of.ensures c.if-slot_of-g.false _ c.empty_slot-slot.ensures c.if-g-slot.true

pub free_node-n-requires : goal.free_node-n-requires
free_node-n-requires c =
    let p = open_checked c.args.image.now c.args.pool.now c.args.script.now c.checks.ensures c.in_ok-g.was in
    search rules

pub returns-then-g-n : goal.returns-then-g-n
returns-then-g-n c heads =
    let p = open_checked c.args.image.now c.args.pool.now c.args.script.now c.checks.ensures c.in_ok-g.was in
    no_node _ _ _ heads _ _ p _ c.slot_of.ensures c.if-slot_of-g.false _ c.empty_slot-slot.ensures c.if-g-slot.false _ c.free_node-n.ensures c.if-g-n.true

pub put_open-requires : goal.put_open-requires
put_open-requires c =
    let p = open_checked c.args.image.now c.args.pool.now c.args.script.now c.checks.ensures c.in_ok-g.was in
    search rules

pub mark-requires : goal.mark-requires
mark-requires c =
    let p = open_checked c.args.image.now c.args.pool.now c.args.script.now c.checks.ensures c.in_ok-g.was in
    search rules

pub returns : goal.returns
returns c heads =
    let p = open_checked c.args.image.now c.args.pool.now c.args.script.now c.checks.ensures c.in_ok-g.was in
    opened _ _ _ heads _ _ p _ c.slot_of.ensures c.if-slot_of-g.false _ c.empty_slot-slot.ensures c.if-g-slot.false _ c.free_node-n.ensures c.if-g-n.false
    _ _ c.mark.ensures c.put_open.ensures
