use Rattle.std.proofs.Common.{[], ◌∙◌, sym}
use Rattle.std.proofs.lemmas.Result.{err_from_is_err_and}
use mathlib.Core.Option.{none, some}
use Rattle.std.specs.Prelude.{Ok, Err}
use Rattle.walks.specs.declared.trees.ListError.TheVariants.{Malformed, Short}
use Rattle.operations.specs.Ends.{buffers}
use Rattle.operations.proofs.Tested.{filled_slot}
use Rattle.reels.proofs.SlotReads.{begun, begun_bad}
use Rattle.reels.proofs.Listing.{on_list, list_ended}
use Rattle.reels.proofs.list.list.Goals as goal

pub returns-in_err-g : goal.returns-in_err-g
returns-in_err-g c pool ws =
    let a = c.args in
    let p = err_from_is_err_and c.from_residual.result c.from_residual.ensures.1 in
    rw (p.1, p.2)
    (begun_bad (on_list a.image.now pool ws a.scratch.now a.list.now a.reel) (buffers a.scratch.now [] a.list.now)
    c.slot_checked.ensures.slot c.in_err-g.was c.slot_checked.ensures.scratch_left)

pub list_tree-requires : goal.list_tree-requires
list_tree-requires c =
    let a = c.args in
    let b = begun a.image.now none (some a.scratch.now) none a.reel c.slot_checked.ensures.slot c.in_ok-g.was in
    let p = b.read in
    (p.checked.sized, filled_slot p b.inside, rw (rw c.in_ok-g.was at c.slot_checked.ensures.scratch_left) p.checked.scratch_words)

pub returns-in-Err-Malformed : goal.returns-in-Err-Malformed
returns-in-Err-Malformed c pool ws =
    let a = c.args in
    let b = begun a.image.now none (some a.scratch.now) none a.reel c.slot_checked.ensures.slot c.in_ok-g.was in
    let p = b.read in
    let e = c.list_tree.ensures in
    rw (e.2, ← p.checked.scratch_words)
    (list_ended _ pool ws _ _ _ p b.inside (Err Malformed) _ (sym (rw c.in-Err-Malformed.field-0-is at c.in-Err-Malformed.is) ∙ e.0) e.1)

pub returns-in-Err-Short : goal.returns-in-Err-Short
returns-in-Err-Short c pool ws =
    let a = c.args in
    let b = begun a.image.now none (some a.scratch.now) none a.reel c.slot_checked.ensures.slot c.in_ok-g.was in
    let p = b.read in
    let e = c.list_tree.ensures in
    rw (e.2, ← p.checked.scratch_words)
    (list_ended _ pool ws _ _ _ p b.inside (Err Short) _ (sym (rw c.in-Err-Short.field-0-is at c.in-Err-Short.is) ∙ e.0) e.1)

pub returns-in-Ok : goal.returns-in-Ok
returns-in-Ok c pool ws =
    let a = c.args in
    let b = begun a.image.now none (some a.scratch.now) none a.reel c.slot_checked.ensures.slot c.in_ok-g.was in
    let p = b.read in
    let e = c.list_tree.ensures in
    rw (e.2, ← p.checked.scratch_words)
    (list_ended _ pool ws _ _ _ p b.inside (Ok c.in-Ok.frames) _ (rw (← c.in-Ok.is) e.0) e.1)
