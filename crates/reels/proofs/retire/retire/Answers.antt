use Rattle.std.proofs.Common.{[], ◌∙◌, sym, not, ap, arith, rules}
use Rattle.std.proofs.lemmas.Result.{err_from_is_err_and}
use mathlib.Core.Option.{some}
use Rattle.operations.specs.Ends.{buffers}
use Rattle.operations.proofs.Tested.{filled_slot}
use Rattle.reels.proofs.IdleReels.{slot_busy}
use Rattle.reels.proofs.SlotReads.{begun, begun_bad}
use Rattle.reels.proofs.Retiring.{on_retire, tree_bad, retired}
use Rattle.reels.proofs.retire.retire.Goals as goal

pub returns-in_err-g : goal.returns-in_err-g
returns-in_err-g c ws e =
    let a = c.args in
    let p = err_from_is_err_and c.from_residual.result c.from_residual.ensures.1 in
    rw (p.1, p.2)
    (begun_bad (on_retire a.image.now a.pool.now ws a.scratch.now a.script.now a.reel) (buffers a.scratch.now a.script.now [])
    c.slot_checked.ensures.slot c.in_err-g.was c.slot_checked.ensures.scratch_left)

pub returns-then-is_busy : goal.returns-then-is_busy
returns-then-is_busy c ws e =
    let a = c.args in
    let b = begun a.image.now (some a.pool.now) (some a.scratch.now) (some a.script.now) a.reel c.slot_checked.ensures.slot c.in_ok-g.was in
    let p = b.read in
    rw (c.clear_map.ensures, rw c.in_ok-g.was at c.slot_checked.ensures.scratch_left)
    (slot_busy (on_retire a.image.now a.pool.now ws a.scratch.now a.script.now a.reel) p b.inside _ e (sym c.is_busy.ensures ∙ c.if-is_busy.true))

pub free_tree-requires : goal.free_tree-requires
free_tree-requires c =
    let a = c.args in
    let b = begun a.image.now (some a.pool.now) (some a.scratch.now) (some a.script.now) a.reel c.slot_checked.ensures.slot c.in_ok-g.was in
    let p = b.read in
    (p.checked.sized, filled_slot p b.inside, p.checked.map_words_lem, rw (rw c.in_ok-g.was at c.slot_checked.ensures.scratch_left) p.checked.scratch_words)

pub returns-then-not-free_tree : goal.returns-then-not-free_tree
returns-then-not-free_tree c ws e =
    let a = c.args in
    let b = begun a.image.now (some a.pool.now) (some a.scratch.now) (some a.script.now) a.reel c.slot_checked.ensures.slot c.in_ok-g.was in
    let p = b.read in
    let f = c.free_tree.ensures in
    rw (f.2, ← p.checked.scratch_words)
    (tree_bad _ _ ws _ _ _ p b.inside _ e (sym c.is_busy.ensures ∙ c.if-is_busy.false) c.free_tree.result f.0 _ f.1 (ap not c.if-not-free_tree.true))

pub root_at-requires : goal.root_at-requires
root_at-requires c =
    let a = c.args in
    let b = begun a.image.now (some a.pool.now) (some a.scratch.now) (some a.script.now) a.reel c.slot_checked.ensures.slot c.in_ok-g.was in
    let p = b.read.checked in
    omega (arith, p.sized.slots_limit, b.inside)

pub put_fenced-requires : goal.put_fenced-requires
put_fenced-requires c =
    let a = c.args in
    let b = begun a.image.now (some a.pool.now) (some a.scratch.now) (some a.script.now) a.reel c.slot_checked.ensures.slot c.in_ok-g.was in
    let p = b.read.checked in
    search (rules, p.script_words)

pub returns : goal.returns
returns c ws e =
    let a = c.args in
    let b = begun a.image.now (some a.pool.now) (some a.scratch.now) (some a.script.now) a.reel c.slot_checked.ensures.slot c.in_ok-g.was in
    let p = b.read in
    let f = c.free_tree.ensures in
    rw (f.2, ← p.checked.scratch_words)
    (retired _ _ ws _ _ _ p b.inside _ e (sym c.is_busy.ensures ∙ c.if-is_busy.false) c.free_tree.result f.0 _ f.1
    (ap not c.if-not-free_tree.false) _ (rw c.root_at.ensures at c.put_fenced.ensures))
