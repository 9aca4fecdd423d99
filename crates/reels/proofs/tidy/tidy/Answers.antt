use Rattle.std.proofs.Common.{[], ◌∙◌, sym, not, ap, arith, rules}
use Rattle.std.proofs.lemmas.Result.{err_from_is_err_and}
use mathlib.Core.Option.{some}
use Rattle.operations.specs.Ends.{buffers}
use Rattle.operations.proofs.Tested.{filled_slot}
use Rattle.groups.proofs.Found.{parent_found}
use Rattle.reels.proofs.IdleReels.{slot_busy}
use Rattle.reels.proofs.SlotReads.{begun, begun_bad}
use Rattle.reels.proofs.Tidying.{on_tidy, tree_bad, no_group, tidied}
use Rattle.reels.proofs.tidy.tidy.Goals as goal

pub returns-in_err-g : goal.returns-in_err-g
returns-in_err-g c ws e =
    let a = c.args in
    let p = err_from_is_err_and c.from_residual.result c.from_residual.ensures.1 in
    rw (p.1, p.2)
    (begun_bad (on_tidy a.image.now a.pool.now ws a.scratch.now a.script.now a.reel) (buffers a.scratch.now a.script.now [])
    c.slot_checked.ensures.slot c.in_err-g.was c.slot_checked.ensures.scratch_left)

pub returns-then-is_busy : goal.returns-then-is_busy
returns-then-is_busy c ws e =
    let a = c.args in
    let b = begun a.image.now (some a.pool.now) (some a.scratch.now) (some a.script.now) a.reel c.slot_checked.ensures.slot c.in_ok-g.was in
    let p = b.read in
    rw (c.clear_map.ensures, rw c.in_ok-g.was at c.slot_checked.ensures.scratch_left)
    (slot_busy (on_tidy a.image.now a.pool.now ws a.scratch.now a.script.now a.reel) p b.inside _ e (sym c.is_busy.ensures ∙ c.if-is_busy.true))

pub sound_tree-requires : goal.sound_tree-requires
sound_tree-requires c =
    let a = c.args in
    let b = begun a.image.now (some a.pool.now) (some a.scratch.now) (some a.script.now) a.reel c.slot_checked.ensures.slot c.in_ok-g.was in
    let p = b.read in
    (p.checked.sized, filled_slot p b.inside, rw (rw c.in_ok-g.was at c.slot_checked.ensures.scratch_left) p.checked.scratch_words)

pub returns-then-not-sound_tree : goal.returns-then-not-sound_tree
returns-then-not-sound_tree c ws e =
    let a = c.args in
    let b = begun a.image.now (some a.pool.now) (some a.scratch.now) (some a.script.now) a.reel c.slot_checked.ensures.slot c.in_ok-g.was in
    let p = b.read in
    let f = c.sound_tree.ensures in
    rw (f.1, ← p.checked.scratch_words)
    (tree_bad _ _ ws _ _ _ p b.inside _ e (sym c.is_busy.ensures ∙ c.if-is_busy.false) c.sound_tree.result f.0 (ap not c.if-not-sound_tree.true))

pub search_slot-requires : goal.search_slot-requires
search_slot-requires c =
    let a = c.args in
    let b = begun a.image.now (some a.pool.now) (some a.scratch.now) (some a.script.now) a.reel c.slot_checked.ensures.slot c.in_ok-g.was in
    let p = b.read in
    (p.checked.sized, filled_slot p b.inside, sym c.sound_tree.ensures.0 ∙ c.if-not-sound_tree.false)

pub free_group-requires : goal.free_group-requires
free_group-requires c =
    let a = c.args in
    let b = begun a.image.now (some a.pool.now) (some a.scratch.now) (some a.script.now) a.reel c.slot_checked.ensures.slot c.in_ok-g.was in
    let p = b.read in
    let q = parent_found (filled_slot p b.inside) (sym c.sound_tree.ensures.0 ∙ c.if-not-sound_tree.false) c.search_slot.ensures c.in-Some.is in
    (p.checked.sized, q.inside, q.linked, q.children, search (rules, p.checked.map_words_lem))

pub node_at-requires : goal.node_at-requires
node_at-requires c =
    let a = c.args in
    let b = begun a.image.now (some a.pool.now) (some a.scratch.now) (some a.script.now) a.reel c.slot_checked.ensures.slot c.in_ok-g.was in
    let p = b.read in
    let q = parent_found (filled_slot p b.inside) (sym c.sound_tree.ensures.0 ∙ c.if-not-sound_tree.false) c.search_slot.ensures c.in-Some.is in
    (p.checked.sized.slots_limit, omega (arith, q.inside, p.checked.sized.nodes_limit))

pub put_fenced-requires : goal.put_fenced-requires
put_fenced-requires c =
    let a = c.args in
    let b = begun a.image.now (some a.pool.now) (some a.scratch.now) (some a.script.now) a.reel c.slot_checked.ensures.slot c.in_ok-g.was in
    let p = b.read in
    search (rules, p.checked.script_words)

pub returns-in-None : goal.returns-in-None
returns-in-None c ws e =
    let a = c.args in
    let b = begun a.image.now (some a.pool.now) (some a.scratch.now) (some a.script.now) a.reel c.slot_checked.ensures.slot c.in_ok-g.was in
    let p = b.read in
    let f = c.sound_tree.ensures in
    rw (f.1, ← p.checked.scratch_words)
    (no_group _ _ ws _ _ _ p b.inside _ e (sym c.is_busy.ensures ∙ c.if-is_busy.false) c.sound_tree.result f.0
    (ap not c.if-not-sound_tree.false) c.search_slot.ensures c.in-None.is)

pub returns-in-Some : goal.returns-in-Some
returns-in-Some c ws e =
    let a = c.args in
    let b = begun a.image.now (some a.pool.now) (some a.scratch.now) (some a.script.now) a.reel c.slot_checked.ensures.slot c.in_ok-g.was in
    let p = b.read in
    let f = c.sound_tree.ensures in
    rw (f.1, ← p.checked.scratch_words)
    (tidied _ _ ws _ _ _ p b.inside _ e (sym c.is_busy.ensures ∙ c.if-is_busy.false) c.sound_tree.result f.0
    (ap not c.if-not-sound_tree.false) c.search_slot.ensures c.in-Some.is _ c.free_group.ensures _ (rw c.node_at.ensures at c.put_fenced.ensures))
