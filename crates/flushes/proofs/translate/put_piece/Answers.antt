use Rattle.std.proofs.Common.{rules, ◌≤◌, length, arith}
use Rattle.flushes.proofs.Passes.{flushes_few, piece_barrier, piece_store}
use Rattle.flushes.proofs.translate.put_piece.Goals as goal
use Rattle.flushes.proofs.translate.put_piece.Goals.{After-put_flushes-used}

-- the flushes leave room for the barrier
few : (c : After-put_flushes-used) → c.put_flushes-used.result ≤ length c.args.segment.now
few c = omega (arith, c.put_flushes-used.ensures.0, flushes_few c.args.segment.now)

pub offset_bounds-script-used : goal.offset_bounds-script-used
offset_bounds-script-used c = search (rules, few (goal.at.offset_bounds-script-used c).After-put_flushes-used)

pub slice_bounds-put_barrier-count : goal.slice_bounds-put_barrier-count
slice_bounds-put_barrier-count c = search (rules, few (goal.at.slice_bounds-put_barrier-count c).After-put_flushes-used)

pub slice_bounds-put_barrier-start : goal.slice_bounds-put_barrier-start
slice_bounds-put_barrier-start c = search (rules, few (goal.at.slice_bounds-put_barrier-start c).After-put_flushes-used)

pub put_barrier-requires : goal.put_barrier-requires
put_barrier-requires c = search (rules, few (goal.at.put_barrier-requires c).After-put_flushes-used)

pub overflow_add-result : goal.overflow_add-result
overflow_add-result c = search (rules, few (goal.at.overflow_add-result c).After-put_flushes-used)

pub returns-then-index-eq-BARRIER : goal.returns-then-index-eq-BARRIER
returns-then-index-eq-BARRIER c =
    piece_barrier _ _ _ _ _ _ _ c.if-index-eq-BARRIER.true c.put_flushes-used.ensures.0 c.put_flushes-used.ensures.1 c.put_barrier.ensures

pub returns : goal.returns
returns c = piece_store _ _ _ _ _ c.if-index-eq-BARRIER.false c.put_store.ensures
