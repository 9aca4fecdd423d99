use Rattle.std.proofs.Common.{rules, ◌≡◌, ◌*◌, ◌+◌, ◌-◌, ◌≤◌, arith, refl}
use Rattle.memory.proofs.Laws.{pairs, pair_read, length_pairs}
use Rattle.flushes.proofs.Passes.{start_within}
use Rattle.flushes.proofs.Progress.{begins, ends, room, room_left, steps}
use Rattle.flushes.proofs.translate.put_translated.Goals as goal
use Rattle.flushes.proofs.translate.put_translated.Goals.{In-loop-k, After-put_piece-used}

pub loop-k-init : goal.loop-k-init
loop-k-init c = (omega arith, omega arith, begins _ _)

-- the next entry has room
fits : (c : In-loop-k) → c.loop-k.used + (2 * c.loop-k.k - c.loop-k.start) + 2 ≤ 98
fits c =
    let l = c.loop-k in
    let n = length_pairs (pairs _ c.as_chunks.ensures.front) in
    room c.args.script.now c.args.buffer.now l.buffer l.used l.start (2 * l.k) c.requires.1.few (omega (arith, c.loop-k-test.true)) l.invariant.2

pub put_piece-used-requires : goal.put_piece-used-requires
put_piece-used-requires c = search (rules, fits (goal.at.put_piece-used-requires c).In-loop-k)

-- and what it becomes keeps to it
few : (c : After-put_piece-used) → c.loop-k.used + c.put_piece-used.result ≤ 98
few c =
    let l = c.loop-k in
    let n = length_pairs (pairs _ c.as_chunks.ensures.front) in
    room_left c.args.script.now c.args.buffer.now l.buffer _ l.used l.start (2 * l.k) _ _ _ c.requires.1.few (omega (arith, c.loop-k-test.true)) l.invariant.2 refl c.put_piece-used.ensures.0

pub overflow_add-used : goal.overflow_add-used
overflow_add-used c = search (rules, few (goal.at.overflow_add-used c).After-put_piece-used)

pub loop-k-preserved : goal.loop-k-preserved
loop-k-preserved c =
    let l = c.loop-k in
    let cut = pairs _ c.as_chunks.ensures.front in
    let n = length_pairs cut in
    let words = pair_read cut l.k c.loop-k-test.true in
    let two : 2 * (l.k + 1) ≡ 2 * l.k + 2 = omega arith in
    let piece = rw (words.0, words.1) at c.put_piece-used.ensures in
    let next = rw words.0 at c.segment_start-start.ensures in
    rw two (
      rw next (start_within _ _ _ (omega (arith, l.invariant.0))),
      few (goal.at.loop-k-preserved c).After-put_piece-used,
      steps c.args.script.now c.args.buffer.now l.buffer _ _ l.used l.start (2 * l.k) _ _ c.requires.1.no_flush (omega (arith, c.loop-k-test.true)) l.invariant.2 refl piece next,
    )

pub returns : goal.returns
returns c = ends _ _ _ _ _ _ (omega (arith, length_pairs (pairs _ c.as_chunks.ensures.front), c.loop-k-test.false)) c.loop-k.invariant.2
