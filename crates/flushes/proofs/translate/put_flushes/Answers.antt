use Rattle.std.proofs.Common.{◌≡◌, ◌*◌, ◌+◌, arith, refl, rules}
use Rattle.memory.proofs.Laws.{pairs, pair_read, length_pairs}
use Rattle.flushes.proofs.Passes.{flushes_none, PutMore, put_more, flushes_all}
use Rattle.flushes.proofs.translate.put_flushes.Goals as goal
use Rattle.flushes.proofs.translate.put_flushes.Goals.{After-put_new-used}

pub loop-k-init : goal.loop-k-init
loop-k-init c = let z = flushes_none c.args.script.now c.args.segment.now in (omega arith, z.0, z.1)

-- what one entry adds
more : (c : After-put_new-used) → PutMore (2 * c.loop-k.k) c.loop-k.used c.put_new-used.result c.args.segment.now c.args.script.now c.loop-k.script c.put_new-used.new.script
more c =
    let l = c.loop-k in
    let cut = pairs _ c.as_chunks.ensures.front in
    let line = (pair_read cut l.k c.loop-k-test.true).0 in
    put_more (2 * l.k) l.used _ _ _ _ _ _ refl (omega arith) (omega (arith, length_pairs cut)) l.invariant.1 l.invariant.2 (rw line at c.put_new-used.ensures)

pub overflow_add-used : goal.overflow_add-used
overflow_add-used c = let m = more (goal.at.overflow_add-used c).After-put_new-used in search (rules, m.few)

pub loop-k-preserved : goal.loop-k-preserved
loop-k-preserved c =
    let m = more (goal.at.loop-k-preserved c).After-put_new-used in
    let two : 2 * (c.loop-k.k + 1) ≡ 2 * c.loop-k.k + 2 = omega arith in
    rw two (omega (arith, m.few), m.used_is, m.written_is)

pub returns : goal.returns
returns c =
    let l = c.loop-k in
    let n = length_pairs (pairs _ c.as_chunks.ensures.front) in
    let all = flushes_all (2 * l.k) c.args.segment.now (omega arith) (omega arith) (omega arith) in
    rw (← all) (l.invariant.1, l.invariant.2)
