use Rattle.std.proofs.Common.{rules, length, ◌<◌, [], get_or, sym, ◌∙◌, arith}
use Rattle.memory.proofs.Pairs.{pairs, pair_at, pairs_end}
use Rattle.memory.proofs.Passes.{made_store, made_skip, made_last}
use Rattle.memory.proofs.apply.make_stores.Goals as goal
use Rattle.memory.proofs.apply.make_stores.Goals.{Then-index-lt-FLUSH, then-index-lt-FLUSH, else-index-lt-FLUSH}

-- the store is inside the image
inside : (c : Then-index-lt-FLUSH) → get_or (get_or c.as_chunks.result.0.now c.loop-index.index-index []) 0 0 < length c.loop-index.image
inside c =
    let l = c.loop-index in
    let step = pair_at (pairs _ c.as_chunks.ensures.front) l.index-index c.loop-index-test.true in
    (made_store l.image _ _ _ (rw step at l.invariant.1) c.if-index-lt-FLUSH.true).0

pub offset_bounds-image-index : goal.offset_bounds-image-index
offset_bounds-image-index c = let h = inside c in search rules

pub bounds-image-index : goal.bounds-image-index
bounds-image-index c = inside c

pub loop-index-preserved : goal.loop-index-preserved
loop-index-preserved c =
    let l = c.loop-index in
    let step = pair_at (pairs _ c.as_chunks.ensures.front) l.index-index c.loop-index-test.true in
    let checked = rw step at l.invariant.1 in
    let same = rw step at l.invariant.2 in
    elim c.if-index-lt-FLUSH.branch [
      | then-index-lt-FLUSH w ↦
          let d = (made_store l.image _ _ _ checked w.if-index-lt-FLUSH.true).1 in
          rw w.image-is (d.same_length ∙ l.invariant.0, d.checked, same ∙ d.same)
      | else-index-lt-FLUSH w ↦
          let d = made_skip l.image _ _ _ (omega arith) checked w.if-index-lt-FLUSH.false in
          rw w.image-is (l.invariant.0, d.checked, same ∙ d.same)
    ]

pub returns : goal.returns
returns c =
    let l = c.loop-index in
    let end = pairs_end (pairs _ c.as_chunks.ensures.front) l.index-index c.loop-index-test.false in
    made_last l.image _ end ∙ sym l.invariant.2
