use Rattle.std.proofs.Common.{arith, length-set}
use Rattle.fingerprints.proofs.Filled.{filled_to, filled_more}
use Rattle.conversion.proofs.Words.{frame_word}
use Rattle.conversion.proofs.conversion.put_frames.Goals as goal

pub loop-p-preserved : goal.loop-p-preserved
loop-p-preserved c =
    let l = c.loop-p in (
      simp length-set l.invariant.0,
      λ e w.
          filled_more (omega arith) (omega arith)
          (frame_word e _ _ c.requires.1 _ l.p c.loop-p-test.true (omega arith) c.is_set.ensures c.frame_of.ensures c.or_zero.ensures)
          (l.invariant.1 e w),
    )

pub returns : goal.returns
returns c e w = filled_to (omega arith) (c.loop-p.invariant.1 e w)
