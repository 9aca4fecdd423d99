use Rattle.std.proofs.Common.{arith}
use Rattle.fingerprints.proofs.Filled.{filled_more}
use Rattle.conversion.proofs.Words.{prints_word}
use Rattle.conversion.proofs.conversion.put_prints.Goals as goal

pub loop-j-preserved : goal.loop-j-preserved
loop-j-preserved c =
    filled_more (omega arith) (omega arith) (prints_word _ _ _ c.requires.1 _ c.loop-j.j c.loop-j-test.true (omega arith) c.new_prints.ensures)
    c.loop-j.invariant
