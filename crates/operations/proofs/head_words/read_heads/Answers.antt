use Rattle.std.proofs.Common.{arith}
use Rattle.operations.proofs.HeadRecords.{all_read}
use Rattle.operations.proofs.head_words.read_heads.Goals as goal

pub returns : goal.returns
returns c = let l = c.loop-h in all_read c.args.words.now l.head-items l.invariant.count (λ k b. l.invariant.below k (omega arith))
