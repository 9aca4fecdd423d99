use Rattle.memory.proofs.Masks.{and_not_bit}
use Rattle.memory.proofs.words.without_bit.Goals as goal

pub returns : goal.returns
returns c = and_not_bit _ _ c.ranges.w.fits c.requires
