use Rattle.memory.proofs.Masks.{or_bit}
use Rattle.memory.proofs.words.with_bit.Goals as goal

pub returns : goal.returns
returns c = or_bit _ _ c.requires
