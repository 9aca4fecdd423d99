use Rattle.memory.proofs.Masks.{bit_masked}
use Rattle.memory.proofs.words.bit_of.Goals as goal

pub returns : goal.returns
returns c = bit_masked _ _
