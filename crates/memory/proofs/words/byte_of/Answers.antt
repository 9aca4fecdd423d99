use Rattle.memory.proofs.Masks.{byte_masked}
use Rattle.memory.proofs.words.byte_of.Goals as goal

pub returns : goal.returns
returns c = byte_masked _ _
