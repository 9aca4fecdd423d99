use Rattle.std.proofs.Common.{ℕ, ap}
use Rattle.std.specs.Prelude.{eqb}
use Rattle.memory.specs.Words.{is_set}
use Rattle.memory.proofs.words.is_set.Goals as goal

pub returns : goal.returns
unfolding is_set
returns c = ap (λ (b : ℕ). eqb b 1) c.bit_of.ensures
