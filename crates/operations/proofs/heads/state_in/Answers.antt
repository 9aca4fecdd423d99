use Rattle.std.proofs.Common.{refl}
use Rattle.operations.specs.HeadLists.{state_in}
use Rattle.operations.proofs.heads.state_in.Goals as goal

pub returns : goal.returns
unfolding state_in
returns c = refl
