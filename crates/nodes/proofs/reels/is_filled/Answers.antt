use Rattle.std.proofs.Common.{refl}
use Rattle.tree.specs.Slots.{filled}
use Rattle.nodes.proofs.reels.is_filled.Goals as goal

pub returns : goal.returns
unfolding filled
returns c = rw c.root_of.ensures refl
