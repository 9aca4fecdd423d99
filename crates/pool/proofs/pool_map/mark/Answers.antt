use Rattle.std.proofs.Common.{refl}
use Rattle.tree.specs.Pool.{mark}
use Rattle.pool.proofs.pool_map.mark.Goals as goal

pub returns : goal.returns
unfolding mark
returns c = rw c.with_bit.ensures refl
