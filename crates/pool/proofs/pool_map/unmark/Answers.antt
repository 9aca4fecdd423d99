use Rattle.std.proofs.Common.{refl}
use Rattle.tree.specs.Pool.{unmark}
use Rattle.pool.proofs.pool_map.unmark.Goals as goal

pub returns : goal.returns
unfolding unmark
returns c = rw c.without_bit.ensures refl
