use Rattle.memory.specs.Words.{marked}
use Rattle.pool.proofs.pool_map.is_used.Goals as goal

pub returns : goal.returns
unfolding marked
returns c = c.is_set.ensures
