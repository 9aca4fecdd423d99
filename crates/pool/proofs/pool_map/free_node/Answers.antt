use Rattle.std.proofs.Common.{◌∙◌}
use Rattle.pool.proofs.PoolLoops.{free_one}
use Rattle.pool.proofs.pool_map.free_node.Goals as goal

pub returns : goal.returns
returns c = c.lowest_unmarked.ensures ∙ free_one _ _
