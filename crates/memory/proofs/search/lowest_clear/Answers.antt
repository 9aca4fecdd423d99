use Rattle.std.proofs.Common.{◌∙◌}
use Rattle.memory.proofs.Trailing.{clear_first}
use Rattle.memory.proofs.search.lowest_clear.Goals as goal

pub returns : goal.returns
returns c = c.min.ensures ∙ clear_first _ _ c.ranges.w.fits c.requires
