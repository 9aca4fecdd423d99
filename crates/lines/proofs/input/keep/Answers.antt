use mathlib.Core.Path.{◌∙◌}
use Rattle.lines.proofs.Collect.{keep_more}
use Rattle.lines.proofs.input.keep.Goals as goal

pub returns : goal.returns
returns c = c.append.ensures ∙ keep_more _ _ _ _ c.room.ensures c.min-kept.ensures
