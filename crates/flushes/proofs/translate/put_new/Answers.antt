use Rattle.std.proofs.Common.{sym, ◌∙◌}
use Rattle.flushes.proofs.Passes.{new_none, new_one}
use Rattle.flushes.proofs.translate.put_new.Goals as goal

pub returns-then-holds_line : goal.returns-then-holds_line
returns-then-holds_line c = new_none _ _ _ (sym c.holds_line.ensures ∙ c.if-holds_line.true)

pub returns : goal.returns
returns c = new_one _ _ _ _ (sym c.holds_line.ensures ∙ c.if-holds_line.false) c.put_flush.ensures
