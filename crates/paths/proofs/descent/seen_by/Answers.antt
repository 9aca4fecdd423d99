use Rattle.paths.proofs.PathSteps.{none_read, number_read}
use Rattle.paths.proofs.descent.seen_by.Goals as goal

pub returns-then-number-eq0 : goal.returns-then-number-eq0
returns-then-number-eq0 c = none_read c.if-number-eq0.true

pub returns : goal.returns
returns c = number_read _ c.if-number-eq0.false
