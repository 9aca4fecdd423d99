use Rattle.flushes.proofs.Passes.{ends_empty, ends_last}
use Rattle.flushes.proofs.translate.ends_fenced.Goals as goal

pub returns-then-n-eq0 : goal.returns-then-n-eq0
returns-then-n-eq0 c = ends_empty _ c.if-n-eq0.true

pub returns-else-n-eq0 : goal.returns-else-n-eq0
returns-else-n-eq0 c = ends_last _ c.requires c.if-n-eq0.false
