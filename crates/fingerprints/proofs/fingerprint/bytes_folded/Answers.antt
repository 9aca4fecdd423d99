use Rattle.std.proofs.Common.{rules}
use Rattle.tree.specs.Fingerprint.{rule_for}
use Rattle.fingerprints.proofs.fingerprint.bytes_folded.Goals as goal

pub returns-then-edition-eq1 : goal.returns-then-edition-eq1
unfolding rule_for
returns-then-edition-eq1 c = search rules

pub returns-else-edition-eq1 : goal.returns-else-edition-eq1
unfolding rule_for
returns-else-edition-eq1 c = search rules
