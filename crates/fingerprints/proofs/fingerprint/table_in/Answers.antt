use Rattle.std.proofs.Common.{rules}
use Rattle.fingerprints.specs.Tables.{table_in}
use Rattle.fingerprints.proofs.fingerprint.table_in.Goals as goal

pub returns-then-has_own : goal.returns-then-has_own
unfolding table_in
returns-then-has_own c = search rules

pub returns-else-has_own : goal.returns-else-has_own
unfolding table_in
returns-else-has_own c = search rules
