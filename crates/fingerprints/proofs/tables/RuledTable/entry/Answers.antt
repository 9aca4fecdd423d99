use Rattle.std.proofs.Common.{rules}
use Rattle.tree.specs.Fingerprint.{table_entry}
use Rattle.fingerprints.proofs.tables.RuledTable.entry.Goals as goal

pub returns : goal.returns
unfolding table_entry
returns c = search rules
