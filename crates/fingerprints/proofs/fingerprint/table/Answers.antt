-- The constant is, computed over all 256 entries in a go, the rule's own list.
use Rattle.std.proofs.Common.{refl}
use Rattle.tree.specs.Fingerprint.{table_entry, the_table}
use Rattle.tree.specs.Lists.{range, up_to}
use Rattle.fingerprints.proofs.fingerprint.table.Goals as goal

pub returns : goal.returns
unfolding the_table up_to range table_entry
returns c = refl
