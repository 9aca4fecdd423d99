use Rattle.std.proofs.Common.{sym, ◌∙◌}
use Rattle.tree.specs.Layout.{table_at}
use Rattle.tree.proofs.Fingerprints.{unpacked_at}
use Rattle.fingerprints.proofs.Folds.{byte_small}
use Rattle.fingerprints.proofs.tables.StoredTable.entry.Goals as goal

pub returns : goal.returns
returns c = (c.byte_of.ensures ∙ sym (unpacked_at _ table_at _ c.requires), byte_small _ _ c.byte_of.ensures)
