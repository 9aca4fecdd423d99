use Rattle.std.proofs.Common.{length, ap, ◌∙◌}
use Rattle.fingerprints.proofs.Folds.{table_in_length, by_table}
use Rattle.fingerprints.proofs.fingerprint.fold.Goals as goal

pub fold_for-requires : goal.fold_for-requires
fold_for-requires c = ap length c.requires.1 ∙ table_in_length _

pub returns : goal.returns
returns c = by_table _ _ c.requires.1 c.edition.ensures c.fold_for.ensures
