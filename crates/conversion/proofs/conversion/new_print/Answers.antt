use Rattle.std.proofs.Common.{ap, ◌∙◌, length}
use Rattle.tree.proofs.Fingerprints.{table_length}
use Rattle.conversion.proofs.Words.{print_made}
use Rattle.conversion.proofs.conversion.new_print.Goals as goal

pub fold_for-print-requires : goal.fold_for-print-requires
fold_for-print-requires c = ap length c.args.rule.now.laid ∙ table_length

pub returns : goal.returns
returns c =
    print_made c.requires.1 _ c.is_set.ensures _ c.args.rule.now.laid c.frame_of.ensures c.fold_for-print.ensures c.or_zero.ensures
