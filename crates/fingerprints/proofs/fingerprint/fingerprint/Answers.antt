use Rattle.std.proofs.Common.{sym, ◌∙◌}
use Rattle.fingerprints.proofs.Folds.{by_own, by_rule}
use Rattle.fingerprints.proofs.fingerprint.fingerprint.Goals as goal

pub returns-then-has_own : goal.returns-then-has_own
returns-then-has_own c = by_own _ _ (sym c.has_own.ensures ∙ c.if-has_own.true) c.fold_by.ensures

pub returns-else-has_own : goal.returns-else-has_own
returns-else-has_own c =
    by_rule _ _ (sym c.has_own.ensures ∙ c.if-has_own.false) c.edition.ensures
    (rw c.bytes_folded.ensures.0 at c.fold_by-else-has_own.ensures)
