use Rattle.std.proofs.Common.{arith}
use Rattle.fingerprints.proofs.Folds.{fingerprint_small}
use Rattle.fingerprints.proofs.fingerprint.fingerprint_word.Goals as goal

pub with_byte-requires : goal.with_byte-requires
with_byte-requires c = (omega arith, fingerprint_small _ _ c.fingerprint.ensures)
