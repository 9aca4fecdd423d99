use Rattle.std.proofs.Common.{arith, refl}
use Rattle.tree.specs.Convert.{new_header}
use Rattle.fingerprints.proofs.Filled.{filled_none, filled_more}
use Rattle.conversion.proofs.Words.{zeros_within, header_word, header_rest}
use Rattle.conversion.proofs.conversion.put_header.Goals as goal

pub returns : goal.returns
unfolding new_header
returns c g =
    c.put_zeros.ensures _ _ (zeros_within (omega arith) (omega arith) (header_rest _ g _))
    (filled_more (omega arith) (omega arith) (header_word _ g _ 2 (omega arith) refl)
    (filled_more refl (omega arith) (header_word _ g _ 1 (omega arith) refl)
    (filled_more {xs = c.args.copy.now} refl (omega arith) (header_word _ g _ 0 (omega arith) refl)
    (filled_none c.requires.1))))
