use Rattle.std.proofs.Common.{arith}
use Rattle.fingerprints.proofs.Filled.{filled_to}
use Rattle.conversion.proofs.Words.{all_written}
use Rattle.conversion.proofs.conversion.convert_image.Goals as goal

pub loop-n-init : goal.loop-n-init
loop-n-init c = c.put_slots.ensures _ (c.put_header.ensures _)

pub returns : goal.returns
returns c =
    all_written _ _ c.requires.1 c.other_edition-other.ensures c.edition.ensures (filled_to (omega arith) c.loop-n.invariant)
