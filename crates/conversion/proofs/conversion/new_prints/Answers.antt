use Rattle.std.proofs.Common.{add-one, refl}
use Rattle.tree.specs.Fingerprint.{bytes_to}
use Rattle.conversion.proofs.Words.{print_small}
use Rattle.conversion.proofs.conversion.new_prints.Goals as goal

pub loop-k-init : goal.loop-k-init
unfolding bytes_to
loop-k-init c = refl

pub with_byte-w-requires : goal.with_byte-w-requires
with_byte-w-requires c = (c.loop-k-test.true, print_small _ _ _ _ _ c.new_print.ensures)

pub loop-k-preserved : goal.loop-k-preserved
unfolding bytes_to
loop-k-preserved c = rw (add-one c.loop-k.k, ← c.loop-k.invariant, ← c.new_print.ensures) c.with_byte-w.ensures
