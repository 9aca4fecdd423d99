use Rattle.std.proofs.Common.{rules, refl, arith, add-one}
use Rattle.fingerprints.specs.Tables.{flagged}
use Rattle.fingerprints.proofs.Folds.{byte_small}
use Rattle.fingerprints.proofs.own_table.flag_bytes.Goals as goal

pub loop-k-init : goal.loop-k-init
unfolding flagged
loop-k-init c = (search rules, refl)

pub bounds-seen-byte_of : goal.bounds-seen-byte_of
bounds-seen-byte_of c = omega (arith, byte_small _ _ c.byte_of.ensures)

pub loop-k-preserved : goal.loop-k-preserved
unfolding flagged
loop-k-preserved c = (search rules, rw (add-one, ← c.loop-k.invariant.1, ← c.byte_of.ensures) refl)
