use Rattle.fingerprints.proofs.Packing.{Packing}
use Rattle.fingerprints.proofs.own_table.bad_given.Given as goal

abbrev pub invariant-loop-i : goal.invariant-loop-i
invariant-loop-i l = Packing l.table l.words l.i
