use Rattle.memory.specs.Words.{reads}
use Rattle.tree.specs.Fingerprint.{entry_in, stored_table}
use Rattle.fingerprints.specs.Filled.{FilledTo}
use Rattle.fingerprints.proofs.own_table.stored_table.Given as goal

abbrev pub invariant-loop-i : goal.invariant-loop-i
invariant-loop-i l = FilledTo (entry_in (stored_table (reads l.image))) 256 l.entry-items l.i
