use Rattle.std.proofs.Common.{◌*◌}
use Rattle.memory.specs.Words.{reads}
use Rattle.tree.specs.Fingerprint.{unpacked}
use Rattle.fingerprints.proofs.Flags.{Flagged}
use Rattle.fingerprints.proofs.own_table.has_every.Given as goal

abbrev pub invariant-loop-word : goal.invariant-loop-word
invariant-loop-word l = Flagged (unpacked (reads l.words) 0) l.seen (8 * l.word-index)
