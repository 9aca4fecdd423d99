use Rattle.std.proofs.Common.{◌≡◌, length}
use Rattle.fingerprints.specs.Tables.{flagged}
use Rattle.fingerprints.proofs.own_table.flag_bytes.Given as goal

abbrev pub invariant-loop-k : goal.invariant-loop-k
invariant-loop-k l = (length l.seen ≡ 256) × (l.seen ≡ flagged l.initial.seen l.w l.k)
