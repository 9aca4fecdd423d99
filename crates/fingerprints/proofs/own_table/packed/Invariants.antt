use Rattle.std.proofs.Common.{◌≡◌, ◌+◌, ◌*◌}
use Rattle.tree.specs.Fingerprint.{bytes_to, entry_in}
use Rattle.fingerprints.proofs.own_table.packed.Given as goal

abbrev pub invariant-loop-k : goal.invariant-loop-k
invariant-loop-k l = l.w ≡ bytes_to (λ i. entry_in l.table (8 * l.j + i)) l.k
