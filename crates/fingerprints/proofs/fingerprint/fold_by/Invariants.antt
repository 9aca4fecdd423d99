use Rattle.std.proofs.Common.{◌≡◌, ◌<◌}
use Rattle.tree.specs.Fingerprint.{folded}
use Rattle.fingerprints.proofs.fingerprint.fold_by.Given as goal

abbrev pub invariant-loop-k : goal.invariant-loop-k
invariant-loop-k g l = (l.h < 256) × (l.h ≡ folded (g.T.Table.entries l.table) l.k l.frame)

abbrev pub invariant-loop-k-2 : goal.invariant-loop-k-2
invariant-loop-k-2 g l = (l.h < 256) × (l.h ≡ folded (g.T.Table.entries l.table) l.k l.frame)
