use Rattle.std.proofs.Common.{rules}
use Rattle.std.proofs.Math.Bool.{and_comm}
use Rattle.tree.specs.Fingerprint.{has_own}
use Rattle.fingerprints.proofs.own_table.has_own.Goals as goal

pub returns : goal.returns
unfolding has_own
returns c = search (rules, and_comm)
