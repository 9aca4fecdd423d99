use Rattle.std.proofs.Common.{◌≤◌}
use Rattle.cases.proofs.values.read_values.Given as goal

abbrev pub invariant-loop-word : goal.invariant-loop-word
invariant-loop-word l = l.count ≤ 8
