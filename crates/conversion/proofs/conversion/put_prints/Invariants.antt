use Rattle.std.proofs.Common.{◌+◌}
use Rattle.conversion.specs.Written.{WrittenTo}
use Rattle.conversion.proofs.conversion.put_prints.Given as goal

abbrev pub invariant-loop-j : goal.invariant-loop-j
invariant-loop-j l = WrittenTo l.rule.edition l.g l.image l.copy (l.at + l.j)
