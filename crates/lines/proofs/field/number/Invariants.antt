use Rattle.std.proofs.Common.{◌≡◌, length}
use Rattle.lines.specs.Reading.{number_from, number}
use Rattle.lines.proofs.field.number.Given as goal

abbrev pub invariant-loop-d : goal.invariant-loop-d
invariant-loop-d l = number l.bytes ≡ number_from l.value l.rest

abbrev pub decreases-loop-d : goal.decreases-loop-d
decreases-loop-d l = length l.rest
