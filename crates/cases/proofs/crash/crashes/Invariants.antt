use Rattle.std.proofs.Common.{◌≤◌, length}
use Rattle.cases.proofs.crash.crashes.Given as goal

abbrev pub invariant-loop-entry : goal.invariant-loop-entry
invariant-loop-entry l = (length l.crashes ≤ l.first) × (l.first ≤ l.entry) × (length l.crashes ≤ l.entries)
