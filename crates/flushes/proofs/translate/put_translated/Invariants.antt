use Rattle.std.proofs.Common.{◌*◌, ◌≤◌}
use Rattle.flushes.proofs.Progress.{Progress}
use Rattle.flushes.proofs.translate.put_translated.Given as goal

abbrev pub invariant-loop-k : goal.invariant-loop-k
invariant-loop-k l = (l.start ≤ 2 * l.k) × (l.used ≤ 98) × Progress l.script l.fn.buffer l.buffer l.used l.start (2 * l.k)
