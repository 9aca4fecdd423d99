use Rattle.std.proofs.Common.{◌≡◌, ◌*◌, ◌≤◌, length, take}
use Rattle.memory.specs.Script.{written}
use Rattle.flushes.specs.Passes.{line_flushes}
use Rattle.flushes.proofs.translate.put_flushes.Given as goal

abbrev pub invariant-loop-k : goal.invariant-loop-k
invariant-loop-k l =
    let so_far = line_flushes (take (2 * l.k) l.segment) in
    (l.used ≤ 2 * l.k) × (l.used ≡ 2 * length so_far) × (l.script ≡ written so_far l.fn.script)
