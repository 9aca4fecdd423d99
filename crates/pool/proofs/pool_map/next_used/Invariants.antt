use Rattle.std.proofs.Common.{◌≡◌, ◌-◌, ◌*◌}
use Rattle.pool.proofs.PoolLoops.{Passed}
use Rattle.pool.proofs.pool_map.next_used.Given as goal

-- words below i have no used node from `from` on, and what is passed over of word i comes before `from`
abbrev pub invariant-loop-i : goal.invariant-loop-i
invariant-loop-i l = (l.below ≡ l.from - 64 * l.i) × Passed l.pool l.from l.i
