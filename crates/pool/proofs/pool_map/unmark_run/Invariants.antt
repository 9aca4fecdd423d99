use Rattle.std.proofs.Common.{◌≡◌, ◌-◌, length}
use Rattle.tree.specs.Lists.{range}
use Rattle.tree.specs.Pool.{unmark_all}
use Rattle.pool.proofs.pool_map.unmark_run.Given as goal

-- nodes of the run below n are unmarked
abbrev pub invariant-loop-n : goal.invariant-loop-n
invariant-loop-n l = (length l.pool ≡ length l.fn.pool) × (l.pool ≡ unmark_all l.fn.pool (range l.start (l.n - l.start)))
