use Rattle.std.proofs.Common.{ℕ, ◌≡◌, ◌*◌, ◌≤◌, ◌<◌, false}
use Rattle.memory.specs.Words.{reads, marked}
use Rattle.memory.specs.Laws.{NoneBelow}
use Rattle.tree.specs.Lookup.{is_free_run}
use Rattle.pool.proofs.pool_map.free_run.Given as goal

-- no run starts below
abbrev pub invariant-loop-i : goal.invariant-loop-i
invariant-loop-i l = NoneBelow (is_free_run l.g (reads l.pool) l.k) (64 * l.i)

abbrev pub invariant-search : goal.invariant-search
invariant-search l = NoneBelow (is_free_run l.g (reads l.pool) l.k) l.s

-- the nodes from s on are free so far
abbrev pub invariant-loop-n : goal.invariant-loop-n
invariant-loop-n l = (j : ℕ) → l.s ≤ j → j < l.n → marked (reads l.pool) j ≡ false
