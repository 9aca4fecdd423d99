use Rattle.std.proofs.Common.{◌*◌}
use Rattle.memory.specs.Words.{reads}
use Rattle.memory.specs.Laws.{NoneBelow}
use Rattle.memory.proofs.Bitmap.{unmarked}
use Rattle.memory.proofs.search.lowest_unmarked.Given as goal

abbrev pub invariant-loop-k : goal.invariant-loop-k
invariant-loop-k l = NoneBelow (unmarked (reads l.bitmap)) (64 * l.k)
