use Rattle.std.proofs.Common.{length}
use Rattle.bookrun.proofs.run_piece.Given as goal

abbrev pub decreases-loop-behind : goal.decreases-loop-behind
decreases-loop-behind g l = length l.rest
