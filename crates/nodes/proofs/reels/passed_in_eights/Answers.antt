use Rattle.std.proofs.Common.{◌≡◌, ◌+◌, ◌*◌, arith}
use Rattle.nodes.proofs.ReelCode.{past_eight}
use Rattle.nodes.proofs.reels.passed_in_eights.Goals as goal

pub loop-eighth-preserved : goal.loop-eighth-preserved
loop-eighth-preserved c =
    let next : 8 * c.loop-eighth.eighth + 8 ≡ 8 * (c.loop-eighth.eighth + 1) = omega arith in
    rw next at (past_eight _ _ _ c.loop-eighth.invariant c.none_of_four.ensures c.none_of_four-in-loop-eighth.ensures c.if-not-none_of_four.false)
