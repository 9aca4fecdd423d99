use Rattle.std.proofs.Common.{[], sym, length}
use Rattle.operations.specs.Ends.{buffers, state}
use Rattle.operations.proofs.HandedOver.{OfHead}
use Rattle.reelbook.proofs.Ended.{head_inside}
use Rattle.reelbook.proofs.reelbook_commit.Goals as goal

pub hand_over_head-requires : goal.hand_over_head-requires
hand_over_head-requires c =
    let a = c.args in
    head_inside (OfHead.commits {script = length a.script.now}) (state a.image.now [] a.heads.now) (buffers [] a.script.now []) c.commit-answer.result
    (c.commit-answer.ensures [] a.heads.now (sym c.state_of.ensures))
