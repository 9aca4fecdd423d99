use Rattle.std.proofs.Common.{length}
use Rattle.operations.specs.Ends.{no_buffers, state}
use Rattle.reelbook.proofs.Ended.{recover_counts}
use Rattle.reelbook.proofs.reelbook_recover.Goals as goal

pub returns : goal.returns
returns c =
    let a = c.args in
    let over = c.hand_over_fresh.ensures in
    rw (over.0, over.1) (recover_counts (state a.image.now a.map.now a.heads.now) no_buffers _ _ _ _ (length a.map.now) (c.recover.ensures a.heads.now))
