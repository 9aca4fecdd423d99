use Rattle.std.proofs.Common.{length}
use Rattle.operations.specs.Ends.{no_buffers, state}
use Rattle.reelbook.proofs.Ended.{format_counts}
use Rattle.reelbook.proofs.reelbook_format.Goals as goal

pub returns : goal.returns
returns c =
    let a = c.args in
    let over = c.hand_over_fresh.ensures in
    rw (over.0, over.1)
    (format_counts (state a.image.now a.map.now a.heads.now) no_buffers _ _ _ _ (length a.map.now) a.table.now a.slots a.nodes (c.format.ensures a.heads.now))
