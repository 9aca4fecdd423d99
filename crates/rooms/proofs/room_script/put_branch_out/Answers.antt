use Rattle.std.proofs.Common.{◌+◌, add-one}
use Rattle.rooms.proofs.ClaimingScripts.{branched_written}
use Rattle.rooms.proofs.room_script.put_branch_out.Goals as goal

pub returns : goal.returns
returns c =
    let a = c.args in
    rw (← c.requires.1, ← add-one a.depth, ← c.node_at-at.ensures)
    (branched_written a.g (a.depth + 1) a.start a.count c.node_at-at.result (a.start + 1) a.script.now _ _ _
    c.put_nodes.ensures c.put_barrier.ensures c.put_fenced.ensures)
