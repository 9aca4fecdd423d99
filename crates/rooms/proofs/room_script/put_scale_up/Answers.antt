use Rattle.operations.proofs.ScriptWords.{fenced_written}
use Rattle.rooms.proofs.room_script.put_scale_up.Goals as goal

pub returns : goal.returns
returns c = rw (← c.node_at.ensures) (fenced_written _ _ _ c.put_fenced.ensures)
