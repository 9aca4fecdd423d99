use Rattle.operations.proofs.ScriptWords.{fenced_written}
use Rattle.targets.proofs.put_abandon.Goals as goal

pub returns : goal.returns
returns c = rw (← c.word_of.ensures, ← c.without_bit-bits.ensures, ← c.node_at.ensures) (fenced_written _ _ _ c.put_fenced.ensures)
