use Rattle.book.specs.Perform.{remove_script}
use Rattle.operations.proofs.ScriptWords.{pair_written}
use Rattle.lookups.proofs.frames.put_remove.Goals as goal

pub returns : goal.returns
unfolding remove_script
returns c =
    rw (← c.word_of.ensures, ← c.word_of-2.ensures, ← c.without_bit.ensures, ← c.without_bit-2.ensures, ← c.node_at-at.ensures)
    (pair_written _ _ _ _ c.put_fenced_pair.ensures)
