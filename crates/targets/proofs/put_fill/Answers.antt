use Rattle.book.specs.Perform.{fill_script}
use Rattle.operations.proofs.ScriptWords.{pair_written}
use Rattle.targets.proofs.put_fill.Goals as goal

pub returns : goal.returns
unfolding fill_script
returns c =
    rw (← c.fingerprints_of.ensures, ← c.fingerprint_word.ensures, ← c.node_at-at.ensures)
    (pair_written _ _ _ _ c.put_fenced_pair.ensures)
