use Rattle.std.proofs.Common.{arith}
use Rattle.tree.specs.Convert.{new_word}
use Rattle.fingerprints.proofs.Filled.{filled_to, filled_more}
use Rattle.conversion.proofs.Words.{zeros_within, reached_word, spare_words}
use Rattle.conversion.proofs.conversion.put_head.Goals as goal

pub returns : goal.returns
unfolding new_word
returns c e w =
    let at = c.node_at-at.ensures in
    let r = c.requires.1 in
    filled_to (omega arith)
    (c.put_zeros.ensures _ _ (zeros_within (omega arith) (omega arith) (spare_words e _ _ r _ at))
    (filled_more (omega arith) (omega arith) (reached_word e _ _ r 4 _ (omega arith) (omega arith) c.word_of-2.ensures)
    (filled_more (omega arith) (omega arith) (reached_word e _ _ r 3 _ (omega arith) (omega arith) c.word_of.ensures)
    (filled_more (omega arith) (omega arith) (reached_word e _ _ r 2 _ (omega arith) (omega arith) r.set_word)
    (filled_more (omega arith) (omega arith) (reached_word e _ _ r 1 _ (omega arith) (omega arith) r.set_word)
    (filled_more (omega arith) (omega arith) (reached_word e _ _ r 0 _ (omega arith) (omega arith) c.next_of.ensures)
    (filled_to at w)))))))
