use Rattle.nodes.proofs.ClearPlaces.{none_clear, ones_fit, one_clear}
use Rattle.nodes.proofs.node.clear_place.Goals as goal

pub returns-then-size-place : goal.returns-then-size-place
returns-then-size-place c = none_clear _ _ _ c.word_of-size.ensures c.word_of-locate.ensures c.lowest_clear-place.ensures c.if-size-place.true

pub overflow_sub-left : goal.overflow_sub-left
overflow_sub-left c =
    let fits = c.requires.3 in
    ones_fit c.with_bit.ensures c.if-size-place.false (rw (← c.word_of-locate.ensures, ← c.word_of-size.ensures) at fits)

pub returns : goal.returns
returns c = one_clear _ _ _ c.word_of-size.ensures c.word_of-locate.ensures c.lowest_clear-place.ensures c.with_bit.ensures c.if-size-place.false
