use Rattle.std.proofs.Common.{rules, arith, ◌<◌, refl, sym, ◌∙◌, ap, length}
use lib.Count.{count_trailing_zeros}
use Rattle.memory.proofs.Laws.{bit_laws, lowest_in}
use Rattle.visits.proofs.Places.{places_next}
use Rattle.settled.proofs.Held.{met_none, met_lower, met_more}
use Rattle.settled.proofs.SettledSteps.{known_facts, bits_end, bits_stop, bits_on, settled_places}
use Rattle.settled.proofs.frames.settled_node.Goals as goal

pub word_of-rest-requires : goal.word_of-rest-requires
word_of-rest-requires c = search (rules, (known_facts _ _ c.requires.1.formed).inside)

pub loop-rest-init : goal.loop-rest-init
loop-rest-init c =
    (c.word_of-rest.type_inv, sym (settled_places _ _ _ _ _ _ c.word_of-rest.ensures), met_none _ _ _ _ refl c.word_of-rest.ensures)

-- the lowest set bit is a place
pub settled_at-requires : goal.settled_at-requires
settled_at-requires c =
    let low : count_trailing_zeros 64 c.loop-rest.rest < 64 = lowest_in _ c.loop-rest-test.true c.loop-rest.invariant.0 in
    (c.requires.0, c.requires.1, low, c.requires.2, met_lower _ _ _ _ c.loop-rest.invariant.2)

pub returns-then-not-settled_at : goal.returns-then-not-settled_at
returns-then-not-settled_at c =
    let l = c.loop-rest in
    bits_stop _ l.rest c.loop-rest-test.true l.invariant.0 c.settled_at.ensures.0 c.if-not-settled_at.true ∙ l.invariant.1

pub loop-rest-smaller : goal.loop-rest-smaller
loop-rest-smaller c =
    rw c.without_bit-rest.ensures (omega (arith, ap length (places_next c.loop-rest.rest c.loop-rest-test.true c.loop-rest.invariant.0)))

pub loop-rest-preserved : goal.loop-rest-preserved
loop-rest-preserved c =
    let l = c.loop-rest in
    let told = c.settled_at.ensures in
    rw c.without_bit-rest.ensures (
      bit_laws.without_fits _ _ 64 l.invariant.0,
      sym (bits_on _ l.rest c.loop-rest-test.true l.invariant.0 told.0 c.if-not-settled_at.false) ∙ l.invariant.1,
      rw told.1 (met_more _ _ _ _ _ l.invariant.2),
    )

pub returns : goal.returns
returns c = bits_end _ c.loop-rest.rest c.loop-rest-test.false ∙ c.loop-rest.invariant.1
