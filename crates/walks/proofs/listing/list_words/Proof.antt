use mathlib.Core.Path.{ap}
use Prim.Native.Nat.{◌^◌, ◌<◌}
use native.Mathlib.Omega.{arith}
use lib.ListN.{length}
use borrow.Author.Rules.{rules}
use lib.Count.{count_trailing_zeros}
use Rattle.memory.proofs.Laws.{bit_laws, lowest_in}
use Rattle.visits.specs.Places.{set_places, words_at}
use Rattle.walks.proofs.Listings.{Writing, starts, ends, one_more}
use Rattle.walks.proofs.ListingsPlaces.{words_none, words_next}
use Rattle.walks.proofs.listing.list_words.Statement.{statement}
use Rattle.walks.proofs.listing.list_words.Tie as tie

abbrev invariant-loop-left : tie.invariant-loop-left
invariant-loop-left image list₀ first set left₀ k₀ list left k =
    (left < 2 ^ 64) × Writing (words_at image first (set_places set)) list₀ k (words_at image first (set_places left)) list

abbrev decreases-loop-left : tie.decreases-loop-left
decreases-loop-left image list₀ first set left₀ k₀ list left k = length (words_at image first (set_places left))

-- the lowest set bit is a place, and the list has room for its word
low : (c : tie.In-loop-left invariant-loop-left decreases-loop-left) → count_trailing_zeros 64 c.loop-left.left < 64
low c = lowest_in _ c.loop-left-test.true c.loop-left.invariant.0

room : (c : tie.In-loop-left invariant-loop-left decreases-loop-left) → c.loop-left.k < length c.loop-left.list
room c =
    let l = c.loop-left in
    let a = c.args in
    omega (arith, ap length (words_next a.image.now a.first l.left c.loop-left-test.true l.invariant.0))

pub list_words_spec : {M : Type 1} → statement M
list_words_spec =
    tie.close
    (tie.spec
    invariant-loop-left
    decreases-loop-left
    (λ c. (search rules, starts _ _))
    (λ c. search (rules, low c))
    (λ c. search (rules, low c))
    (λ c. search (rules, low c))
    (λ c. search (rules, low c.before))
    (λ c. search (rules, room c.before))
    (λ c. search (rules, room c.before))
    (λ c κs. low c.before)
    (λ c. search (rules, room c.before.before))
    (λ c. let l = c.loop-left in
    let a = c.args in
    rw c.without_bit-left.ensures (omega (arith, ap length (words_next a.image.now a.first l.left c.loop-left-test.true l.invariant.0))))
    (λ c. let l = c.loop-left in
    (rw c.without_bit-left.ensures (bit_laws.without_fits _ _ 64 l.invariant.0), rw c.without_bit-left.ensures (one_more (room c.before.before) (rw (words_next _ _ l.left c.loop-left-test.true l.invariant.0) at l.invariant.1))))
    (λ c. search rules)
    (λ c. let l = c.loop-left in ends (rw (words_none _ _ l.left c.loop-left-test.false) at l.invariant.1)))
