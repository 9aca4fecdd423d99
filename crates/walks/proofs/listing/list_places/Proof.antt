use Prim.Native.Nat.{◌+◌, ◌≤◌}
use native.Mathlib.Omega.{arith}
use borrow.Author.Rules.{rules}
use Rattle.memory.specs.Words.{reads}
use Rattle.memory.proofs.Laws.{clear_in, first_laws}
use Rattle.tree.specs.Subtree.{frames_in}
use Rattle.tree.proofs.Bits.{high_of}
use Rattle.visits.specs.Places.{set_places, words_at}
use Rattle.walks.proofs.Listings.{Writing, ends, rest_fits, rest_written}
use Rattle.walks.proofs.ListingsPlaces.{frames_in_lem, low_copied, low_room, none_high}
use Rattle.walks.proofs.listing.list_places.Statement.{statement}
use Rattle.walks.proofs.listing.list_places.Tie as tie

-- at most 64 places are copied
few : (c : tie.After-lowest_clear-low) → c.lowest_clear-low.result ≤ 64
few c = omega (arith, c.lowest_clear-low.ensures, (first_laws (clear_in c.word_of-set.result) 64).within)

-- their frames are written, and those of the others are left
written : (c : tie.After-slice_known-2-1)
    → let l = c.before.before.before.before in
    let a = l.args in
    let k = l.lowest_clear-low.result in
    Writing (frames_in a.g (reads a.image.now) a.n) a.list.now k (words_at a.image.now (l.node_at-first.result + 16) (set_places (high_of l.word_of-set.result k))) c.copy_words.new.list
written c =
    let l = c.before.before.before.before in
    let w = l.word_of-set in
    low_copied _ _ _ _ (frames_in_lem _ _ _ l.node_at-first.ensures w.ensures) w.type_inv l.requires.2 l.lowest_clear-low.ensures c.copy_words.ensures

copy_words_requires : tie.Need-copy_words-requires
copy_words_requires c κs =
    let l = c.before in
    let a = l.args in
    let w = l.word_of-set in
    (search (rules, few l), low_room a.image.now a.list.now _ _ (frames_in_lem a.g _ a.n l.node_at-first.ensures w.ensures) w.type_inv l.requires.2 l.lowest_clear-low.ensures)

-- none of them is left, or the others are written to the rest of the list
returns : tie.Need-returns-then-low-eq64
returns c = ends (rw (none_high _ _ _ _ c.if-low-eq64.true) at (written c.before))

list_words_requires : tie.Need-list_words-requires
list_words_requires c κs =
    let b = c.before.before in
    (search rules, (rest_fits b.requires.2 (written b)).1)

returns_2 : tie.Need-returns
returns_2 c =
    let b = c.before.before.before.before.before in
    let call = c.list_words in
    rest_written _ _ b.requires.2 (written b) call.ensures.0 call.ensures.1

pub list_places_spec : {M : Type 1} → statement M
list_places_spec =
    tie.close
    (tie.spec
    (λ c κs. search rules)
    (λ c κs. search rules)
    (λ c. search rules)
    (λ c κs. search rules)
    (λ c. search rules)
    copy_words_requires
    (λ c. search rules)
    returns
    (λ c. search rules)
    (λ c. search (rules, written c.before))
    (λ c. search (rules, written c.before))
    (λ c. search rules)
    (λ c. search rules)
    (λ c. search (rules, few c.before.before.before.before.before.before))
    (λ c. search rules)
    (λ c. search (rules, few c.before.before.before.before.before.before))
    list_words_requires
    (λ c. search (rules, written c.before.before.before.before.before, c.list_words.ensures.0))
    (λ c. search rules)
    returns_2)
