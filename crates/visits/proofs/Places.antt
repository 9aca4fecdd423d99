-- A word's set bits, from the lowest on.
use mathlib.Core.Path.{◌≡◌}
use mathlib.Core.Logic.{◌≢◌}
use mathlib.Core.List.{[], ◌∷◌}
use Prim.Native.Nat.{ℕ, ◌^◌, ◌<◌}
use native.Mathlib.Omega.{arith}
use lib.Count.{count_trailing_zeros}
use Rattle.memory.specs.Words.{is_set, without_bit}
use Rattle.memory.specs.Laws.{NoneBelow}
use Rattle.memory.proofs.Laws.{bit_laws, no_bit, trailing_first, lowest_in, lowest_set, first_laws}
use Rattle.tree.specs.Lists.{up_to}
use Rattle.tree.proofs.Lists.{keep_none, keep_first}
use Rattle.visits.specs.Places.{set_places}

pub places_none : (w : ℕ) → w ≡ 0 → set_places w ≡ []
unfolding set_places
places_none w z = rw z (keep_none (is_set 0) (up_to 64) (λ k x. no_bit k))

pub places_next : (w : ℕ) → w ≢ 0 → w < 2 ^ 64 → set_places w ≡ count_trailing_zeros 64 w ∷ set_places (without_bit w (count_trailing_zeros 64 w))
unfolding set_places up_to
places_next w o h =
    let t = count_trailing_zeros 64 w in
    let l = lowest_in w o h in
    let none : NoneBelow (is_set w) t = rw (trailing_first 64 w) (first_laws (is_set w) 64).none_before in
    keep_first (is_set w) (is_set (without_bit w t)) 0 64 t (omega arith) (omega arith) (λ k a b. none k b) (lowest_set w o h) (bit_laws.without_clears w t) (λ k d. bit_laws.without_keeps w t k d)
