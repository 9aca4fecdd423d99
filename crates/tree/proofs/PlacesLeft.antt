-- Places left: the clear places of a node but the one that is taken.
use mathlib.Core.Path.{◌≡◌, refl, ◌∙◌, ap}
use mathlib.Core.Bool.{true, not}
use mathlib.Core.List.{◌∷◌}
use Prim.Native.Nat.{ℕ, suc, ◌+◌, ◌^◌, ◌≤◌, ◌<◌}
use native.Mathlib.Omega.{arith}
use native.Mathlib.Decide.{ℕ_discrete}
use lib.ListN.{length}
use lib.Pow.{pow_mono}
use lib.Count.{ones}
use borrow.Author.Tests.{not-false}
use Rattle.memory.specs.Words.{Memory, is_set, with_bit, with_field, field}
use Rattle.memory.specs.Laws.{NoneBelow}
use Rattle.memory.proofs.Laws.{bit_laws, first_laws}
use Rattle.tree.specs.declared.layout.Geometry.{Geometry}
use Rattle.tree.specs.declared.path.Room.TheVariants.{ScaleUp, BranchOut}
use Rattle.tree.specs.Layout.{locate_at, size_at}
use Rattle.tree.specs.Lists.{up_to}
use Rattle.tree.specs.Lookup.{spot, clear_at}
use Rattle.tree.specs.Room.{clear_places, left_at, places_left}
use Rattle.tree.specs.Laws.{LeftLaws}
use Rattle.tree.proofs.Lists.{keep_first}
use Rattle.tree.proofs.Ones.{ones_clear, ones_full}

-- the lowest clear place of a word taken, the others are clear still
lowest_taken : (w n p : ℕ) → p < n → NoneBelow (λ k. not (is_set w k)) p → not (is_set w p) ≡ true → clear_places w n ≡ p ∷ clear_places (with_bit w p) n
unfolding up_to
lowest_taken w n p l none clear =
    keep_first (λ k. not (is_set w k)) (λ k. not (is_set (with_bit w p) k)) 0 n p (omega arith) (omega arith) (λ k a b. none k b) clear
    (ap not (bit_laws.with_sets w p)) (λ k q. ap not (bit_laws.with_keeps w p k q))

-- a word with every bit below n set, and bit n too
all_set : (w n : ℕ) {k : ℕ} → NoneBelow (λ p. not (is_set w p)) k → n ≤ k → (i : ℕ) → i < suc n → is_set (with_bit w n) i ≡ true
all_set w n none l i h = elim (ℕ_discrete i n) [
  | yes q ↦ rw q (bit_laws.with_sets w n)
  | no q ↦ bit_laws.with_keeps w n i q ∙ not-false _ (none i (omega arith))
]

module _ (g : Geometry) (m : Memory) where
  clear : (n : ℕ) → m (locate_at g n) < 2 ^ m (size_at g n) → clear_at g m n < m (size_at g n)
      → left_at g m (spot n (clear_at g m n)) + 1 ≡ length (clear_places (m (locate_at g n)) (m (size_at g n)))
  unfolding left_at clear_at
  clear n fits l =
      let w = m (locate_at g n) in
      let size = m (size_at g n) in
      let s = first_laws (λ p. not (is_set w p)) size in
      let w' = with_bit w (clear_at g m n) in
      let all = ones_clear w' size (bit_laws.with_fits w (clear_at g m n) size l fits) in
      let fewer = ap length (lowest_taken w size (clear_at g m n) l s.none_before (s.holds l)) in
      omega (arith, all, fewer)

  scaled_up : (n : ℕ) → m (locate_at g n) < 2 ^ m (size_at g n) → 0 < m (size_at g n) → m (size_at g n) ≤ clear_at g m n
      → places_left g m (ScaleUp n (m (size_at g n))) + 1 ≡ m (size_at g n)
  unfolding places_left clear_at
  scaled_up n fits some full =
      let w = m (locate_at g n) in
      let size = m (size_at g n) in
      let more : with_bit w size < 2 ^ suc size = bit_laws.with_fits w size (suc size) (omega arith) (omega (arith, pow_mono {i = size} {j = suc size} (omega arith))) in
      let all = ones_full (with_bit w size) (suc size) more (all_set w size (first_laws (λ p. not (is_set w p)) size).none_before full) in
      omega (arith, all)

  branched_out : (parent d : ℕ) → places_left g m (BranchOut parent d) + 1 ≡ 64
  unfolding places_left with_bit with_field field ones
  branched_out parent d = refl

  pub left_laws : LeftLaws g m
  left_laws = record { clear = clear; scaled_up = scaled_up; branched_out = branched_out }
