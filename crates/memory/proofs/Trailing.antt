-- Trailing zeros are the one search, for a word's lowest set bit; those of the complement, for its lowest clear bit.
use mathlib.Core.Path.{◌≡◌, refl, sym, ◌∙◌, ap, ap₂}
use mathlib.Core.Bool.{true, not, cond}
use mathlib.Core.Logic.{◌≢◌}
use Prim.Native.Nat.{ℕ, min, zero, suc, ◌-◌, ◌*◌, ◌/◌, ◌%◌, ◌^◌, ◌≤◌, ◌<◌}
use native.Mathlib.Nat.{pow-suc, zero-mul, one-mul}
use native.Mathlib.Omega.{arith}
use native.Mathlib.Decide.{dec_lt}
use lib.Dec.{eqb}
use lib.Count.{count_trailing_zeros, under}
use lib.Pow.{pow_pos}
use borrow.Author.Tests.{eqb-true}
use Rattle.memory.specs.Words.{field, with_field, bit, is_set, without_bit}
use Rattle.memory.specs.Search.{first}
use Rattle.memory.proofs.Fields.{bit_zero, bit_suc, bit_lt, bit_laws, no_bit}
use Rattle.memory.proofs.First.{first_laws}
use Rattle.memory.proofs.Bitmap.{clear_in}

-- a bit's two values
under_bit : (d t : ℕ) → d < 2 → under d t ≡ cond (eqb d 1) 0 (suc t)
under_bit zero t h = refl
under_bit (suc zero) t h = refl
under_bit (suc (suc d)) t h = absurd (omega arith)

flip_bit : (d : ℕ) → d < 2 → eqb (1 - d) 1 ≡ not (eqb d 1)
flip_bit zero h = refl
flip_bit (suc zero) h = refl
flip_bit (suc (suc d)) h = absurd (omega arith)

pub trailing_first : (k w : ℕ) → count_trailing_zeros k w ≡ first (is_set w) k
unfolding count_trailing_zeros first is_set
trailing_first zero w = refl
trailing_first (suc k) w =
    under_bit (w % 2) (count_trailing_zeros k (w / 2)) (omega arith)
    ∙ ap₂ (λ (d t : ℕ). cond (eqb d 1) 0 (suc t)) (sym (bit_zero w))
    (trailing_first k (w / 2) ∙ (first_laws (is_set (w / 2)) k).equal_tests _ (λ i l. ap (λ (d : ℕ). eqb d 1) (sym (bit_suc w i))))

-- a word other than 0 has a lowest set bit
module _ (w : ℕ) (o : w ≢ 0) (h : w < 2 ^ 64) where
  pub lowest_in : count_trailing_zeros 64 w < 64
  lowest_in = elim (dec_lt (count_trailing_zeros 64 w) 64) [
    | yes l ↦ l
    | no l ↦ absurd (o (bit_laws.same_word w 0 64 h (omega arith)
        (λ k b. (first_laws (is_set w) 64).none_before k (omega (arith, trailing_first 64 w)) ∙ sym (no_bit k))))
  ]

  pub lowest_set : is_set w (count_trailing_zeros 64 w) ≡ true
  lowest_set = rw (trailing_first 64 w) ((first_laws (is_set w) 64).holds (rw (← trailing_first 64 w) lowest_in))

  pub lowest_taken : without_bit w (count_trailing_zeros 64 w) < w
  unfolding without_bit with_field is_set bit
  lowest_taken =
      let t : ℕ = count_trailing_zeros 64 w in
      rw (eqb-true (field w t 1) 1 lowest_set, one-mul (2 ^ t), zero-mul (2 ^ t)) (omega (arith, pow_pos t))

-- the bits of `!w`
odd_not : (p w : ℕ) → w < p * 2 → (p * 2 - 1 - w) % 2 ≡ 1 - w % 2
odd_not p w h = omega arith

bit_not : (k n w : ℕ) → w < 2 ^ n → k < n → bit (2 ^ n - 1 - w) k ≡ 1 - bit w k
bit_not k zero w hw hk = absurd (omega arith)
bit_not zero (suc n) w hw hk =
    let p : 2 ^ suc n ≡ 2 ^ n * 2 = pow-suc 2 n in
    bit_zero (2 ^ suc n - 1 - w) ∙ rw p (odd_not (2 ^ n) w (omega arith)) ∙ ap (λ (x : ℕ). 1 - x) (sym (bit_zero w))
bit_not (suc k) (suc n) w hw hk =
    let p : 2 ^ suc n ≡ 2 ^ n * 2 = pow-suc 2 n in
    let h : (2 ^ suc n - 1 - w) / 2 ≡ 2 ^ n - 1 - w / 2 = omega arith in
    bit_suc (2 ^ suc n - 1 - w) k ∙ ap (λ (x : ℕ). bit x k) h
    ∙ bit_not k n (w / 2) (omega arith) (omega arith) ∙ ap (λ (x : ℕ). 1 - x) (sym (bit_suc w k))

-- the set bits of the complement are the clear ones
pub not_bits : (w k : ℕ) → w < 2 ^ 64 → k < 64 → is_set (2 ^ 64 - 1 - w) k ≡ not (is_set w k)
unfolding is_set
not_bits w k h l = ap (λ (d : ℕ). eqb d 1) (bit_not k 64 w h l) ∙ flip_bit (bit w k) (bit_lt w k)

lowest_clear : (w : ℕ) → w < 2 ^ 64 → count_trailing_zeros 64 (2 ^ 64 - 1 - w) ≡ first (clear_in w) 64
lowest_clear w h =
    trailing_first 64 (2 ^ 64 - 1 - w)
    ∙ (first_laws (is_set (2 ^ 64 - 1 - w)) 64).equal_tests (clear_in w) (λ k l. not_bits w k h l)

-- below n it is the search's answer; from n on there is none below n, and n is
module _ (w n : ℕ) (h : w < 2 ^ 64) (l : n ≤ 64) where
  pub clear_below : count_trailing_zeros 64 (2 ^ 64 - 1 - w) < n → count_trailing_zeros 64 (2 ^ 64 - 1 - w) ≡ first (clear_in w) n
  clear_below u =
      let s = first_laws (clear_in w) 64 in
      rw (lowest_clear w h) ((first_laws (clear_in w) n).stops (first (clear_in w) 64) (omega (arith, lowest_clear w h)) s.none_before (λ v. s.holds (omega arith)))

  pub clear_none : n ≤ count_trailing_zeros 64 (2 ^ 64 - 1 - w) → n ≡ first (clear_in w) n
  clear_none u =
      let s = first_laws (clear_in w) 64 in
      (first_laws (clear_in w) n).stops n (omega arith) (λ k v. s.none_before k (omega (arith, lowest_clear w h))) (λ v. absurd (omega arith))

  pub clear_first : min (count_trailing_zeros 64 (2 ^ 64 - 1 - w)) n ≡ first (clear_in w) n
  clear_first = elim (dec_lt (count_trailing_zeros 64 (2 ^ 64 - 1 - w)) n) [
    | yes u ↦ omega (arith, clear_below u)
    | no g ↦ omega (arith, clear_none (omega arith))
  ]
