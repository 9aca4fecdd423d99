-- Digits and texts that bytes begin with, as the code finds them.
use mathlib.Core.Path.{◌≡◌, refl, sym, ap}
use mathlib.Core.Bool.{true, ◌&&◌, and-false, and-eq-true_iff, false≢true}
use mathlib.Core.Logic.{◌⊎◌, inl, inr}
use mathlib.Core.List.{List, [], ◌∷◌, ◌++◌}
use Prim.Native.Nat.{ℕ, ◌+◌, ◌-◌, ◌*◌, ◌^◌, ◌≤◌, ◌<◌}
use native.Mathlib.Omega.{arith}
use native.Mathlib.Decide.{dec_lt, ℕ_discrete}
use lib.ListN.{length, take, drop, length-drop}
use lib.Dec.{eqb}
use borrow.Author.Tests.{le-leb, lt-leb, eq-eqb, ne_eqb, eqb-true}
use Rattle.std.specs.Prelude.{None}
use Rattle.std.specs.Cmp.Lexicographic.{pointwise}
use Rattle.lines.specs.Reading.{digit_at, number_from, number, begins}
use Rattle.lines.proofs.Numbers.{number_more, number_zero, number_large, number_starts}

-- ---- digits

module _ (b : ℕ) (bs rest : List ℕ) (e : bs ≡ b ∷ rest) where
  pub digit_here : 48 ≤ b → b ≤ 57 → (b - 48 ≡ digit_at bs) × (b - 48 < 10) × (rest ≡ drop 1 bs)
  unfolding digit_at
  digit_here l m = rw (e, le-leb 48 b l, le-leb b 57 m) (refl, omega arith, refl)

  pub digit_other : (b < 48) ⊎ (57 < b) → 10 ≤ digit_at bs
  unfolding digit_at
  digit_other (inl l) = rw (e, lt-leb 48 b l) (omega arith)
  digit_other (inr l) = rw (e, lt-leb b 57 l, and-false) (omega arith)

pub digit_none : (bs : List ℕ) → length bs ≡ 0 → 10 ≤ digit_at bs
unfolding digit_at
digit_none [] e = omega arith
digit_none (b ∷ bs) e = absurd (omega arith)

-- a digit found, and the bytes behind it
module _ (bs rest : List ℕ) (d : ℕ) (w : (d ≡ digit_at bs) × (d < 10) × (rest ≡ drop 1 bs)) where
  pub number_first : number bs ≡ number_from d rest
  number_first = rw (w.0, w.2) (number_starts bs (omega arith))

  -- behind a leading zero, or where the number would be too large
  pub number_after_zero : (n : ℕ) → n ≡ 0 → number_from n bs ≡ None
  number_after_zero n z = rw z (number_zero bs (omega arith))

  pub number_past : (n : ℕ) → 2 ^ 64 ≤ 10 * n + d → number_from n bs ≡ None
  number_past n h = number_large n bs (omega arith) (omega arith)

  pub number_next : (n m : ℕ) → 0 < n → m ≡ 10 * n + d → m < 2 ^ 64 → number_from n bs ≡ number_from m rest
  number_next n m p e h = rw (e, w.0, w.2) (number_more n bs (omega arith) p (omega arith))

  pub digit_shorter : length rest < length bs
  digit_shorter = elim (dec_lt 0 (length bs)) [
    | yes h ↦ rw (w.2, length-drop) (omega arith)
    | no h ↦ let n = digit_none bs (omega arith) in absurd (omega arith)
  ]

-- ---- texts

pub begins_is : (t bs : List ℕ) → begins t bs ≡ true → bs ≡ t ++ drop (length t) bs
unfolding begins
begins_is [] bs e = refl
begins_is (a ∷ t) [] e = absurd (false≢true e)
begins_is (a ∷ t) (b ∷ bs) e =
    let w = (and-eq-true_iff (eqb a b) (begins t bs)).0 e in
    rw (eqb-true a b w.0) (ap (λ x. b ∷ x) (begins_is t bs w.1))

eqb_swap : (a b : ℕ) → eqb a b ≡ eqb b a
eqb_swap a b = elim (ℕ_discrete a b) [ yes e ↦ rw (eq-eqb a b e, eq-eqb b a (sym e)) | no n ↦ rw (ne_eqb a b n, ne_eqb b a (λ e. n (sym e))) ]

-- the test of the bytes at the start
pub begins_tested : (t bs : List ℕ) → begins t bs ≡ pointwise eqb (take (length t) bs) t
unfolding begins
begins_tested [] bs = refl
begins_tested (a ∷ t) [] = refl
begins_tested (a ∷ t) (b ∷ bs) = rw (eqb_swap a b) (ap (λ x. eqb b a && x) (begins_tested t bs))
