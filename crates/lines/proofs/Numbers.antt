-- Reading a number: one law for each way that a step of it goes, and decimal numbers read back.
use mathlib.Core.Path.{◌≡◌, refl, sym, ◌∙◌, ap}
use mathlib.Core.Bool.{and-false}
use mathlib.Core.List.{List, [], ◌∷◌, ◌++◌, append_assoc}
use Prim.Native.Nat.{ℕ, zero, suc, ◌+◌, ◌*◌, ◌/◌, ◌%◌, ◌^◌, ◌≤◌, ◌<◌}
use native.Mathlib.Omega.{arith}
use native.Mathlib.Decide.{dec_le, dec_lt}
use lib.ListN.{drop}
use borrow.Author.Tests.{lt-ltb, le-ltb, le-leb, lt-leb}
use Rattle.std.specs.Prelude.{Some, None}
use Rattle.std.proofs.lemmas.Option.{none-some}
use Rattle.lines.specs.Decimal.{decimal}
use Rattle.lines.specs.Reading.{digit_at, number_from, number}
use Rattle.lines.proofs.Digits.{decimal_laws}

-- ---- one step

-- no digit follows: the number is whole
pub number_whole : (n : ℕ) (bs : List ℕ) → 10 ≤ digit_at bs → number_from n bs ≡ Some (n, bs)
unfolding number_from
number_whole n [] h = refl
number_whole n (b ∷ bs) h = rw (le-ltb (digit_at (b ∷ bs)) 10 h)

-- a digit follows: the number goes on
pub number_more : (n : ℕ) (bs : List ℕ) → digit_at bs < 10 → 0 < n → 10 * n + digit_at bs < 2 ^ 64
    → number_from n bs ≡ number_from (10 * n + digit_at bs) (drop 1 bs)
unfolding number_from digit_at
number_more n [] h p f = absurd (omega arith)
number_more n (b ∷ bs) h p f = rw (lt-ltb (digit_at (b ∷ bs)) 10 h, lt-ltb 0 n p, lt-ltb (10 * n + digit_at (b ∷ bs)) (2 ^ 64) f)

-- a digit follows a leading zero
pub number_zero : (bs : List ℕ) → digit_at bs < 10 → number_from 0 bs ≡ None
unfolding number_from digit_at
number_zero [] h = absurd (omega arith)
number_zero (b ∷ bs) h = rw (lt-ltb (digit_at (b ∷ bs)) 10 h)

-- the number would be too large
pub number_large : (n : ℕ) (bs : List ℕ) → digit_at bs < 10 → 2 ^ 64 ≤ 10 * n + digit_at bs → number_from n bs ≡ None
unfolding number_from digit_at
number_large n [] h f = absurd (omega arith)
number_large n (b ∷ bs) h f = rw (lt-ltb (digit_at (b ∷ bs)) 10 h, le-ltb (10 * n + digit_at (b ∷ bs)) (2 ^ 64) f, and-false)

pub number_starts : (bs : List ℕ) → digit_at bs < 10 → number bs ≡ number_from (digit_at bs) (drop 1 bs)
unfolding number
number_starts bs h = rw (lt-ltb (digit_at bs) 10 h)

pub number_none : (bs : List ℕ) → 10 ≤ digit_at bs → number bs ≡ None
unfolding number
number_none bs h = rw (le-ltb (digit_at bs) 10 h)

-- ---- digits and their bytes

no_digit : 10 ≤ digit_at []
unfolding digit_at
no_digit = omega arith

digit_read : (d : ℕ) (bs : List ℕ) → d < 10 → digit_at ((48 + d) ∷ bs) ≡ d
unfolding digit_at
digit_read d bs h = rw (le-leb 48 (48 + d) (omega arith), le-leb (48 + d) 57 (omega arith)) (omega arith)

digit_byte : (b : ℕ) (bs : List ℕ) → digit_at (b ∷ bs) < 10 → b ≡ 48 + digit_at (b ∷ bs)
unfolding digit_at
digit_byte b bs h =
    elim (dec_le 48 b) [
      | yes l ↦ elim (dec_le b 57) [
        | yes m ↦ rw (le-leb 48 b l, le-leb b 57 m) (omega arith)
        | no m ↦ absurd (let k = rw (lt-leb b 57 (omega arith), and-false) at h in omega arith)
      ]
      | no l ↦ absurd (let k = rw (lt-leb 48 b (omega arith)) at h in omega arith)
    ]

-- ---- decimal numbers are read back

read_back : (most n : ℕ) (rest : List ℕ) → n < most → n < 2 ^ 64 → number (decimal n ++ rest) ≡ number_from n rest
read_back zero n rest g h = absurd (omega arith)
read_back (suc most) n rest g h =
    elim (dec_lt n 10) [
      | yes l ↦ let d = digit_read n rest l in
          rw (decimal_laws.one_digit n l) (number_starts ((48 + n) ∷ rest) (omega arith) ∙ ap (λ k. number_from k rest) d)
      | no l ↦ let d = digit_read (n % 10) rest (omega arith) in
          rw (decimal_laws.more_digits n (omega arith), append_assoc)
          (read_back most (n / 10) ((48 + n % 10) ∷ rest) (omega arith) (omega arith)
          ∙ number_more (n / 10) ((48 + n % 10) ∷ rest) (omega arith) (omega arith) (omega arith)
          ∙ let e : 10 * (n / 10) + digit_at ((48 + n % 10) ∷ rest) ≡ n = omega arith in ap (λ k. number_from k rest) e)
    ]

pub decimal_read : (n : ℕ) (rest : List ℕ) → n < 2 ^ 64 → 10 ≤ digit_at rest → number (decimal n ++ rest) ≡ Some (n, rest)
decimal_read n rest h e = read_back (suc n) n rest (omega arith) h ∙ number_whole n rest e

-- ---- and what is read is decimal

-- a number and bytes behind it are written as another and those behind that one
abbrev Written : ℕ → List ℕ → ℕ × List ℕ → Type 0
Written n bs p = (decimal n ++ bs ≡ decimal p.0 ++ p.1) × (p.0 < 2 ^ 64)

whole : (n : ℕ) (bs : List ℕ) (p : ℕ × List ℕ) → n < 2 ^ 64 → Some (n, bs) ≡ Some p → Written n bs p
whole n bs p h e = let q : (n, bs) ≡ p = cc in rw (← q) (refl, h)

more_written : (n : ℕ) (b : ℕ) (bs : List ℕ) → 0 < n → digit_at (b ∷ bs) < 10
    → decimal (10 * n + digit_at (b ∷ bs)) ++ bs ≡ decimal n ++ b ∷ bs
more_written n b bs p h =
    let m = 10 * n + digit_at (b ∷ bs) in
    let e : m / 10 ≡ n = omega arith in
    let f : 48 + m % 10 ≡ b = omega (arith, digit_byte b bs h) in
    rw (decimal_laws.more_digits m (omega arith), e, f, append_assoc)

from_written : (n : ℕ) (bs : List ℕ) (p : ℕ × List ℕ) → n < 2 ^ 64 → number_from n bs ≡ Some p → Written n bs p
from_written n [] p h e = whole n [] p h (sym (number_whole n [] no_digit) ∙ e)
from_written n (b ∷ bs) p h e =
    elim (dec_lt (digit_at (b ∷ bs)) 10) [
      | no d ↦ whole n (b ∷ bs) p h (sym (number_whole n (b ∷ bs) (omega arith)) ∙ e)
      | yes d ↦ elim (dec_lt 0 n) [
        | no z ↦ let q : n ≡ 0 = omega arith in absurd (none-some p (sym (number_zero (b ∷ bs) d) ∙ rw q at e))
        | yes z ↦ elim (dec_lt (10 * n + digit_at (b ∷ bs)) (2 ^ 64)) [
          | no f ↦ absurd (none-some p (sym (number_large n (b ∷ bs) d (omega arith)) ∙ e))
          | yes f ↦ let w = from_written (10 * n + digit_at (b ∷ bs)) bs p f (sym (number_more n (b ∷ bs) d z f) ∙ e) in
              (sym (more_written n b bs z d) ∙ w.0, w.1)
        ]
      ]
    ]

pub read_decimal : (bs : List ℕ) (p : ℕ × List ℕ) → number bs ≡ Some p → (bs ≡ decimal p.0 ++ p.1) × (p.0 < 2 ^ 64)
read_decimal [] p e = absurd (none-some p (sym (number_none [] no_digit) ∙ e))
read_decimal (b ∷ bs) p e =
    elim (dec_lt (digit_at (b ∷ bs)) 10) [
      | no d ↦ absurd (none-some p (sym (number_none (b ∷ bs) (omega arith)) ∙ e))
      | yes d ↦ let w = from_written (digit_at (b ∷ bs)) bs p (omega arith) (sym (number_starts (b ∷ bs) d) ∙ e) in
          let f = digit_byte b bs d in
          (ap (λ x. x ∷ bs) f ∙ sym (ap (λ ds. ds ++ bs) (decimal_laws.one_digit (digit_at (b ∷ bs)) d)) ∙ w.0, w.1)
    ]
