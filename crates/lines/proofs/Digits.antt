-- Numbers in decimal: one digit, more digits, and how many.
use mathlib.Core.Path.{◌≡◌, refl, sym, ◌∙◌, ap}
use mathlib.Core.List.{List, [], ◌∷◌, ◌++◌}
use Prim.Native.Nat.{ℕ, zero, suc, ◌+◌, ◌/◌, ◌%◌, ◌^◌, ◌≤◌, ◌<◌}
use native.Mathlib.Nat.{pow-suc}
use native.Mathlib.Omega.{arith}
use native.Mathlib.Decide.{dec_lt}
use lib.ListN.{length, get_or, drop, set, length-append}
use lib.Seq.{append_snoc, drop-cons, set_at, set_split}
use borrow.Author.Tests.{lt-ltb, le-ltb}
use Rattle.lines.specs.Decimal.{digits, decimal}
use Rattle.lines.specs.Laws.{DecimalLaws}

digits_one : (most n : ℕ) → n < 10 → digits (suc most) n ≡ (48 + n) ∷ []
unfolding digits
digits_one most n h = rw (lt-ltb n 10 h, digits)

digits_more : (most n : ℕ) → 10 ≤ n → digits (suc most) n ≡ digits most (n / 10) ++ (48 + n % 10) ∷ []
unfolding digits
digits_more most n h = rw (le-ltb n 10 h, digits)

-- any allowance above n gives the same digits
digits_same : (j k n : ℕ) → n < j → n < k → digits j n ≡ digits k n
digits_same zero k n g h = absurd (omega arith)
digits_same (suc j) zero n g h = absurd (omega arith)
digits_same (suc j) (suc k) n g h =
    elim (dec_lt n 10) [
      | yes l ↦ digits_one j n l ∙ sym (digits_one k n l)
      | no l ↦ digits_more j n (omega arith) ∙ ap (λ ds. ds ++ (48 + n % 10) ∷ []) (digits_same j k (n / 10) (omega arith) (omega arith))
          ∙ sym (digits_more k n (omega arith))
    ]

one_digit : (n : ℕ) → n < 10 → decimal n ≡ (48 + n) ∷ []
unfolding decimal
one_digit n h = digits_one n n h

more_digits : (n : ℕ) → 10 ≤ n → decimal n ≡ decimal (n / 10) ++ (48 + n % 10) ∷ []
unfolding decimal
more_digits n h = digits_more n n h ∙ ap (λ ds. ds ++ (48 + n % 10) ∷ []) (digits_same n (suc (n / 10)) (n / 10) (omega arith) (omega arith))

at_most : (k n : ℕ) → 0 < k → n < 10 ^ k → length (decimal n) ≤ k
at_most zero n p h = absurd (omega arith)
at_most (suc zero) n p h = rw (one_digit n h) (omega arith)
at_most (suc (suc k)) n p h =
    elim (dec_lt n 10) [
      | yes l ↦ rw (one_digit n l) (omega arith)
      | no l ↦ let shorter = at_most (suc k) (n / 10) (omega arith) (let g = rw (pow-suc 10 (suc k)) at h in omega arith) in
          rw (more_digits n (omega arith), length-append) (omega arith)
    ]

at_most_20 : (n : ℕ) → n < 2 ^ 64 → length (decimal n) ≤ 20
at_most_20 n h = at_most 20 n (omega arith) (omega arith)

-- ---- digits written at the start of a buffer

-- a number of 64 bits has at most 20 digits, so without its last at most 19
pub one_less : (n : ℕ) → n < 2 ^ 64 → length (decimal (n / 10)) < 20
one_less n h = let s = at_most 19 (n / 10) (omega arith) (omega arith) in omega arith

pub put_one : (n : ℕ) (buffer : List ℕ) → n < 10 → 0 < length buffer
    → (set buffer 0 (48 + n) ≡ decimal n ++ drop (length (decimal n)) buffer) × (1 ≡ length (decimal n))
put_one n buffer h r = rw (one_digit n h) (set_split buffer 0 (48 + n) r, refl)

pub put_more : (n k : ℕ) (buffer now : List ℕ) → 10 ≤ n → k < length buffer → now ≡ decimal (n / 10) ++ drop (length (decimal (n / 10))) buffer
    → k ≡ length (decimal (n / 10)) → (set now k (48 + n % 10) ≡ decimal n ++ drop (length (decimal n)) buffer) × (k + 1 ≡ length (decimal n))
put_more n k buffer now h r e q =
    let len : length (decimal n) ≡ suc k = rw (more_digits n h, length-append, ← q) (omega arith) in
    let left = drop (suc k) buffer in
    let a = 48 + n % 10 in
    let done = ap (λ ds. ds ++ left) (more_digits n h) ∙ append_snoc (decimal (n / 10)) a left in
    (rw (len, e, ← q, drop-cons buffer k 0 r) (set_at (decimal (n / 10)) (get_or buffer k 0) left a k (sym q) ∙ sym done), rw len (omega arith))

pub decimal_laws : DecimalLaws
decimal_laws = record { one_digit = one_digit; more_digits = more_digits; at_most = at_most; at_most_20 = at_most_20 }
