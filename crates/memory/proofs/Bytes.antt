-- A word's bytes one by one: under sums and masks, and as bits. From these, which bytes of a word are b.
use mathlib.Core.Path.{◌≡◌, refl, sym, ◌∙◌, ap}
use mathlib.Core.Bool.{Bool, true, false, cond, not, ◌&&◌, ◌||◌}
use Prim.Native.Nat.{ℕ, zero, suc, ◌+◌, ◌*◌, ◌/◌, ◌%◌, ◌^◌, ◌<◌}
use native.Mathlib.Nat.{mul-add, mul_assoc, mul-one, div-one}
use native.Mathlib.Omega.{arith}
use native.Mathlib.Decide.{ℕ_discrete}
use native.Mathlib.Numerals.{one-add}
use lib.Bits.{bit_and, bit_or, bit_xor, and_shr, and_mod, or_shr, or_mod, xor_shr, xor_mod, xor_add_and, xor_self, and_le_l, and_le_r}
use lib.Dec.{eqb}
use lib.Pow.{shr-shr, mod-mod-pow}
use borrow.Author.Tests.{eq-eqb, ne_eqb, eqb-true, not-false}
use Rattle.memory.specs.Words.{field, bit, is_set, byte, EqualBytes}
use Rattle.memory.specs.Search.{first}
use Rattle.memory.proofs.Fields.{field_below, test_bit, bit_lt, no_bit, byte_laws}
use Rattle.memory.proofs.First.{first_laws}

-- ---- bytes, lowest first

byte_zero : (w : ℕ) → byte w 0 ≡ w % 256
unfolding byte field
byte_zero w = ap (λ (x : ℕ). x % 256) (div-one w)

byte_suc : (w j : ℕ) → byte w (suc j) ≡ byte (w / 256) j
unfolding byte field
byte_suc w j =
    let e : 8 * suc j ≡ 8 + 8 * j = omega arith in
    ap (λ (x : ℕ). x % 256) (ap (λ (k : ℕ). w / 2 ^ k) e ∙ sym (shr-shr w 8 (8 * j)))

-- no byte carries: the bytes of a sum are the sums of the bytes
sum_byte : (n u v j : ℕ) → ((i : ℕ) → i < n → byte u i + byte v i < 256) → j < n → byte (u + v) j ≡ byte u j + byte v j
sum_byte zero u v j h l = absurd (omega arith)
sum_byte (suc n) u v zero h l =
    let z : u % 256 + v % 256 < 256 = rw (← byte_zero u, ← byte_zero v) (h 0 (omega arith)) in
    rw (byte_zero (u + v), byte_zero u, byte_zero v) (omega arith)
sum_byte (suc n) u v (suc j) h l =
    let z : u % 256 + v % 256 < 256 = rw (← byte_zero u, ← byte_zero v) (h 0 (omega arith)) in
    let e : (u + v) / 256 ≡ u / 256 + v / 256 = omega arith in
    rw (byte_suc (u + v) j, byte_suc u j, byte_suc v j, e)
    (sum_byte n (u / 256) (v / 256) j (λ i k. rw (← byte_suc u i, ← byte_suc v i) (h (suc i) (omega arith))) (omega arith))

-- a mask works on each field by itself, so on each byte
module _ (op : ℕ → ℕ → ℕ) (shifted : (a b k : ℕ) → op a b / 2 ^ k ≡ op (a / 2 ^ k) (b / 2 ^ k))
    (masked : (a b k : ℕ) → op a b % 2 ^ k ≡ op (a % 2 ^ k) (b % 2 ^ k)) where
  in_field : (a b at u : ℕ) → field (op a b) at u ≡ op (field a at u) (field b at u)
  unfolding field
  in_field a b at u = ap (λ (x : ℕ). x % 2 ^ u) (shifted a b at) ∙ masked (a / 2 ^ at) (b / 2 ^ at) u

  in_bytes : (a b j : ℕ) → byte (op a b) j ≡ op (byte a j) (byte b j)
  unfolding byte
  in_bytes a b j = in_field a b (8 * j) 8

and_byte : (a b j : ℕ) → byte (bit_and a b) j ≡ bit_and (byte a j) (byte b j)
and_byte = in_bytes bit_and and_shr and_mod

or_byte : (a b j : ℕ) → byte (bit_or a b) j ≡ bit_or (byte a j) (byte b j)
or_byte = in_bytes bit_or or_shr or_mod

xor_byte : (a b j : ℕ) → byte (bit_xor a b) j ≡ bit_xor (byte a j) (byte b j)
xor_byte = in_bytes bit_xor xor_shr xor_mod

-- a number with 1 in each of its n bytes, and its product with b, which has b in each
ones : ℕ → ℕ
ones zero = 0
ones (suc n) = ones n * 256 + 1

repeated_suc : (n b : ℕ) → b * ones (suc n) ≡ b * ones n * 256 + b
unfolding ones
repeated_suc n b = simp (mul-add, mul_assoc, mul-one)

repeated : (n b j : ℕ) → b < 256 → j < n → byte (b * ones n) j ≡ b
repeated zero b j h l = absurd (omega arith)
repeated (suc n) b zero h l = byte_zero (b * ones (suc n)) ∙ omega (arith, repeated_suc n b)
repeated (suc n) b (suc j) h l =
    let q : b * ones (suc n) / 256 ≡ b * ones n = omega (arith, repeated_suc n b) in
    byte_suc (b * ones (suc n)) j ∙ ap (λ (x : ℕ). byte x j) q ∙ repeated n b j h (omega arith)

-- ---- which bytes are b

-- what becomes of a byte: the sum reaches its highest bit unless its low bits are 0; computed for all 256
tested : ℕ → ℕ
tested y = bit_xor (bit_and (bit_or (bit_and y 127 + 127) y) 128) 128

tells : ℕ → Bool
tells y = eqb (tested y) (cond (eqb y 0) 128 0)

all_told : first (λ (y : ℕ). not (tells y)) 256 ≡ 256
unfolding first tells tested
all_told = refl

tested_byte : (y : ℕ) → y < 256 → tested y ≡ cond (eqb y 0) 128 0
unfolding tells
tested_byte y h =
    eqb-true (tested y) (cond (eqb y 0) 128 0)
    (not-false (tells y) ((first_laws (λ (y : ℕ). not (tells y)) 256).none_before y (omega (arith, all_told))))

-- a difference is 0 where there is none
xor_test : (x b : ℕ) → eqb (bit_xor x b) 0 ≡ eqb x b
xor_test x b = elim (ℕ_discrete x b) [
  | yes q ↦ eq-eqb (bit_xor x b) 0 (rw q (xor_self b)) ∙ sym (eq-eqb x b q)
  | no n ↦ ne_eqb (bit_xor x b) 0 (λ z. n (omega (arith, xor_add_and x b, and_le_l x b, and_le_r x b))) ∙ sym (ne_eqb x b n)
]

-- the code's words: 127 and 128 in each byte
abbrev low : ℕ
low = 0x7f7f7f7f7f7f7f7f

abbrev high : ℕ
high = 0x8080808080808080

low_byte : (j : ℕ) → j < 8 → byte low j ≡ 127
unfolding ones
low_byte j l = repeated 8 127 j (omega arith) l

high_byte : (j : ℕ) → j < 8 → byte high j ≡ 128
unfolding ones
high_byte j l = repeated 8 128 j (omega arith) l

-- no sum of the low seven bits carries
low_sum : (y j : ℕ) → j < 8 → byte (bit_and y low + low) j ≡ bit_and (byte y j) 127 + 127
low_sum y j l =
    sum_byte 8 (bit_and y low) low j (λ i k. rw (and_byte y low i, low_byte i k) (omega (arith, and_le_r (byte y i) 127))) l
    ∙ rw (and_byte y low j, low_byte j l) refl

-- and the word fits
pub low_sum_fits : (y : ℕ) → bit_and y low + low < 2 ^ 64
low_sum_fits y = omega (arith, and_le_r y low)

tested_bytes : (y j : ℕ) → j < 8 → byte (bit_xor (bit_and (bit_or (bit_and y low + low) y) high) high) j ≡ tested (byte y j)
unfolding tested
tested_bytes y j l = rw (xor_byte _ high j, and_byte _ high j, or_byte _ y j, high_byte j l, low_sum y j l) refl

pub equal_bytes : (w b : ℕ) → b < 256
    → let y : ℕ = bit_xor w (b * 0x0101010101010101) in EqualBytes w b (bit_xor (bit_and (bit_or (bit_and y low + low) y) high) high)
unfolding ones
equal_bytes w b h = record {
  each = λ j l.
      let y : ℕ = bit_xor w (b * ones 8) in
      let e : byte y j ≡ bit_xor (byte w j) b = xor_byte w (b * ones 8) j ∙ ap (bit_xor (byte w j)) (repeated 8 b j h l) in
      tested_bytes y j l ∙ tested_byte (byte y j) (byte_laws.byte_fits y j) ∙ rw (e, xor_test (byte w j) b) refl;
}

-- ---- as bits

-- a word from its bit s on
pub set_ahead : (w s k : ℕ) → is_set (w / 2 ^ s) k ≡ is_set w (s + k)
unfolding is_set bit field
set_ahead w s k = ap (λ (x : ℕ). eqb (x % 2) 1) (shr-shr w s k)

pub half_bits : (w k : ℕ) → is_set (w / 2) k ≡ is_set w (suc k)
half_bits w k = set_ahead w 1 k ∙ ap (is_set w) (one-add k)

-- a bit is one of its byte's
in_byte : (w k : ℕ) → is_set w k ≡ is_set (byte w (k / 8)) (k % 8)
unfolding bit byte field
in_byte w k =
    let e : 8 * (k / 8) + k % 8 ≡ k = omega arith in
    let x : ℕ = w / 2 ^ (8 * (k / 8)) in
    ap (is_set w) (sym e) ∙ sym (set_ahead w (8 * (k / 8)) (k % 8))
    ∙ test_bit x (k % 8) (byte w (k / 8)) (k % 8) (field_below x (x % 256) 8 (k % 8) 1 (omega arith) (sym (mod-mod-pow x 0 8)))

-- 128 has its highest bit alone
top_alone : first (is_set 128) 8 ≡ 7
unfolding first is_set bit field
top_alone = refl

top_bit : (t : Bool) → is_set (cond t 128 0) 7 ≡ t
unfolding is_set bit field
top_bit true = refl
top_bit false = refl

below_top : (t : Bool) (d : ℕ) → d < 7 → is_set (cond t 128 0) d ≡ false
below_top true d l = (first_laws (is_set 128) 8).none_before d (omega (arith, top_alone))
below_top false d l = no_bit d

pub equal_bit : {w b r : ℕ} → EqualBytes w b r → (k : ℕ) → k < 64 → k % 8 ≡ 7 → is_set r k ≡ eqb (byte w (k / 8)) b
equal_bit {w} {b} {r} e k l h = in_byte r k ∙ rw (e.each (k / 8) (omega arith), h) (top_bit (eqb (byte w (k / 8)) b))

pub equal_beside : {w b r : ℕ} → EqualBytes w b r → (k : ℕ) → k < 64 → k % 8 < 7 → is_set r k ≡ false
equal_beside {w} {b} {r} e k l h = in_byte r k ∙ rw (e.each (k / 8) (omega arith)) (below_top (eqb (byte w (k / 8)) b) (k % 8) h)

-- ---- two words' bits together

or_digits : (x y : ℕ) → x < 2 → y < 2 → eqb (bit_or x y) 1 ≡ eqb x 1 || eqb y 1
or_digits zero y h k = refl
or_digits (suc zero) zero h k = refl
or_digits (suc zero) (suc zero) h k = refl
or_digits (suc zero) (suc (suc y)) h k = absurd (omega arith)
or_digits (suc (suc x)) y h k = absurd (omega arith)

pub or_bits : (a b k : ℕ) → is_set (bit_or a b) k ≡ is_set a k || is_set b k
unfolding is_set bit
or_bits a b k = ap (λ (x : ℕ). eqb x 1) (in_field bit_or or_shr or_mod a b k 1) ∙ or_digits (field a k 1) (field b k 1) (bit_lt a k) (bit_lt b k)

and_digits : (x y : ℕ) → x < 2 → y < 2 → eqb (bit_and x y) 1 ≡ eqb x 1 && eqb y 1
and_digits zero y h k = refl
and_digits (suc zero) zero h k = refl
and_digits (suc zero) (suc zero) h k = refl
and_digits (suc zero) (suc (suc y)) h k = absurd (omega arith)
and_digits (suc (suc x)) y h k = absurd (omega arith)

pub and_bits : (a b k : ℕ) → is_set (bit_and a b) k ≡ is_set a k && is_set b k
unfolding is_set bit
and_bits a b k = ap (λ (x : ℕ). eqb x 1) (in_field bit_and and_shr and_mod a b k 1) ∙ and_digits (field a k 1) (field b k 1) (bit_lt a k) (bit_lt b k)
