-- Laws of a word's fields, and of bits and bytes, which are fields of 1 and of 8.
use mathlib.Core.Path.{◌≡◌, sym, ◌∙◌, ap, subst}
use mathlib.Core.Bool.{true, false}
use mathlib.Core.Logic.{◌⊎◌, inl, inr, ◌≢◌}
use Prim.Native.Nat.{ℕ, zero, suc, ◌+◌, ◌-◌, ◌*◌, ◌/◌, ◌%◌, ◌^◌, ◌≤◌, ◌<◌}
use native.Mathlib.Omega.{arith}
use native.Mathlib.Decide.{dec_lt}
use native.Mathlib.Nat.{mod-lt, zero-mul, add-mul, div-one, pow-suc, div-eq_of_lt, lt_of_lt_of_le}
use native.Mathlib.Numerals.{one-add}
use lib.Dec.{eqb}
use lib.Pow as Pow
use lib.Pow.{shr-shr, shr_lt, split, high, low, mod-mod-pow, pow_pos, pow-add, pow_mono}
use lib.Arith.{digits_lt}
use borrow.Author.Tests.{eq-eqb, ne_eqb, eqb-true, eqb-false}
use Rattle.memory.specs.Words.{field, with_field, bit, is_set, with_bit, without_bit, byte, with_byte}
use Rattle.memory.specs.Laws.{BitLaws, ByteLaws}

-- ---- fields

rest_lt : (w at : ℕ) → w % 2 ^ at < 2 ^ at
rest_lt w at = mod-lt w (pow_pos at)

-- a changed word by its digits: what lies above the field, the field, and what lies below it
pub with_digits : (w at u b : ℕ) → with_field w at u b ≡ (w / 2 ^ at / 2 ^ u * 2 ^ u + b) * 2 ^ at + w % 2 ^ at
unfolding with_field field
with_digits w at u b =
    let whole = split w at in
    let parts : w / 2 ^ at / 2 ^ u * 2 ^ u * 2 ^ at + w / 2 ^ at % 2 ^ u * 2 ^ at ≡ w / 2 ^ at * 2 ^ at =
    sym (add-mul _ _ (2 ^ at)) ∙ ap (λ (x : ℕ). x * 2 ^ at) (split (w / 2 ^ at) u) in
    simp add-mul (omega arith)

with_shr : (w at u b : ℕ) → with_field w at u b / 2 ^ at ≡ w / 2 ^ at / 2 ^ u * 2 ^ u + b
with_shr w at u b = rw (with_digits w at u b) (high (w / 2 ^ at / 2 ^ u * 2 ^ u + b) at (rest_lt w at))

with_low : (w at u b : ℕ) → with_field w at u b % 2 ^ at ≡ w % 2 ^ at
with_low w at u b = rw (with_digits w at u b) (low (w / 2 ^ at / 2 ^ u * 2 ^ u + b) at (rest_lt w at))

-- the field that was changed
pub field_same : (w at u b : ℕ) → b < 2 ^ u → field (with_field w at u b) at u ≡ b
unfolding field
field_same w at u b h = rw (with_shr w at u b) (low (w / 2 ^ at / 2 ^ u) u h)

-- a field below it
pub field_below : (w v at at' u' : ℕ) → at' + u' ≤ at → w % 2 ^ at ≡ v % 2 ^ at → field w at' u' ≡ field v at' u'
unfolding field
field_below w v at at' u' h e = one w ∙ rw e (sym (one v))
  where
    one : (x : ℕ) → x / 2 ^ at' % 2 ^ u' ≡ x % 2 ^ at % 2 ^ (u' + at') / 2 ^ at'
    one x =
        let q : at - (u' + at') + (u' + at') ≡ at = omega arith in
        let r : x % 2 ^ at % 2 ^ (u' + at') ≡ x % 2 ^ (u' + at') = rw q at (mod-mod-pow x (at - (u' + at')) (u' + at')) in
        sym (Pow.field x u' at') ∙ ap (λ (y : ℕ). y / 2 ^ at') (sym r)

-- a field above it
field_above : (w v at u at' u' : ℕ) → at + u ≤ at' → w / 2 ^ at / 2 ^ u ≡ v / 2 ^ at / 2 ^ u → field w at' u' ≡ field v at' u'
unfolding field
field_above w v at u at' u' h e = ap (λ (x : ℕ). x % 2 ^ u') (one w ∙ rw e (sym (one v)))
  where
    one : (x : ℕ) → x / 2 ^ at' ≡ x / 2 ^ at / 2 ^ u / 2 ^ (at' - (at + u))
    one x =
        let q : at + u + (at' - (at + u)) ≡ at' = omega arith in
        rw (shr-shr x at u, shr-shr x (at + u) (at' - (at + u)), q)

-- a field beside the one that was changed
pub field_other : (w at u b at' u' : ℕ) → b < 2 ^ u → (at' + u' ≤ at) ⊎ (at + u ≤ at') → field (with_field w at u b) at' u' ≡ field w at' u'
field_other w at u b at' u' h (inl l) = field_below (with_field w at u b) w at at' u' l (with_low w at u b)
field_other w at u b at' u' h (inr l) =
    field_above (with_field w at u b) w at u at' u' l (rw (with_shr w at u b) (high (w / 2 ^ at / 2 ^ u) u h))

-- a changed word is no wider
pub with_lt : (w at u b n : ℕ) → b < 2 ^ u → at + u ≤ n → w < 2 ^ n → with_field w at u b < 2 ^ n
with_lt w at u b n h l k =
    let q : n ≡ n - (at + u) + u + at = omega arith in
    let a : w / 2 ^ at < 2 ^ (n - (at + u) + u) = shr_lt (n - (at + u) + u) at (subst (λ (x : ℕ). w < 2 ^ x) q k) in
    let c : w / 2 ^ at / 2 ^ u < 2 ^ (n - (at + u)) = shr_lt (n - (at + u)) u a in
    let e : 2 ^ n ≡ 2 ^ (n - (at + u)) * 2 ^ u * 2 ^ at = ap (λ (x : ℕ). 2 ^ x) q ∙ simp pow-add in
    rw (with_digits w at u b, e) (digits_lt (digits_lt c h) (rest_lt w at))

-- nor is a word with a field cleared, wherever the field is
without_lt : (w at u n : ℕ) → w < 2 ^ n → with_field w at u 0 < 2 ^ n
unfolding with_field
without_lt w at u n k = omega (arith, zero-mul (2 ^ at))

-- two numbers that differ
beside : (j k : ℕ) → j ≢ k → (j < k) ⊎ (k < j)
beside j k h = elim (dec_lt j k) [ yes l ↦ inl l | no l ↦ inr (omega arith) ]

-- ---- bits

-- a bit is 0 or 1, so its test says what it is
pub test_bit : (w k v j : ℕ) → bit w k ≡ bit v j → is_set w k ≡ is_set v j
unfolding is_set
test_bit w k v j e = ap (λ (x : ℕ). eqb x 1) e

bit_test : (w k v j : ℕ) → is_set w k ≡ is_set v j → bit w k ≡ bit v j
unfolding is_set bit field
bit_test w k v j e = elim (dec_lt (w / 2 ^ k % 2) 1) [
  | yes l ↦ omega (arith, eqb-false (v / 2 ^ j % 2) 1 (sym e ∙ ne_eqb (w / 2 ^ k % 2) 1 (λ q. omega arith)))
  | no l ↦ omega (arith, eqb-true (v / 2 ^ j % 2) 1 (sym e ∙ eq-eqb (w / 2 ^ k % 2) 1 (omega arith)))
]

changed_bit : (w k b j : ℕ) → b < 2 → j ≢ k → is_set (with_field w k 1 b) j ≡ is_set w j
unfolding bit
changed_bit w k b j h n =
    test_bit (with_field w k 1 b) j w j
    (field_other w k 1 b j 1 h (elim (beside j k n) [ inl l ↦ inl (omega arith) | inr l ↦ inr (omega arith) ]))

pub bit_lt : (w k : ℕ) → bit w k < 2
unfolding bit field
bit_lt w k = omega arith

pub bit_zero : (w : ℕ) → bit w 0 ≡ w % 2
unfolding bit field
bit_zero w = ap (λ (x : ℕ). x % 2) (div-one w)

pub bit_suc : (w k : ℕ) → bit w (suc k) ≡ bit (w / 2) k
unfolding bit field
bit_suc w k = ap (λ (x : ℕ). x % 2) (ap (λ (j : ℕ). w / 2 ^ j) (sym (one-add k)) ∙ sym (shr-shr w 1 k))

same_word : (w v n : ℕ) → w < 2 ^ n → v < 2 ^ n → ((k : ℕ) → k < n → is_set w k ≡ is_set v k) → w ≡ v
same_word w v zero hw hv e = omega arith
same_word w v (suc n) hw hv e =
    let p = pow-suc 2 n in
    let low : w % 2 ≡ v % 2 = sym (bit_zero w) ∙ bit_test w 0 v 0 (e 0 (omega arith)) ∙ bit_zero v in
    let half : w / 2 ≡ v / 2 =
    same_word (w / 2) (v / 2) n (omega arith) (omega arith)
    (λ k l. test_bit (w / 2) k (v / 2) k (sym (bit_suc w k) ∙ bit_test w (suc k) v (suc k) (e (suc k) (omega arith)) ∙ bit_suc v k)) in
    omega arith

-- the test by the field's value
one_set : (w k : ℕ) → field w k 1 ≡ 1 → is_set w k ≡ true
unfolding is_set bit
one_set w k e = eq-eqb (field w k 1) 1 e

zero_clear : (w k : ℕ) → field w k 1 ≡ 0 → is_set w k ≡ false
unfolding is_set bit
zero_clear w k e = ne_eqb (field w k 1) 1 (λ q. omega arith)

-- above a word's width its bits are 0
above_zero : (w n k : ℕ) → w < 2 ^ n → n ≤ k → field w k 1 ≡ 0
unfolding field
above_zero w n k h l =
    let q : w / 2 ^ k ≡ 0 = div-eq_of_lt (lt_of_lt_of_le h (pow_mono l)) in
    rw q

pub bit_laws : BitLaws
unfolding with_bit without_bit
bit_laws = record {
  with_sets = λ w k. one_set (with_field w k 1 1) k (field_same w k 1 1 (omega arith));
  without_clears = λ w k. zero_clear (with_field w k 1 0) k (field_same w k 1 0 (omega arith));
  with_keeps = λ w k j n. changed_bit w k 1 j (omega arith) n;
  without_keeps = λ w k j n. changed_bit w k 0 j (omega arith) n;
  with_fits = λ w k n l h. with_lt w k 1 1 n (omega arith) (omega arith) h;
  without_fits = λ w k n h. without_lt w k 1 n h;
  none_above = λ w n k h l. zero_clear w k (above_zero w n k h l);
  same_word = same_word;
}

-- 0 has no bit
pub no_bit : (k : ℕ) → is_set 0 k ≡ false
no_bit k = bit_laws.none_above 0 0 k (omega arith) (omega arith)

-- ---- bytes

byte_lt : (w at : ℕ) → field w at 8 < 256
unfolding field
byte_lt w at = omega arith

pub byte_laws : ByteLaws
unfolding byte with_byte
byte_laws = record {
  byte_fits = λ w j. byte_lt w (8 * j);
  with_puts = λ w j b h. field_same w (8 * j) 8 b h;
  with_keeps = λ w j b i h n.
      field_other w (8 * j) 8 b (8 * i) 8 h (elim (beside i j n) [ inl l ↦ inl (omega arith) | inr l ↦ inr (omega arith) ]);
  with_fits = λ w j b n h l k. with_lt w (8 * j) 8 b n h l k;
}
