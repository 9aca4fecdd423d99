-- Masks and shifts as arithmetic: how the code takes, puts and clears a field.
use mathlib.Core.Path.{◌≡◌, refl, ◌∙◌}
use Prim.Native.Nat.{ℕ, zero, suc, ◌+◌, ◌-◌, ◌*◌, ◌/◌, ◌%◌, ◌^◌, ◌<◌, ◌≤◌, min}
use native.Mathlib.Nat.{pow-suc, one-mul, zero-mul, mod-lt, add-zero, lt_of_lt_of_le}
use native.Mathlib.Omega.{arith}
use lib.Bits.{bit_and, bit_or, and_step, and_high, and_mask, or_add_and, and_zero_r, and_shifted, and_block, and_le_l, or_disjoint}
use lib.Pow.{pow_pos, pow_mono, ones_lt, high_ones, shl_exact, shl_lt}
use Rattle.memory.specs.Words.{field, with_field, bit, with_bit, without_bit, byte, with_byte}
use Rattle.memory.proofs.Fields.{with_digits}

-- what a mask of u ones at bit k takes
and_field : (w u k : ℕ) → bit_and w ((2 ^ u - 1) * 2 ^ k) ≡ field w k u * 2 ^ k
unfolding field
and_field w u k = rw (← high_ones u k) (and_high w u k)

low_digit : (x y : ℕ) → x < 2 → y < 2 → min x (1 - y) + min x y ≡ x
low_digit x y hx hy = omega arith

join : (w a b p q : ℕ) → a + b ≡ w / 2 → p + q ≡ w % 2 → (a * 2 + p) + (b * 2 + q) ≡ w
join w a b p q hd hm = omega arith

-- a mask and its complement part a word
and_not : (n w m : ℕ) → w < 2 ^ n → m < 2 ^ n → bit_and w (2 ^ n - 1 - m) + bit_and w m ≡ w
and_not zero w m hw hm = let z : w ≡ zero = omega arith in rw z refl
and_not (suc n) w m hw hm =
    let p : 2 ^ suc n ≡ 2 ^ n * 2 = pow-suc 2 n in
    let e : (2 ^ suc n - 1 - m) / 2 ≡ 2 ^ n - 1 - m / 2 = omega arith in
    let o : (2 ^ suc n - 1 - m) % 2 ≡ 1 - m % 2 = omega arith in
    let ih : bit_and (w / 2) (2 ^ n - 1 - m / 2) + bit_and (w / 2) (m / 2) ≡ w / 2 =
    and_not n (w / 2) (m / 2) (omega arith) (omega arith) in
    rw (and_step w (2 ^ suc n - 1 - m), and_step w m, e, o) (join w _ _ _ _ ih (low_digit (w % 2) (m % 2) (omega arith) (omega arith)))

-- a word with the field of u bits at k cleared: `w & !(ones << k)`
cleared : (w u k : ℕ) → w < 2 ^ 64 → u + k ≤ 64 → bit_and w (2 ^ 64 - 1 - (2 ^ u - 1) * 2 ^ k % 2 ^ 64) ≡ with_field w k u 0
unfolding with_field
cleared w u k hw hk =
    let small : (2 ^ u - 1) * 2 ^ k < 2 ^ 64 = lt_of_lt_of_le (shl_lt u k (ones_lt u)) (pow_mono {i = u + k} {j = 64} hk) in
    rw (shl_exact {a = 2 ^ u - 1} u k 64 (ones_lt u) hk) (omega (arith, and_not 64 w ((2 ^ u - 1) * 2 ^ k) hw small, and_field w u k, zero-mul (2 ^ k)))

-- and with b put there: `(w & !(ones << k)) | (b << k)`
put_field : (w u k b : ℕ) → w < 2 ^ 64 → u + k ≤ 64 → b < 2 ^ u
    → bit_or (bit_and w (2 ^ 64 - 1 - (2 ^ u - 1) * 2 ^ k % 2 ^ 64)) (b * 2 ^ k % 2 ^ 64) ≡ with_field w k u b
unfolding with_field
put_field w u k b hw hk hb =
    let apart : bit_and (with_field w k u 0) (b * 2 ^ k) ≡ 0 =
    rw (with_digits w k u 0, ← add-zero (b * 2 ^ k))
    (and_block k (w / 2 ^ k / 2 ^ u * 2 ^ u + 0) b (w % 2 ^ k) 0 (mod-lt w (pow_pos k)) (pow_pos k)
    ∙ rw (add-zero, and_shifted (w / 2 ^ k / 2 ^ u) u b hb, and_zero_r, zero-mul) refl) in
    rw (cleared w u k hw hk, shl_exact {a = b} u k 64 hb hk, or_disjoint (with_field w k u 0) (b * 2 ^ k) apart) (omega (arith, zero-mul (2 ^ k)))

-- ---- the code's words

pub bit_masked : (w k : ℕ) → bit_and (w / 2 ^ k) 1 ≡ bit w k
unfolding bit field
bit_masked w k = and_mask (w / 2 ^ k) 1

pub byte_masked : (w j : ℕ) → bit_and (w / 2 ^ (8 * j)) 255 ≡ byte w j
unfolding byte field
byte_masked w j = and_mask (w / 2 ^ (8 * j)) 8

pub or_bit : (w k : ℕ) → k < 64 → bit_or w (1 * 2 ^ k % 2 ^ 64) ≡ with_bit w k
unfolding with_bit with_field
or_bit w k h =
    let one : 1 * 2 ^ k % 2 ^ 64 ≡ 2 ^ k = shl_exact 1 k 64 (omega arith) (omega arith) ∙ one-mul (2 ^ k) in
    let mask : bit_and w (2 ^ k) ≡ field w k 1 * 2 ^ k = rw one-mul at (and_field w 1 k) in
    rw one (omega (arith, or_add_and w (2 ^ k), and_le_l w (2 ^ k), one-mul (2 ^ k)))

pub and_not_bit : (w k : ℕ) → w < 2 ^ 64 → k < 64 → bit_and w (2 ^ 64 - 1 - 1 * 2 ^ k % 2 ^ 64) ≡ without_bit w k
unfolding without_bit
and_not_bit w k hw h = cleared w 1 k hw (omega arith)

pub put_byte : (w j b : ℕ) → w < 2 ^ 64 → j < 8 → b < 256
    → bit_or (bit_and w (2 ^ 64 - 1 - 255 * 2 ^ (8 * j) % 2 ^ 64)) (b * 2 ^ (8 * j) % 2 ^ 64) ≡ with_byte w j b
unfolding with_byte
put_byte w j b hw hj hb = put_field w 8 (8 * j) b hw (omega arith) hb
