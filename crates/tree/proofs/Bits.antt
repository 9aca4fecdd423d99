-- The bits of a word that shifts leave.
use mathlib.Core.Path.{◌≡◌, refl, ◌∙◌, ap}
use mathlib.Core.Bool.{false}
use Prim.Native.Nat.{ℕ, suc, ◌+◌, ◌-◌, ◌*◌, ◌/◌, ◌%◌, ◌^◌, ◌≤◌, ◌<◌}
use native.Mathlib.Omega.{arith}
use native.Mathlib.Nat.{mul_assoc, mod-eq_of_lt, div-mul-le_self}
use lib.Pow.{shl-shr, pow-add}
use borrow.Author.Tests.{ne_eqb}
use Rattle.memory.specs.Words.{field, bit, is_set}
use Rattle.memory.proofs.Laws.{set_ahead}

-- a word without its bits below k, as shifts make it
abbrev pub high_of : (w k : ℕ) → ℕ
high_of w k = w / 2 ^ k * 2 ^ k % 2 ^ 64

module _ (w k : ℕ) (fits : w < 2 ^ 64) where
  shifted : high_of w k ≡ w / 2 ^ k * 2 ^ k
  shifted = mod-eq_of_lt (omega (arith, div-mul-le_self w (2 ^ k)))

  pub high_kept : (j : ℕ) → k ≤ j → is_set (high_of w k) j ≡ is_set w j
  high_kept j l =
      let q : k + (j - k) ≡ j = omega arith in
      rw (shifted, ← q, ← set_ahead (w / 2 ^ k * 2 ^ k) k (j - k), shl-shr (w / 2 ^ k) k) (set_ahead w k (j - k))

  pub low_cleared : (j : ℕ) → j < k → is_set (high_of w k) j ≡ false
  unfolding is_set bit field
  low_cleared j l =
      let a = w / 2 ^ k in
      let q : k ≡ k - suc j + 1 + j = omega arith in
      let p : 2 ^ k ≡ 2 ^ (k - suc j) * 2 * 2 ^ j = ap (λ (i : ℕ). 2 ^ i) q ∙ simp pow-add in
      let e : a * 2 ^ k / 2 ^ j ≡ a * 2 ^ (k - suc j) * 2 = ap (λ (x : ℕ). a * x / 2 ^ j) p ∙ rw (← mul_assoc, ← mul_assoc, shl-shr) refl in
      rw shifted (ne_eqb (a * 2 ^ k / 2 ^ j % 2) 1 (λ z. omega arith))
