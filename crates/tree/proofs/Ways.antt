-- A child number is one digit of the frame, so a way fixes the frame's low bits.
use mathlib.Core.Path.{◌≡◌, refl, sym, ◌∙◌, ap, ap₂}
use mathlib.Core.Bool.{cond}
use mathlib.Core.Logic.{inl, inr, ◌↔◌}
use mathlib.Core.List.{◌∷◌}
use Prim.Native.Nat.{ℕ, zero, suc, ◌+◌, ◌-◌, ◌*◌, ◌/◌, ◌%◌, ◌^◌, ◌<◌}
use native.Mathlib.Omega.{arith}
use lib.ListN.{length}
use lib.Dec.{ltb}
use lib.Pow
use lib.Pow.{pow-add, mod-pow-add, mod-mod-pow, shr-shr}
use borrow.Author.Tests.{ltb-true, ltb-false, lt-ltb}
use Rattle.memory.specs.Words.{bit, field}
use Rattle.tree.specs.Path.{fanout, child, way_of, bits_to}
use Rattle.tree.proofs.Cases.{test}

-- the bits that a level reads
width : ℕ → ℕ
width k = cond (ltb k 3) 1 2

bits_to_suc : (k : ℕ) → bits_to (suc k) ≡ width k + bits_to k
unfolding width
bits_to_suc k = elim (test (ltb k 3)) [ inl e ↦ rw e (omega (arith, ltb-true k 3 e)) | inr e ↦ rw e (omega (arith, ltb-false k 3 e)) ]

child_digit : (k f : ℕ) → child k f ≡ f / 2 ^ bits_to k % 2 ^ width k
unfolding child bit field width
child_digit k f = elim (test (ltb k 3)) [
  | inl e ↦ let a : k + (k - 3) ≡ k = omega (arith, ltb-true k 3 e) in rw (e, a)
  | inr e ↦
      let h = ltb-false k 3 e in
      let a : 2 * k - 3 ≡ k + (k - 3) = omega arith in
      let b : 2 * k - 2 ≡ k + (k - 3) + 1 = omega arith in
      rw (e, a, b, ← shr-shr f (k + (k - 3)) 1) (omega arith)
]

base_pow : (k : ℕ) → 2 ^ width k ≡ cond (ltb k 3) 2 4
unfolding width
base_pow k = elim (test (ltb k 3)) [ inl e ↦ rw e | inr e ↦ rw e ]

pub child_base : (k f : ℕ) → child k f ≡ f / 2 ^ bits_to k % cond (ltb k 3) 2 4
child_base k f = child_digit k f ∙ ap (λ b. f / 2 ^ bits_to k % b) (base_pow k)

fanout_pow : (k : ℕ) → k < 31 → 2 ^ width k ≡ fanout k
unfolding fanout width
fanout_pow k h = elim (test (ltb k 3)) [ inl e ↦ rw e | inr e ↦ rw (e, lt-ltb k 31 h) ]

-- the numbers that the bits to the next level can be
pub bits_next : (k : ℕ) → k < 31 → 2 ^ bits_to (suc k) ≡ fanout k * 2 ^ bits_to k
bits_next k h = rw (bits_to_suc k, pow-add 2 (width k) (bits_to k), fanout_pow k h)

pub child_remainder : (k f : ℕ) → k < 31 → child k f ≡ f / 2 ^ bits_to k % fanout k
child_remainder k f h = child_digit k f ∙ ap (λ b. f / 2 ^ bits_to k % b) (fanout_pow k h)

pub child_lt : (k f : ℕ) → k < 31 → child k f < fanout k
unfolding child fanout bit field
child_lt k f h = elim (test (ltb k 3)) [ inl e ↦ rw e (omega arith) | inr e ↦ rw (e, lt-ltb k 31 h) (omega arith) ]

pub fanout_depth : (k c : ℕ) → c < fanout k → k < 31
unfolding fanout
fanout_depth k c h = elim (test (ltb k 3)) [
  | inl e ↦ omega (arith, ltb-true k 3 e)
  | inr e ↦ elim (test (ltb k 31)) [ inl e' ↦ ltb-true k 31 e' | inr e' ↦ let z : c < 0 = rw (e, e') at h in absurd (omega arith) ]
]

pub length_way : (k f : ℕ) → length (way_of k f) ≡ k
unfolding way_of
length_way zero f = refl
length_way (suc k) f = ap suc (length_way k f)

way_low : (k f f' : ℕ) → way_of k f ≡ way_of k f' → f % 2 ^ bits_to k ≡ f' % 2 ^ bits_to k
unfolding way_of
way_low zero f f' h = omega arith
way_low (suc k) f f' h =
    let h' : child k f ∷ way_of k f ≡ child k f' ∷ way_of k f' = h in
    let a : child k f ≡ child k f' = cc in
    let b = way_low k f f' cc in
    let c = sym (child_digit k f) ∙ a ∙ child_digit k f' in
    rw (bits_to_suc k, mod-pow-add f (width k) (bits_to k), mod-pow-add f' (width k) (bits_to k), b, c)

low_way : (k f f' : ℕ) → f % 2 ^ bits_to k ≡ f' % 2 ^ bits_to k → way_of k f ≡ way_of k f'
unfolding way_of
low_way zero f f' h = refl
low_way (suc k) f f' h =
    let h' : f % 2 ^ (width k + bits_to k) ≡ f' % 2 ^ (width k + bits_to k) = rw (bits_to_suc k) at h in
    let a = sym (mod-mod-pow f (width k) (bits_to k)) ∙ ap (λ x. x % 2 ^ bits_to k) h' ∙ mod-mod-pow f' (width k) (bits_to k) in
    let b = sym (Pow.field f (width k) (bits_to k)) ∙ ap (λ x. x / 2 ^ bits_to k) h' ∙ Pow.field f' (width k) (bits_to k) in
    ap₂ ◌∷◌ (child_digit k f ∙ b ∙ sym (child_digit k f')) (low_way k f f' a)

-- frames go one way to level k exactly if they agree in the bits that it reads
pub same_way : (k f f' : ℕ) → (way_of k f ≡ way_of k f') ↔ (f % 2 ^ bits_to k ≡ f' % 2 ^ bits_to k)
same_way k f f' = (way_low k f f', low_way k f f')
