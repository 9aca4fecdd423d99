-- What the code of a frame's path computes, in the code's own terms.
use mathlib.Core.Path.{◌≡◌, sym, ◌∙◌, ap}
use Prim.Native.Nat.{ℕ, ◌+◌, ◌-◌, ◌*◌, ◌/◌, ◌%◌, ◌^◌, ◌≤◌, ◌<◌}
use native.Mathlib.Omega.{arith}
use lib.Pow
use lib.Pow.{shl_exact}
use borrow.Author.Tests.{lt-ltb, le-ltb}
use Rattle.tree.specs.Path.{child, bits_to}
use Rattle.tree.proofs.Ways.{child_base}

-- a power of two in a word
shifted : (k : ℕ) → k < 64 → 1 * 2 ^ k % 2 ^ 64 ≡ 2 ^ k
shifted k h = shl_exact 1 k 64 (omega arith) (omega arith) ∙ omega arith

pub child_low : (k f : ℕ) → k ≤ 2 → f / (1 * 2 ^ k % 2 ^ 64) % 2 ≡ child k f
child_low k f h =
    let b : k ≡ bits_to k = omega arith in
    rw (shifted k (omega arith)) (ap (λ i. f / 2 ^ i % 2) b ∙ sym (child_base k f ∙ rw (lt-ltb k 3 (omega arith))))

pub child_high : (k f : ℕ) → 2 < k → k ≤ 31 → f % (1 * 2 ^ (2 * k - 3 + 2) % 2 ^ 64) / (1 * 2 ^ (2 * k - 3) % 2 ^ 64) ≡ child k f
child_high k f h l =
    let b : 2 * k - 3 ≡ bits_to k = omega arith in
    let e : 2 * k - 3 + 2 ≡ 2 + (2 * k - 3) = omega arith in
    rw (shifted (2 * k - 3 + 2) (omega arith), shifted (2 * k - 3) (omega arith), e)
    (Pow.field f 2 (2 * k - 3) ∙ ap (λ i. f / 2 ^ i % 4) b ∙ sym (child_base k f ∙ rw (le-ltb k 3 h)))
