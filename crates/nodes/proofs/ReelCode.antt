-- What the search for a reel's slot computes, in the code's own terms: eight slots at a time, in two fours.
use mathlib.Core.Path.{◌≡◌, refl, sym, ◌∙◌}
use mathlib.Core.Bool.{Bool, true, false, not, ◌&&◌, and-true, and-false}
use Prim.Native.Nat.{ℕ, ◌+◌, ◌-◌}
use native.Mathlib.Omega.{arith}
use native.Mathlib.Decide.{dec_lt}
use lib.Dec.{eqb}
use borrow.Author.Tests.{not-true}
use Rattle.memory.specs.Words.{Memory}
use Rattle.memory.specs.Laws.{NoneBelow}
use Rattle.tree.specs.Test.{is, eq, ◌and◌, holds}
use Rattle.tree.specs.Lists.{range, up_to, every}
use Rattle.tree.specs.Layout.{reel_at}
use Rattle.tree.specs.Slots.{filled}
use Rattle.tree.proofs.Cases.{and-true as both_true}
use Rattle.tree.proofs.Lists.{up_to_members, every_at}

-- none of four adjacent slots has a number, as the code compares them
pub in_four : (m : Memory) (s reel : ℕ) {a b c d : ℕ} → a ≡ m (reel_at s) → b ≡ m (reel_at (s + 1)) → c ≡ m (reel_at (s + 2)) → d ≡ m (reel_at (s + 3))
    → not (eqb a reel) && (not (eqb b reel) && (not (eqb c reel) && not (eqb d reel))) ≡ every (λ k. not (eqb (m (reel_at (s + k))) reel)) (up_to 4)
unfolding every up_to range
in_four m s reel p q r t = let z : s + 0 ≡ s = omega arith in rw (p, q, r, t, z, and-true) refl

-- then none of them is the reel's
past_four : (m : Memory) (s reel : ℕ) → NoneBelow (λ (k : ℕ). holds (is (filled m k) and eq (m (reel_at k)) reel)) s
    → every (λ k. not (eqb (m (reel_at (s + k))) reel)) (up_to 4) ≡ true
    → NoneBelow (λ (k : ℕ). holds (is (filled m k) and eq (m (reel_at k)) reel)) (s + 4)
past_four m s reel below h k l = elim (dec_lt k s) [
  | yes b ↦ below k b
  | no b ↦
      let i : s + (k - s) ≡ k = omega arith in
      let other : eqb (m (reel_at (s + (k - s)))) reel ≡ false = not-true _ (every_at _ h ((up_to_members 4 {c = k - s}).1 (omega arith))) in
      rw (rw i at other, and-false) refl
]

-- and so of eight, tested in two fours
pub past_eight : (m : Memory) (s reel : ℕ) {a b : Bool} → NoneBelow (λ (k : ℕ). holds (is (filled m k) and eq (m (reel_at k)) reel)) s
    → a ≡ every (λ k. not (eqb (m (reel_at (s + k))) reel)) (up_to 4)
    → b ≡ every (λ k. not (eqb (m (reel_at (s + 4 + k))) reel)) (up_to 4)
    → a && b ≡ true
    → NoneBelow (λ (k : ℕ). holds (is (filled m k) and eq (m (reel_at k)) reel)) (s + 8)
past_eight m s reel {a} {b} below p q h =
    let t = both_true a b h in
    let e : s + 4 + 4 ≡ s + 8 = omega arith in
    rw e at (past_four m (s + 4) reel (past_four m s reel below (sym p ∙ t.0)) (sym q ∙ t.1))
