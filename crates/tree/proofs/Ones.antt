-- The ones of a word, by its bits.
use mathlib.Core.Path.{◌≡◌, refl, sym, ◌∙◌, ap}
use mathlib.Core.Bool.{Bool, true, cond, not}
use mathlib.Core.Logic.{inl, inr}
use mathlib.Core.List.{List, [], ◌∷◌}
use Prim.Native.Nat.{ℕ, zero, suc, ◌+◌, ◌/◌, ◌%◌, ◌^◌, ◌<◌}
use native.Mathlib.Omega.{arith}
use native.Mathlib.Numerals.{add-one}
use native.Mathlib.Decide.{ℕ_discrete}
use native.Mathlib.Nat.{div-one}
use lib.ListN.{length}
use lib.Pow.{shr-shr, shr_lt}
use lib.Count.{ones, ones_step}
use borrow.Author.Tests.{eq-eqb, ne_eqb}
use Rattle.memory.specs.Words.{is_set, bit, field}
use Rattle.tree.specs.Lists.{range, up_to, keep}
use Rattle.tree.proofs.Cases.{test}
use Rattle.tree.proofs.Lists.{up_to_members, keep_all}
use Rattle.tree.proofs.Pigeon.{length_up_to}

no_ones : ones 0 ≡ 0
unfolding ones
no_ones = refl

-- the lowest digit of what is left, by the test of its bit
digit_kept : (w j r : ℕ) (xs : List ℕ) → r ≡ length xs → w / 2 ^ j % 2 + r ≡ length (cond (is_set w j) (j ∷ xs) xs)
unfolding is_set bit field
digit_kept w j r xs e = elim (ℕ_discrete (w / 2 ^ j % 2) 1) [
  | yes q ↦ rw (eq-eqb (w / 2 ^ j % 2) 1 q, q, e) (omega arith)
  | no q ↦ let z : w / 2 ^ j % 2 ≡ 0 = omega arith in rw (ne_eqb (w / 2 ^ j % 2) 1 q, z, e) (omega arith)
]

ones_from : (w j k : ℕ) → w / 2 ^ j < 2 ^ k → ones (w / 2 ^ j) ≡ length (keep (is_set w) (range j k))
unfolding range keep
ones_from w j zero h = let z : w / 2 ^ j ≡ 0 = omega arith in rw z no_ones
ones_from w j (suc k) h =
    let e : w / 2 ^ j / 2 ≡ w / 2 ^ suc j = shr-shr w j 1 ∙ ap (λ (i : ℕ). w / 2 ^ i) (add-one j) in
    let less : w / 2 ^ suc j < 2 ^ k = rw (← e) (half_lt k h) in
    ones_step (w / 2 ^ j) ∙ digit_kept w j _ _ (ap ones e ∙ ones_from w (suc j) k less)
  where
    half_lt : {x : ℕ} (k : ℕ) → x < 2 ^ suc k → x / 2 < 2 ^ k
    half_lt {x} k h = shr_lt k 1 (rw (add-one k) h)

-- as many as bits are set
pub ones_kept : (w k : ℕ) → w < 2 ^ k → ones w ≡ length (keep (is_set w) (up_to k))
unfolding up_to
ones_kept w k h =
    let z : w / 2 ^ 0 ≡ w = div-one w in
    ap ones (sym z) ∙ ones_from w 0 k (rw z h)

-- and the clear bits are the others
kept_or_not : (p : ℕ → Bool) (xs : List ℕ) → length (keep (λ x. not (p x)) xs) + length (keep p xs) ≡ length xs
unfolding keep
kept_or_not p [] = refl
kept_or_not p (x ∷ xs) = elim (test (p x)) [ inl e ↦ rw e (omega (arith, kept_or_not p xs)) | inr e ↦ rw e (omega (arith, kept_or_not p xs)) ]

pub ones_clear : (w k : ℕ) → w < 2 ^ k → length (keep (λ p. not (is_set w p)) (up_to k)) + ones w ≡ k
ones_clear w k h = rw (ones_kept w k h) (kept_or_not (is_set w) (up_to k) ∙ length_up_to k)

-- all of them, where every bit is set
pub ones_full : (w k : ℕ) → w < 2 ^ k → ((i : ℕ) → i < k → is_set w i ≡ true) → ones w ≡ k
ones_full w k h all = ones_kept w k h ∙ ap length (keep_all (is_set w) (up_to k) (λ i x. all i ((up_to_members k).0 x))) ∙ length_up_to k
