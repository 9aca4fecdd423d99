-- A fold and a search over a range of numbers.
use Rattle.std.proofs.Common.{◌≡◌, ℕ, ◌+◌, ◌<◌, ◌≤◌, Bool, true, false, List, [], ◌∷◌, ◌++◌, length, get_or, Option, Some, None, MatchOption, unwrap_or, refl, sym, ◌∙◌, arith}
use native.Mathlib.Decide.{dec_lt}
use Rattle.std.proofs.lemmas.Fn.{fold_over}
use Rattle.std.proofs.lemmas.Iterator.{YieldsList-from_range}
use Rattle.std.proofs.Math.ListN.{get_or-append}
use Rattle.std.proofs.Math.Seq.{get_or-append_seam}
use Rattle.std.proofs.lemmas.List.{length-append}
use Rattle.std.proofs.lemmas.List.FromFn.{length-range_with_len, get_or-range_with_len}
use Rattle.std.proofs.iter.Yields.{nat_range_steps}
use Rattle.std.specs.Fn.{Called}
use Rattle.std.specs.Iterator.{Drains}
use Rattle.std.specs.List.{range_with_len, FoldsTo}
use denote.Param.Members.{Mut}
use Rattle.memory.specs.Search.{first}
use Rattle.memory.specs.Laws.{NoneBelow}
use Rattle.memory.proofs.Laws.{first_laws}

-- what holds before the first number below a bound, and after each that it held before, holds after a fold over all of them
pub fold_counted : {F : Type 0} (g : Mut F (ℕ × (ℕ × Unit {0})) ℕ) (Holds : ℕ → ℕ → Type 0) (f : F) (n : ℕ)
    → ((i a b : ℕ) (f' : F) → i < n → Holds i a → Called g f (a, (i, tt)) b f' → Holds (i + 1) b)
    → ((i a b : ℕ) (f' : F) → Called g f (a, (i, tt)) b f' → f' ≡ f)
    → (a r : ℕ) → Holds 0 a
    → (xs : List ℕ) × (f' : F) × Drains nat_range_steps (record { start = 0; end = n }) xs
    × FoldsTo {P = F × ℕ} (λ p x q. Called g p.0 (p.1, (x, tt)) q.1 q.0) (f, a) xs (f', r)
    → Holds n r
fold_counted {F} g Holds f n step same a r start ran =
    let size = length-range_with_len 0 n in
    let counted = fold_over nat_range_steps (λ x. x) g SoFar f more _ (range_with_len 0 n) a r (YieldsList-from_range 0 n n refl (omega arith)).runs (λ l e. start) ran in
    rw size at (counted (omega arith) (λ i l. omega (arith, get_or-range_with_len 0 n i 0 (omega arith))))
  where
    -- the items so far are the numbers from 0 on
    SoFar : List ℕ → ℕ → Type 0
    SoFar ys c = length ys ≤ n → ((i : ℕ) → i < length ys → get_or ys i 0 ≡ i) → Holds (length ys) c

    more : (ys : List ℕ) (a x b : ℕ) (f' : F) → SoFar ys a → Called g f (a, (x, tt)) b f' → SoFar (ys ++ (x ∷ [])) b × (f' ≡ f)
    more ys a x b f' h c = (
      λ l e.
          let size : length (ys ++ x ∷ []) ≡ length ys + 1 = length-append ys (x ∷ []) in
          let is : x ≡ length ys = sym (get_or-append_seam ys x [] 0) ∙ e (length ys) (omega arith) in
          let before : Holds (length ys) a = h (omega arith) (λ i k. sym (get_or-append ys (x ∷ []) 0 i k) ∙ e i (omega arith)) in
          rw size (step (length ys) a b f' (omega arith) before (rw is at c)),
      same x a b f' c,
    )

-- what `find` gives over a range, or else the range's end, is the first that passes, where none below the range does
pub first_found : (p : ℕ → Bool) (s e : ℕ) (r : Option ℕ) → s ≤ e → NoneBelow p s
    → MatchOption r ((k : ℕ) → s ≤ k → k < e → p k ≡ false)
    (λ i. (s ≤ i) × (i < e) × (p i ≡ true) × ((k : ℕ) → s ≤ k → k < i → p k ≡ false))
    → unwrap_or r e ≡ first p e
first_found p s e None l below none =
    (first_laws p e).stops e (omega arith) (λ k h. elim (dec_lt k s) [ yes b ↦ below k b | no b ↦ none k (omega arith) h ]) (λ h. absurd (omega arith))
first_found p s e (Some i) l below found =
    (first_laws p e).stops i (omega (arith, found.1)) (λ k h. elim (dec_lt k s) [ yes b ↦ below k b | no b ↦ found.3 k (omega arith) h ]) (λ h. found.2)
