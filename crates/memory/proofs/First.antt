-- Laws of the one search.
use mathlib.Core.Path.{◌≡◌, refl, ◌∙◌}
use mathlib.Core.Bool.{Bool, true, false, cond}
use Prim.Native.Nat.{ℕ, zero, suc, ◌≤◌, ◌<◌}
use native.Mathlib.Omega.{arith}
use native.Mathlib.Decide.{dec_lt}
use Rattle.memory.specs.Search.{first}
use Rattle.memory.specs.Laws.{NoneBelow, SearchLaws}
use Rattle.memory.proofs.Cases.{clash}

-- the answer i of a search below n, in one record
record Least (p : ℕ → Bool) (n i : ℕ) : Type 0 where
  within : i ≤ n
  none_before : NoneBelow p i
  holds : i < n → p i ≡ true

-- one step of the search, by its test
least_step : (t : Bool) (p : ℕ → Bool) (n i : ℕ) → p 0 ≡ t → Least (λ j. p (suc j)) n i → Least p (suc n) (cond t 0 (suc i))
least_step true p n i e r = record { within = omega arith; none_before = λ k l. absurd (omega arith); holds = λ l. e }
least_step false p n i e r = record {
  within = omega arith;
  none_before = below;
  holds = λ l. r.holds (omega arith);
}
  where
    below : NoneBelow p (suc i)
    below zero l = e
    below (suc k) l = r.none_before k (omega arith)

first_least : (p : ℕ → Bool) (n : ℕ) → Least p n (first p n)
unfolding first
first_least p zero = record { within = omega arith; none_before = λ k l. absurd (omega arith); holds = λ l. absurd (omega arith) }
first_least p (suc n) = least_step (p 0) p n (first (λ i. p (suc i)) n) refl (first_least (λ i. p (suc i)) n)

-- two answers are one
not_less : (p : ℕ → Bool) (n i j : ℕ) → Least p n i → Least p n j → i < j → ⊥
not_less p n i j a b l = clash (p i) (a.holds (omega (arith, b.within))) (b.none_before i l)

least_one : (p : ℕ → Bool) (n i j : ℕ) → Least p n i → Least p n j → i ≡ j
least_one p n i j a b = elim (dec_lt i j) [
  | yes l ↦ absurd (not_less p n i j a b l)
  | no l ↦ elim (dec_lt j i) [ yes k ↦ absurd (not_less p n j i b a k) | no k ↦ omega arith ]
]

pub first_laws : (p : ℕ → Bool) (n : ℕ) → SearchLaws p n
first_laws p n =
    let s = first_least p n in
    record {
      within = s.within;
      holds = s.holds;
      none_before = s.none_before;
      least = λ i l e. elim (dec_lt i (first p n)) [ yes k ↦ clash (p i) e (s.none_before i k) | no k ↦ omega arith ];
      equal_tests = λ q h.
          let r = first_least q n in
          least_one p n (first p n) (first q n) s
          (record {
            within = r.within;
            none_before = λ k l. h k (omega (arith, r.within)) ∙ r.none_before k l;
            holds = λ l. h (first q n) l ∙ r.holds l;
          });
      stops = λ i l none hit. least_one p n i (first p n) (record { within = l; none_before = none; holds = hit }) s;
    }
