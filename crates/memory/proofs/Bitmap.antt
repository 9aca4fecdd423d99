-- A bitmap searched a word at a time.
use mathlib.Core.Path.{◌≡◌, refl, ap, ◌∙◌}
use mathlib.Core.Bool.{Bool, true, not}
use Prim.Native.Nat.{ℕ, ◌+◌, ◌-◌, ◌/◌, ◌%◌, ◌^◌, ◌<◌, ◌≤◌}
use native.Mathlib.Omega.{arith}
use native.Mathlib.Decide.{dec_lt}
use Rattle.memory.specs.Words.{Memory, field, bit, is_set, marked}
use Rattle.memory.specs.Search.{first}
use Rattle.memory.specs.Laws.{NoneBelow}
use Rattle.memory.proofs.First.{first_laws}

abbrev pub clear_in : ℕ → ℕ → Bool
clear_in w k = not (is_set w k)

abbrev pub unmarked : Memory → ℕ → Bool
unmarked m k = not (marked m k)

-- no bit of a full word is clear
all_set : first (clear_in (2 ^ 64 - 1)) 64 ≡ 64
unfolding first is_set bit field
all_set = refl

pub full_word : (n : ℕ) → n ≤ 64 → n ≡ first (clear_in (2 ^ 64 - 1)) n
full_word n h =
    (first_laws (clear_in (2 ^ 64 - 1)) n).stops n (omega arith)
    (λ k l. (first_laws (clear_in (2 ^ 64 - 1)) 64).none_before k (rw all_set (omega arith))) (λ l. absurd (omega arith))

-- bit k of the map is a bit of the word that starts at `start`
in_word : (m : Memory) (start k : ℕ) → start % 64 ≡ 0 → start ≤ k → k < start + 64 → unmarked m k ≡ clear_in (m (start / 64)) (k - start)
unfolding marked
in_word m start k z l u =
    let q : k / 64 ≡ start / 64 = omega arith in
    let r : k % 64 ≡ k - start = omega arith in
    rw (q, r) refl

-- what the search of one word adds to what is known below it
pub record Passed (m : Memory) (start r : ℕ) : Type 0 where
  pub none_before : NoneBelow (unmarked m) (start + r)
  pub hit : r < 64 → unmarked m (start + r) ≡ true

pub pass_word : (m : Memory) (start r : ℕ) → start % 64 ≡ 0 → r ≡ first (clear_in (m (start / 64))) 64 → NoneBelow (unmarked m) start
    → Passed m start r
pass_word m start r z e below =
    let s = first_laws (clear_in (m (start / 64))) 64 in
    record {
      none_before = λ k u. elim (dec_lt k start) [
        | yes l ↦ below k l
        | no l ↦ in_word m start k z (omega arith) (omega (arith, s.within)) ∙ s.none_before (k - start) (omega arith)
      ];
      hit = λ l.
          let back : start + r - start ≡ first (clear_in (m (start / 64))) 64 = omega arith in
          in_word m start (start + r) z (omega arith) (omega arith) ∙ ap (clear_in (m (start / 64))) back ∙ s.holds (omega arith);
    }
