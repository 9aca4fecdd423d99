-- Laws of an array filled in turn.
use mathlib.Core.Path.{◌≡◌, sym, ◌∙◌}
use mathlib.Core.List.{List, map}
use Prim.Native.Nat.{ℕ, ◌+◌, ◌<◌}
use native.Mathlib.Omega.{arith}
use native.Mathlib.Decide.{ℕ_discrete}
use lib.ListN.{length, set, length-set}
use lib.Seq.{get_or-set_same, get_or-set_other, ext_get_or}
use Rattle.tree.specs.Lists.{up_to}
use Rattle.tree.proofs.Fingerprints.{made_at, made_length}
use Rattle.fingerprints.specs.Filled.{FilledTo}

module _ {f : ℕ → ℕ} {n : ℕ} {xs : List ℕ} where
  pub filled_none : length xs ≡ n → FilledTo f n xs 0
  filled_none e = record { long = e; filled = λ j h. absurd (omega arith) }

  -- the same entries, counted otherwise
  pub filled_to : {i j : ℕ} → j ≡ i → FilledTo f n xs i → FilledTo f n xs j
  filled_to q a = rw q a

  -- the next entry stored
  pub filled_more : {i j v : ℕ} → j ≡ i + 1 → i < n → v ≡ f i → FilledTo f n xs i → FilledTo f n (set xs i v) j
  filled_more {i} {j} {v} q h e a = record {
    long = length-set xs i v ∙ a.long;
    filled = λ k l. elim (ℕ_discrete k i) [
      | yes o ↦ rw (o, get_or-set_same xs i v 0 (omega (arith, a.long))) e
      | no o ↦ rw (get_or-set_other xs i k v 0 o) (a.filled k (omega arith))
    ];
  }

  pub filled_all : FilledTo f n xs n → xs ≡ map f (up_to n)
  filled_all a = ext_get_or 0 xs (map f (up_to n)) (a.long ∙ sym (made_length f n)) (λ j h.
      let l : j < n = omega (arith, a.long) in a.filled j l ∙ sym (made_at f n j l))
