-- A table packed into 32 words, entry by entry.
use mathlib.Core.Path.{◌≡◌, ◌∙◌, ap}
use mathlib.Core.List.{List}
use Prim.Native.Nat.{ℕ, suc, ◌+◌, ◌-◌, ◌*◌, ◌/◌, ◌%◌, ◌<◌, min}
use native.Mathlib.Omega.{arith}
use native.Mathlib.Decide.{ℕ_discrete}
use lib.ListN.{length, get_or, set, replicate, length-set, length-replicate, get_or-replicate}
use lib.Seq.{get_or-set_same, get_or-set_other}
use Rattle.memory.specs.Words.{with_byte}
use Rattle.tree.specs.Fingerprint.{entry_in, bytes_to, packed}

-- how many bytes of word j the first i entries fill
abbrev bytes_of : (i j : ℕ) → ℕ
bytes_of i j = min (i - 8 * j) 8

-- 32 words, the first i entries put into them
pub record Packing (t : List ℕ) (xs : List ℕ) (i : ℕ) : Type 0 where
  pub long : length xs ≡ 32
  pub put : (j : ℕ) → j < 32 → get_or xs j 0 ≡ bytes_to (λ k. entry_in t (8 * j + k)) (bytes_of i j)

pub packing_none : (t : List ℕ) → Packing t (replicate 32 0) 0
unfolding bytes_to
packing_none t = record {
  long = length-replicate {A = ℕ} 32 0;
  put = λ j h. let e : bytes_of 0 j ≡ 0 = omega arith in rw e (get_or-replicate 32 j 0 0 h);
}

pub packing_more : {t xs : List ℕ} {i v : ℕ} → i < 256 → v ≡ with_byte (get_or xs (i / 8) 0) (i % 8) (entry_in t i)
    → Packing t xs i → Packing t (set xs (i / 8) v) (i + 1)
unfolding bytes_to
packing_more {t} {xs} {i} {v} h e a = record {
  long = length-set xs (i / 8) v ∙ a.long;
  put = λ j l. elim (ℕ_discrete j (i / 8)) [
    | yes q ↦
        let n : bytes_of (i + 1) (i / 8) ≡ suc (i % 8) = omega arith in
        let o : bytes_of i (i / 8) ≡ i % 8 = omega arith in
        let p : 8 * (i / 8) + i % 8 ≡ i = omega arith in
        rw (q, get_or-set_same xs (i / 8) v 0 (omega (arith, a.long)), n, p)
        (e ∙ ap (λ w. with_byte w (i % 8) (entry_in t i)) (rw o at (a.put (i / 8) (omega arith))))
    | no q ↦
        let n : bytes_of (i + 1) j ≡ bytes_of i j = omega arith in
        rw (get_or-set_other xs (i / 8) j v 0 q, n) (a.put j l)
  ];
}

pub packing_all : {t xs : List ℕ} → Packing t xs 256 → (j : ℕ) → j < 32 → get_or xs j 0 ≡ packed t j
unfolding packed
packing_all a j h = let n : bytes_of 256 j ≡ 8 = omega arith in rw n at (a.put j h)
