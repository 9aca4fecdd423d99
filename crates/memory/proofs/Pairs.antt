-- A script's words two at a time, as `as_chunks::<2>` gives them.
use mathlib.Core.Path.{◌≡◌, refl}
use mathlib.Core.List.{List, [], ◌∷◌}
use Prim.Native.Nat.{ℕ, zero, suc, ◌+◌, ◌*◌, ◌/◌, ◌<◌, ◌≤◌}
use native.Mathlib.Omega.{arith}
use lib.ListN.{length, get_or, drop, length-drop}
use Rattle.std.specs.Simd.{first_chunks}

-- words, and the whole pairs among them
pub data Pairs : List ℕ → List (List ℕ) → Type 0 where
  none : Pairs [] []
  half : {i : ℕ} → Pairs (i ∷ []) []
  pair : {i v : ℕ} {ws : List ℕ} {ps : List (List ℕ)} → Pairs ws ps → Pairs (i ∷ v ∷ ws) ((i ∷ v ∷ []) ∷ ps)

cut : (k : ℕ) (ws : List ℕ) → k ≡ length ws / 2 → Pairs ws (first_chunks 2 k ws)
cut zero [] e = none
cut zero (i ∷ []) e = half
cut zero (i ∷ v ∷ ws) e = absurd (omega arith)
cut (suc k) [] e = absurd (omega arith)
cut (suc k) (i ∷ []) e = absurd (omega arith)
cut (suc k) (i ∷ v ∷ ws) e = pair (cut k ws (omega arith))

pub pairs : (ws : List ℕ) {ps : List (List ℕ)} → ps ≡ first_chunks 2 (length ws / 2) ws → Pairs ws ps
pairs ws q = rw q (cut (length ws / 2) ws refl)

-- the words from pair k on: that pair, and the words from the next on
pub pair_at : {ws : List ℕ} {ps : List (List ℕ)} → Pairs ws ps → (k : ℕ) → k < length ps
    → let w = get_or ps k [] in drop (2 * k) ws ≡ get_or w 0 0 ∷ get_or w 1 0 ∷ drop (2 * (k + 1)) ws
pair_at none k h = absurd (omega arith)
pair_at half k h = absurd (omega arith)
pair_at (pair p) zero h = refl
pair_at (pair p) (suc k) h =
    let a : 2 * suc k ≡ suc (suc (2 * k)) = omega arith in
    let b : 2 * (suc k + 1) ≡ suc (suc (2 * (k + 1))) = omega arith in
    rw (a, b) (pair_at p k (omega arith))

-- the two words of pair k
pub pair_read : {ws : List ℕ} {ps : List (List ℕ)} → Pairs ws ps → (k : ℕ) → k < length ps
    → (get_or (get_or ps k []) 0 0 ≡ get_or ws (2 * k) 0) × (get_or (get_or ps k []) 1 0 ≡ get_or ws (2 * k + 1) 0)
pair_read none k h = absurd (omega arith)
pair_read half k h = absurd (omega arith)
pair_read (pair p) zero h = (refl, refl)
pair_read (pair p) (suc k) h =
    let a : 2 * suc k ≡ suc (suc (2 * k)) = omega arith in
    let b : suc (suc (2 * k)) + 1 ≡ suc (suc (2 * k + 1)) = omega arith in
    rw (a, b) (pair_read p k (omega arith))

pub length_pairs : {ws : List ℕ} {ps : List (List ℕ)} → Pairs ws ps → (2 * length ps ≤ length ws) × (length ws ≤ 2 * length ps + 1)
length_pairs none = (omega arith, omega arith)
length_pairs half = (omega arith, omega arith)
length_pairs (pair p) = let h = length_pairs p in (omega arith, omega arith)

-- behind the last pair half of one is left at most
pub pairs_end : {ws : List ℕ} {ps : List (List ℕ)} → Pairs ws ps → (k : ℕ) → length ps ≤ k → length (drop (2 * k) ws) ≤ 1
pairs_end {ws} p k h = omega (arith, length-drop (2 * k) ws, length_pairs p)
