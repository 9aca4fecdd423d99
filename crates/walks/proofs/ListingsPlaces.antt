-- The words at a word's set bits: those at its low bits in one piece, the others taken from the lowest on.
use mathlib.Core.Path.{◌≡◌, refl, sym, ◌∙◌, ap}
use mathlib.Core.Bool.{Bool, true, false}
use mathlib.Core.Logic.{◌≢◌}
use mathlib.Core.List.{List, [], ◌∷◌, ◌++◌, map-append}
use Prim.Native.Nat.{ℕ, zero, suc, ◌+◌, ◌-◌, ◌/◌, ◌^◌, ◌≤◌, ◌<◌}
use native.Mathlib.Omega.{arith}
use native.Mathlib.Nat.{mul-mod_left}
use lib.ListN.{length, get_or, take, drop, length-map, length-drop}
use lib.Seq.{length-take-le}
use Rattle.std.proofs.lemmas.List.{get_or-take, get_or-drop}
use lib.Count.{count_trailing_zeros}
use borrow.Author.Tests.{not-false as is_true}
use Rattle.memory.specs.Words.{is_set, without_bit, reads}
use Rattle.memory.specs.Search.{first}
use Rattle.memory.proofs.Laws.{first_laws, clear_in}
use Rattle.tree.specs.declared.layout.Geometry.{Geometry}
use Rattle.tree.specs.Lists.{range, up_to, keep}
use Rattle.tree.specs.Layout.{node_at, set_at}
use Rattle.tree.specs.Subtree.{held_places, frames_in, listed}
use Rattle.tree.proofs.Bits.{high_of, high_kept, low_cleared}
use Rattle.tree.proofs.Lists.{keep_same, in_range_lem, range_next}
use Rattle.tree.proofs.Pigeon.{length_up_to}
use Rattle.visits.specs.Places.{set_places, words_at}
use Rattle.visits.proofs.Places.{places_none, places_next}
use Rattle.walks.proofs.Listings.{Writing, begun}

-- a node's frames
pub frames_in_lem : (g : Geometry) (image : List ℕ) (n : ℕ) {at set : ℕ} → at ≡ node_at g n → set ≡ reads image (set_at g n)
    → frames_in g (reads image) n ≡ words_at image (at + 16) (set_places set)
unfolding frames_in held_places words_at set_places
frames_in_lem g image n p q = rw (p, q) refl

-- ---- a word's low set bits, then the others

-- a test that holds at the first k numbers of a range keeps them, and then what a test keeps that holds where it does from there on
keep_low : (p q : ℕ → Bool) (from n k : ℕ) → k ≤ n → ((j : ℕ) → from ≤ j → j < from + k → (p j ≡ true) × (q j ≡ false))
    → ((j : ℕ) → from + k ≤ j → q j ≡ p j) → keep p (range from n) ≡ range from k ++ keep q (range from n)
unfolding keep range
keep_low p q from n zero l low high = keep_same p q (range from n) (λ j x. sym (high j (omega (arith, in_range_lem from n x))))
keep_low p q from zero (suc k) l low high = absurd (omega arith)
keep_low p q from (suc n) (suc k) l low high =
    let here = low from (omega arith) (omega arith) in
    rw (here.0, here.1)
    (ap (λ xs. from ∷ xs) (keep_low p q (suc from) n k (omega arith) (λ j a b. low j (omega arith) (omega arith)) (λ j a. high j (omega arith))))

places_split : (w k : ℕ) → w < 2 ^ 64 → k ≡ first (clear_in w) 64 → set_places w ≡ up_to k ++ set_places (high_of w k)
unfolding set_places up_to
places_split w k h e =
    let s = first_laws (clear_in w) 64 in
    keep_low (is_set w) (is_set (high_of w k)) 0 64 k (omega (arith, s.within))
    (λ j a b. (is_true (is_set w j) (s.none_before j (omega arith)), low_cleared w k h j (omega arith))) (λ j a. high_kept w k h j (omega arith))

-- ---- the words there

module _ (image : List ℕ) (start : ℕ) where
  pub words_none : (set : ℕ) → set ≡ 0 → words_at image start (set_places set) ≡ []
  unfolding words_at
  words_none set z = rw (places_none set z) refl

  pub words_next : (set : ℕ) → set ≢ 0 → set < 2 ^ 64
      → words_at image start (set_places set)
      ≡ reads image (start + count_trailing_zeros 64 set) ∷ words_at image start (set_places (without_bit set (count_trailing_zeros 64 set)))
  unfolding words_at
  words_next set o h = ap (words_at image start) (places_next set o h)

  words_split : (set k : ℕ) → set < 2 ^ 64 → k ≡ first (clear_in set) 64
      → words_at image start (set_places set) ≡ words_at image start (up_to k) ++ words_at image start (set_places (high_of set k))
  unfolding words_at
  words_split set k h e = ap (words_at image start) (places_split set k h e) ∙ map-append _ (up_to k) (set_places (high_of set k))

  length_words : (count : ℕ) → length (words_at image start (up_to count)) ≡ count
  unfolding words_at
  length_words count = length-map (up_to count) _ ∙ length_up_to count

  -- adjacent words, as a part of the image: how many, and each
  pub run_length : (count : ℕ) → start + count ≤ length image → length (take (start + count - start) (drop start image)) ≡ count
  run_length count h = let e : start + count - start ≡ count = omega arith in rw (e, length-take-le count (drop start image) (omega (arith, length-drop start image))) refl

  pub run_read : (k count : ℕ) → k < count → get_or (take (start + count - start) (drop start image)) k 0 ≡ reads image (start + k)
  run_read k count l = get_or-take (start + count - start) (drop start image) k 0 (omega arith) ∙ get_or-drop start image k 0

  -- all, one more, none left
  pub run_all : (count : ℕ) → words_at image start (up_to count) ≡ words_at image start (range 0 (count - 0))
  unfolding up_to
  run_all count = ap (λ (k : ℕ). words_at image start (range 0 k)) (omega arith)

  pub run_next : (k count : ℕ) → k < count
      → words_at image start (range k (count - k)) ≡ reads image (start + k) ∷ words_at image start (range (k + 1) (count - (k + 1)))
  unfolding words_at
  run_next k count l = ap (words_at image start) (range_next k count l)

  pub run_none : (k count : ℕ) → count ≤ k → words_at image start (range k (count - k)) ≡ []
  unfolding words_at range
  run_none k count l = let z : count - k ≡ 0 = omega arith in rw z refl

-- ---- all of them in two pieces

module _ (image buffer : List ℕ) (start set : ℕ) {all : List ℕ} {k : ℕ} (e : all ≡ words_at image start (set_places set)) (fits : set < 2 ^ 64)
    (room : length all ≤ length buffer) (low : k ≡ first (clear_in set) 64) where
  -- those at the low bits are copied, the others are left
  pub low_copied : {list : List ℕ} → list ≡ listed (words_at image start (up_to k)) buffer → Writing all buffer k (words_at image start (set_places (high_of set k))) list
  low_copied c =
      rw c (rw (length_words image start k) at (begun (words_at image start (up_to k)) _ buffer (e ∙ words_split image start set k fits low) room))

  pub low_room : k ≤ length buffer
  low_room = omega (arith, (low_copied refl).counts)

-- of a full word none is left
pub none_high : (image : List ℕ) (start set k : ℕ) → k ≡ 64 → words_at image start (set_places (high_of set k)) ≡ []
none_high image start set k e = words_none image start (high_of set k) (rw e (mul-mod_left (set / 2 ^ 64) (2 ^ 64)))
