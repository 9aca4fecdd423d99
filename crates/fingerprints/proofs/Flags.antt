-- A number for each byte, 1 at those among a table's first entries: all are 1 exactly if the table lacks no byte.
use mathlib.Core.Path.{◌≡◌, refl, sym, ◌∙◌, ap, ap₂}
use mathlib.Core.Bool.{Bool, true, ◌&&◌}
use mathlib.Core.Logic.{◌↔◌}
use mathlib.Core.List.{List, [], ◌∷◌}
use Prim.Native.Nat.{ℕ, zero, suc, ◌+◌, ◌*◌, ◌/◌, ◌%◌, ◌≤◌, ◌<◌}
use native.Mathlib.Omega.{arith}
use native.Mathlib.Decide.{ℕ_discrete}
use lib.ListN.{length, get_or, set, take, drop, replicate, length-set, length-replicate}
use lib.Seq.{get_or-set_same, get_or-set_other, ext_get_or}
use lib.Dec.{eqb}
use borrow.Author.Tests.{eqb-true, eq-eqb}
use Rattle.std.specs.List.{fold}
use Rattle.std.proofs.lemmas.List.{get_or-take, get_or-drop}
use Rattle.memory.specs.Words.{Memory, byte, reads}
use Rattle.tree.specs.Fingerprint.{unpacked, has_every}
use Rattle.tree.proofs.Cases.{same_test, and-true, true_and}
use Rattle.tree.proofs.Fingerprints.{unpacked_at, unpacked_length, unpacked_bytes}
use Rattle.tree.proofs.OwnTables.{AmongFirst, lacks_no}
use Rattle.fingerprints.specs.Tables.{flagged}

-- after i entries
pub record Flagged (t seen : List ℕ) (i : ℕ) : Type 0 where
  pub long : length seen ≡ 256
  pub flags : (b : ℕ) → b < 256 → (get_or seen b 0 ≡ 1) ↔ AmongFirst t i b

zeros_at : (n b : ℕ) → ◌≡◌ {A = ℕ} (get_or (replicate n 0) b 0) 0
zeros_at zero b = refl
zeros_at (suc n) zero = refl
zeros_at (suc n) (suc b) = zeros_at n b

pub flagged_none : (t : List ℕ) → Flagged t (replicate 256 0) 0
flagged_none t = record {
  long = length-replicate {A = ℕ} 256 0;
  flags = λ b h. (λ e. absurd (omega (arith, zeros_at 256 b, e)), λ a. absurd (omega (arith, a.low)));
}

flagged_more : (t seen : List ℕ) (i : ℕ) → get_or t i 0 < 256 → Flagged t seen i → Flagged t (set seen (get_or t i 0) 1) (i + 1)
flagged_more t seen i h a = record {
  long = length-set seen (get_or t i 0) 1 ∙ a.long;
  flags = λ b l. elim (ℕ_discrete b (get_or t i 0)) [
    | yes q ↦ (
      λ e. record { index = i; low = omega arith; is = sym q },
      λ x. rw (q, get_or-set_same seen (get_or t i 0) 1 0 (omega (arith, a.long))) refl,
    )
    | no d ↦ rw (get_or-set_other seen (get_or t i 0) b 1 0 d) (
      λ e. let x = (a.flags b l).0 e in record { index = x.index; low = omega (arith, x.low); is = x.is },
      λ x. (a.flags b l).1 (elim (ℕ_discrete x.index i) [
        | yes q ↦ absurd (d (sym x.is ∙ ap (λ j. get_or t j 0) q))
        | no q ↦ record { index = x.index; low = omega (arith, x.low); is = x.is }
      ]),
    )
  ];
}

-- as the code tests them all, from the first on
ones_from : (a : Bool) (xs : List ℕ) → (fold (λ all x. all && eqb x 1) a xs ≡ true) ↔ ((a ≡ true) × ((b : ℕ) → b < length xs → get_or xs b 0 ≡ 1))
ones_from a [] = (λ e. (e, λ b h. absurd (omega arith)), λ h. h.0)
ones_from a (x ∷ xs) = let rest = ones_from (a && eqb x 1) xs in (
  λ e. let t = and-true a (eqb x 1) (rest.0 e).0 in (t.0, each x xs (eqb-true x 1 t.1) (rest.0 e).1),
  λ h. rest.1 (true_and h.0 (eq-eqb x 1 (h.1 0 (omega arith))), λ b l. h.1 (suc b) (omega arith)),
)
  where
    each : (x : ℕ) (xs : List ℕ) → x ≡ 1 → ((b : ℕ) → b < length xs → get_or xs b 0 ≡ 1) → (b : ℕ) → b < length (x ∷ xs) → get_or (x ∷ xs) b 0 ≡ 1
    each x xs e h zero l = e
    each x xs e h (suc b) l = h b (omega arith)

pub all_ones : (xs : List ℕ) → (fold (λ all x. all && eqb x 1) true xs ≡ true) ↔ ((b : ℕ) → b < length xs → get_or xs b 0 ≡ 1)
all_ones xs = let h = ones_from true xs in (λ e. (h.0 e).1, λ a. h.1 (refl, a))

-- a table in words: the bytes of word j are entries 8 × j and on
module _ (m : Memory) (from : ℕ) where
  word_entry : (j k : ℕ) → j < 32 → k < 8 → get_or (unpacked m from) (8 * j + k) 0 ≡ byte (m (from + j)) k
  word_entry j k h l =
      let a : (8 * j + k) / 8 ≡ j = omega arith in
      let b : (8 * j + k) % 8 ≡ k = omega arith in
      unpacked_at m from (8 * j + k) (omega arith) ∙ ap₂ (λ x y. byte (m (from + x)) y) a b

  flagged_word : (seen : List ℕ) (j k : ℕ) → j < 32 → k ≤ 8 → Flagged (unpacked m from) seen (8 * j)
      → Flagged (unpacked m from) (flagged seen (m (from + j)) k) (8 * j + k)
  unfolding flagged
  flagged_word seen j zero h l a = let q : 8 * j ≡ 8 * j + 0 = omega arith in rw q at a
  flagged_word seen j (suc k) h l a =
      let q : 8 * j + k + 1 ≡ 8 * j + suc k = omega arith in
      let so_far = flagged_word seen j k h (omega arith) a in
      rw (← word_entry j k h (omega arith), ← q)
      (flagged_more (unpacked m from) (flagged seen (m (from + j)) k) (8 * j + k) (unpacked_bytes m from (8 * j + k) (omega arith)) so_far)

  -- one word more, at the index at which the code reads it
  pub word_more : {seen seen' : List ℕ} (j i n : ℕ) → j < 32 → i ≡ from + j → n ≡ 8 * j + 8 → seen' ≡ flagged seen (m i) 8
      → Flagged (unpacked m from) seen (8 * j) → Flagged (unpacked m from) seen' n
  word_more {seen} j i n h here more e a = rw (more, e, here) (flagged_word seen j 8 h (omega arith) a)

  pub all_flagged : {seen : List ℕ} {r : Bool} → Flagged (unpacked m from) seen 256
      → (r ≡ true) ↔ ((b : ℕ) → b < 256 → get_or seen b 0 ≡ 1) → r ≡ has_every (unpacked m from)
  all_flagged {seen} a h =
      let t = unpacked m from in
      let l = unpacked_length m from in
      same_test (
        λ e. (lacks_no t).1 (λ b k. rw l ((a.flags b k).0 (h.0 e b k))),
        λ e. h.1 (λ b k. (a.flags b k).1 (rw l at ((lacks_no t).0 e b k))),
      )

-- a table's words, lent by themselves
pub words_alone : (words : List ℕ) (from : ℕ) → unpacked (reads (take 32 (drop from words))) 0 ≡ unpacked (reads words) from
words_alone words from =
    let lent = take 32 (drop from words) in
    ext_get_or 0 (unpacked (reads lent) 0) (unpacked (reads words) from) (unpacked_length (reads lent) 0 ∙ sym (unpacked_length (reads words) from)) (λ i h.
    let l : i < 256 = omega (arith, unpacked_length (reads lent) 0) in
    let here : from + (0 + i / 8) ≡ from + i / 8 = omega arith in
    let word = get_or-take {A = ℕ} 32 (drop from words) (0 + i / 8) 0 (omega arith) ∙ get_or-drop {A = ℕ} from words (0 + i / 8) 0 in
    unpacked_at (reads lent) 0 i l ∙ ap (λ w. byte w (i % 8)) (rw here at word) ∙ sym (unpacked_at (reads words) from i l))
