-- Collecting the bytes of a line: the laws of the code's buffer.
use mathlib.Core.Path.{◌≡◌, refl, sym, ◌∙◌, ap}
use mathlib.Core.Bool.{Bool, true, false}
use mathlib.Core.List.{List, [], ◌∷◌, ◌++◌}
use Prim.Native.Nat.{ℕ, zero, suc, ◌+◌, ◌≤◌, min}
use native.Mathlib.Omega.{arith}
use native.Mathlib.Numerals.{add-one}
use native.Mathlib.Decide.{ℕ_discrete}
use lib.ListN.{length, take, drop, length-append, length-take, length-drop}
use lib.Seq.{take_all, take-append-add, take-append_seam, append_snoc}
use borrow.Author.Tests.{eq-eqb, ne_eqb}
use denote.Ref.{Bor}
use Rattle.std.specs.Prelude.{◌==◌, Option, Some, None, MatchOption, position}
use Rattle.std.specs.List.{position_from}
use Rattle.std.proofs.lemmas.List.{take_min}
use Rattle.std.proofs.lemmas.Iterator.Adapters.{position_from-zero}
use Rattle.lines.specs.Input.{cut, newline, up_to_newline, has_newline, used, Holds, TakesLine}

-- ---- what is kept

take_again : (n : ℕ) (xs ys : List ℕ) → take n (take n xs ++ ys) ≡ take n (xs ++ ys)
take_again zero xs ys = refl
take_again (suc n) [] ys = refl
take_again (suc n) (x ∷ xs) ys = ap (λ l. x ∷ l) (take_again n xs ys)

-- what is kept of bytes with more behind them does not turn on those dropped before
pub cut_again : (xs ys : List ℕ) → cut (cut xs ++ ys) ≡ cut (xs ++ ys)
unfolding cut
cut_again xs ys = take_again 81 xs ys

pub cut_more : (c : List ℕ) (b : ℕ) (bs : List ℕ) → cut (cut (c ++ b ∷ []) ++ bs) ≡ cut (c ++ b ∷ bs)
cut_more c b bs = cut_again (c ++ b ∷ []) bs ∙ ap cut (append_snoc c b bs)

pub cut_all : (xs : List ℕ) → length xs ≤ 81 → cut xs ≡ xs
unfolding cut
cut_all xs h = take_all 81 xs h

pub cut_length : (xs : List ℕ) → length (cut xs) ≡ min 81 (length xs)
unfolding cut
cut_length xs = length-take 81 xs

-- bytes more, of which as many are kept as there is room for
pub keep_more : (xs bs : List ℕ) (n room : ℕ) → room + length xs ≡ 81 → n ≡ min room (length bs) → xs ++ take n bs ≡ cut (xs ++ bs)
unfolding cut
keep_more xs bs n room h e =
    let all : length xs + room ≡ 81 = omega arith in
    rw (e, take_min room bs) (sym (take-append-add xs bs room) ∙ ap (λ m. take m (xs ++ bs)) all)

-- ---- a buffer that holds bytes

module _ (old bytes buffer : List ℕ) (count : ℕ) (w : Holds old bytes buffer count) where
  pub held_bytes : take count buffer ≡ bytes
  held_bytes = rw (w.same, w.counted) (take-append_seam bytes (drop (length bytes) old))

  pub holds_length : count ≤ length old → length buffer ≡ length old
  holds_length h = rw (w.same, length-append, length-drop) (omega (arith, w.counted))

-- ---- what the next byte tells

-- the three readings of what is left of a line
abbrev pub Left : List ℕ → List ℕ → Bool → ℕ → Type 0
Left bs up has n = (up_to_newline bs ≡ up) × (has_newline bs ≡ has) × (used bs ≡ n)

pub left_nothing : Left [] [] false 0
unfolding up_to_newline has_newline used
left_nothing = (refl, refl, refl)

pub left_newline : (b : ℕ) (bs : List ℕ) → b ≡ newline → Left (b ∷ bs) [] true 1
unfolding up_to_newline has_newline used
left_newline b bs e = rw (eq-eqb b newline e) (refl, refl, refl)

pub left_byte : (b : ℕ) (bs : List ℕ) → (b ≡ newline → ⊥) → Left (b ∷ bs) (b ∷ up_to_newline bs) (has_newline bs) (suc (used bs))
unfolding up_to_newline has_newline used
left_byte b bs n = rw (ne_eqb b newline n) (refl, refl, refl)

-- ---- the place of the first newline

-- the first newline of bytes that begin at a place i is at n
abbrev Ends : List ℕ → ℕ → ℕ → Type 0
Ends bs i n = (k : ℕ) × (n ≡ i + k) × Left bs (take k bs) true (suc k)

newline_from : (i : ℕ) (bs : List ℕ) → MatchOption (position_from (λ b. b == newline) i bs) (Left bs bs false (length bs)) (λ n. Ends bs i n)
newline_from i [] = left_nothing
newline_from i (b ∷ bs) =
    elim (ℕ_discrete b newline) [
      | yes e ↦ rw (eq-eqb b newline e) (0, omega arith, left_newline b bs e)
      | no e ↦ rw (ne_eqb b newline e) (go (left_byte b bs e) (position_from (λ x. x == newline) (i + 1) bs) (newline_from (i + 1) bs))
    ]
  where
    go : Left (b ∷ bs) (b ∷ up_to_newline bs) (has_newline bs) (suc (used bs)) → (r : Option ℕ)
        → MatchOption r (Left bs bs false (length bs)) (λ n. Ends bs (i + 1) n)
        → MatchOption r (Left (b ∷ bs) (b ∷ bs) false (suc (length bs))) (λ n. Ends (b ∷ bs) i n)
    go l None w = (l.0 ∙ ap (λ x. b ∷ x) w.0, l.1 ∙ w.1, l.2 ∙ ap suc w.2)
    go l (Some n) w = let v = w.2 in (suc w.0, omega (arith, w.1), (l.0 ∙ ap (λ x. b ∷ x) v.0, l.1 ∙ v.1, l.2 ∙ ap suc v.2))

pub newline_at : (bs : List ℕ) (r : Option ℕ) → r ≡ position (λ b. b == newline) bs
    → MatchOption r (Left bs bs false (length bs)) (λ n. Left bs (take n bs) true (n + 1))
newline_at bs r e = go r (rw (e, position_from-zero (λ b. b == newline) bs) (newline_from 0 bs))
  where
    go : (r : Option ℕ) → MatchOption r (Left bs bs false (length bs)) (λ n. Ends bs 0 n)
        → MatchOption r (Left bs bs false (length bs)) (λ n. Left bs (take n bs) true (n + 1))
    go None w = w
    go (Some n) w = let q : n ≡ w.0 = omega (arith, w.1) in rw (q, add-one) w.2

-- ---- what the code takes

pub takes_all : (piece old line : List ℕ) → Left piece piece false (length piece) → line ≡ cut (old ++ piece) → TakesLine piece old None line
takes_all piece old line l e = record { holds = rw (l.0) e; goes_on = l.1 }

pub takes_some : (piece old line : List ℕ) (n : ℕ) (rest : Bor (List ℕ)) → Left piece (take n piece) true (n + 1) → line ≡ cut (old ++ take n piece)
    → rest.now ≡ drop (n + 1) piece → TakesLine piece old (Some rest) line
takes_some piece old line n rest l e f = record { holds = rw (l.0) e; goes_on = (l.1, rw (l.2) f) }
