-- The translator's passes, an entry at a time.
use mathlib.Core.Path.{◌≡◌, refl, ap, sym}
use mathlib.Core.Bool.{Bool, true, false, ◌||◌}
use mathlib.Core.Logic.{◌≢◌, inl, inr}
use mathlib.Core.List.Memᴰ
use mathlib.Core.List.{List, [], ◌∷◌, ◌++◌, map, map-append, append-nil, Memᴰ}
use Prim.Native.Nat.{ℕ, zero, suc, ◌+◌, ◌-◌, ◌*◌, ◌/◌, ◌%◌, ◌≤◌, ◌<◌}
use native.Mathlib.Omega.{arith}
use native.Mathlib.Numerals.{add-one}
use native.Mathlib.Decide.{dec_lt, ℕ_discrete}
use lib.ListN.{length, get_or, take, drop, drop_of_length-le, length-append, length-map}
use lib.Seq.{drop-cons}
use lib.Dec.{eqb}
use borrow.Author.Tests.{eq-eqb, ne_eqb}
use borrow.Rule.Slice.PartMut.{mid_of, put_mid}
use Rattle.memory.specs.Script.{Entry, store, barrier, flush, barrier_word, flush_word, encode, written}
use Rattle.flushes.specs.Crash.{line_of}
use Rattle.flushes.specs.Translate.{firsts, any_flush, ends_fenced}
use Rattle.flushes.specs.Passes.{segment_start, entry_in, entries_in, line_words, elem, new_flush, line_flushes, piece_of}
use Rattle.memory.proofs.Laws.{test, clash, written_rest, Pairs, none, half, pair}
use Rattle.std.specs.Prelude.{All, Any, MatchBool}
use Rattle.flushes.proofs.Translator.{first_more, first_again, length_firsts}

or_true : (t : Bool) → true ≡ t || true
or_true true = refl
or_true false = refl

-- ---- the lines of words

-- one entry more, behind
lines_behind : (k : ℕ) (ws : List ℕ) → 2 * k + 1 < length ws → line_words (take (2 * k + 2) ws) ≡ line_words (take (2 * k) ws) ++ line_of (get_or ws (2 * k) 0) ∷ []
unfolding line_words
lines_behind k [] h = absurd (omega arith)
lines_behind k (i ∷ []) h = absurd (omega arith)
lines_behind zero (i ∷ v ∷ ws) h = refl
lines_behind (suc k) (i ∷ v ∷ ws) h =
    let a : 2 * suc k + 2 ≡ suc (suc (2 * k + 2)) = omega arith in
    let b : 2 * suc k ≡ suc (suc (2 * k)) = omega arith in
    rw (a, b) (ap (λ t. line_of i ∷ t) (lines_behind k ws (omega arith)))

pub lines_more : (at : ℕ) (ws : List ℕ) → at % 2 ≡ 0 → at + 1 < length ws → line_words (take (at + 2) ws) ≡ line_words (take at ws) ++ line_of (get_or ws at 0) ∷ []
lines_more at ws e h = let q : at ≡ 2 * (at / 2) = omega arith in rw q (lines_behind (at / 2) ws (omega arith))

-- ---- a line among them

pub is_elem : (l : ℕ) (ls : List ℕ) → elem l ls ≡ true → Memᴰ l ls
unfolding elem
is_elem l [] h = clash false h refl
is_elem l (k ∷ ls) h = elim (ℕ_discrete k l) [
  | yes q ↦ Memᴰ.head (sym q)
  | no n ↦ Memᴰ.tail (is_elem l ls (rw (ne_eqb k l n) at h))
]

pub no_elem : (l : ℕ) (ls : List ℕ) → elem l ls ≡ false → Memᴰ l ls → ⊥
unfolding elem
no_elem l [] h x = Memᴰ.not-nil x
no_elem l (k ∷ ls) h x = elim (ℕ_discrete k l) [
  | yes q ↦ clash true refl (rw (eq-eqb k l q) at h)
  | no n ↦ elim (Memᴰ.cases_cons x) [ inl q ↦ n (sym q) | inr y ↦ no_elem l ls (rw (ne_eqb k l n) at h) y ]
]

-- of words in pairs, a line is among them where a pair's first word is in it, and not where none is
abbrev pub line_is : ℕ → Bool → List ℕ → Type 0
line_is l t w = eqb (line_of (get_or w 0 0)) l ≡ t

has_line : (l : ℕ) {ws : List ℕ} {ps : List (List ℕ)} → Pairs ws ps → Any (line_is l true) ps → true ≡ elem l (line_words ws)
unfolding elem line_words
has_line l none (k, x, h, e, t) = absurd (omega arith)
has_line l half (k, x, h, e, t) = absurd (omega arith)
has_line l (pair {i = i} p) (zero, x, h, e, t) =
    let here : eqb (line_of i) l ≡ true = rw (← e) at t in rw here refl
has_line l (pair {i = i} p) (suc k, x, h, e, t) = rw (← has_line l p (k, x, omega arith, e, t)) (or_true (eqb (line_of i) l))

no_line : (l : ℕ) {ws : List ℕ} {ps : List (List ℕ)} → Pairs ws ps → All (line_is l false) ps → false ≡ elem l (line_words ws)
unfolding elem line_words
no_line l none a = refl
no_line l half a = refl
no_line l (pair p) a = rw (a 0 [] (omega arith)) (no_line l p (λ k d h. a (suc k) d (omega arith)))

pub line_among : (t : Bool) (l : ℕ) {ws : List ℕ} {ps : List (List ℕ)} → Pairs ws ps → MatchBool t (Any (line_is l true) ps) (All (line_is l false) ps)
    → t ≡ elem l (line_words ws)
line_among true l p m = has_line l p m
line_among false l p m = no_line l p m

-- ---- a line's flush

pub new_none : (segment script : List ℕ) (l : ℕ) → elem l (line_words segment) ≡ true → (0 ≡ 2 * length (new_flush segment l)) × (script ≡ written (new_flush segment l) script)
unfolding new_flush written encode
new_none segment script l h = (rw h refl, rw h refl)

pub new_one : (segment script ys : List ℕ) (l : ℕ) → elem l (line_words segment) ≡ false → ys ≡ written (flush l ∷ []) script
    → (2 ≡ 2 * length (new_flush segment l)) × (ys ≡ written (new_flush segment l) script)
unfolding new_flush
new_one segment script ys l h q = (rw h refl, rw h q)

pub flushes_more : (at : ℕ) (ws : List ℕ) → at % 2 ≡ 0 → at + 1 < length ws
    → line_flushes (take at ws) ++ new_flush (take at ws) (get_or ws at 0 / 8) ≡ line_flushes (take (at + 2) ws)
unfolding line_flushes new_flush
flushes_more at ws e h =
    let ls = line_words (take at ws) in
    let l = line_of (get_or ws at 0) in
    elim (test (elem l ls)) [
      | inl t ↦ rw (lines_more at ws e h, first_again ls l (is_elem l ls t), t) (append-nil (map flush (firsts ls)))
      | inr t ↦ rw (lines_more at ws e h, first_more ls l (no_elem l ls t), t) (sym (map-append flush (firsts ls) (l ∷ [])))
    ]

pub flushes_none : (script segment : List ℕ) → (0 ≡ 2 * length (line_flushes (take 0 segment))) × (script ≡ written (line_flushes (take 0 segment)) script)
unfolding line_flushes line_words firsts written encode
flushes_none script segment = (refl, refl)

pub new_few : (segment : List ℕ) (l : ℕ) → length (new_flush segment l) ≤ 1
unfolding new_flush
new_few segment l = elim (test (elem l (line_words segment))) [ inl t ↦ rw t (omega arith) | inr t ↦ rw t (omega arith) ]

-- one entry of the segment more
pub record PutMore (at used r : ℕ) (ws script xs ys : List ℕ) : Type 0 where
  pub few : r ≤ 2
  pub used_is : used + r ≡ 2 * length (line_flushes (take (at + 2) ws))
  pub written_is : put_mid used (length xs - used) xs ys ≡ written (line_flushes (take (at + 2) ws)) script

pub put_more : (at used r : ℕ) (ws t script xs ys : List ℕ) → t ≡ take at ws → at % 2 ≡ 0 → at + 1 < length ws → used ≡ 2 * length (line_flushes (take at ws))
    → xs ≡ written (line_flushes (take at ws)) script
    → (r ≡ 2 * length (new_flush t (get_or ws at 0 / 8))) × (ys ≡ written (new_flush t (get_or ws at 0 / 8)) (mid_of used (length xs - used) xs))
    → PutMore at used r ws script xs ys
put_more at used r ws t script xs ys p e h u x y =
    let fs = line_flushes (take at ws) in
    let n = new_flush (take at ws) (get_or ws at 0 / 8) in
    let q = flushes_more at ws e h in
    let z : (r ≡ 2 * length n) × (ys ≡ written n (mid_of used (length xs - used) xs)) = rw p at y in
    record {
      few = omega (arith, z.0, new_few (take at ws) (get_or ws at 0 / 8));
      used_is = rw (← q, length-append fs n) (omega (arith, u, z.0));
      written_is = rw (← q) (written_rest fs n used script xs ys (sym u) x z.1);
    }

lines_all : (k : ℕ) (ws : List ℕ) → 2 * k ≤ length ws → length ws ≤ 2 * k + 1 → line_words (take (2 * k) ws) ≡ line_words ws
unfolding line_words
lines_all zero [] l h = refl
lines_all zero (i ∷ []) l h = refl
lines_all zero (i ∷ v ∷ ws) l h = absurd (omega arith)
lines_all (suc k) [] l h = absurd (omega arith)
lines_all (suc k) (i ∷ []) l h = absurd (omega arith)
lines_all (suc k) (i ∷ v ∷ ws) l h = let b : 2 * suc k ≡ suc (suc (2 * k)) = omega arith in rw b (ap (λ t. line_of i ∷ t) (lines_all k ws (omega arith) (omega arith)))

pub flushes_all : (at : ℕ) (ws : List ℕ) → at % 2 ≡ 0 → at ≤ length ws → length ws ≤ at + 1 → line_flushes (take at ws) ≡ line_flushes ws
unfolding line_flushes
flushes_all at ws e l h =
    let q : at ≡ 2 * (at / 2) = omega arith in
    let p : line_words (take at ws) ≡ line_words ws = rw q (lines_all (at / 2) ws (omega arith) (omega arith)) in
    ap (λ (ls : List ℕ). map flush (firsts ls)) p

-- a segment has no more flushes than entries
words_lines : (ws : List ℕ) → 2 * length (line_words ws) ≤ length ws
unfolding line_words
words_lines [] = omega arith
words_lines (i ∷ []) = omega arith
words_lines (i ∷ v ∷ ws) = omega (arith, words_lines ws)

pub flushes_few : (ws : List ℕ) → 2 * length (line_flushes ws) ≤ length ws
unfolding line_flushes
flushes_few ws = rw (length-map (firsts (line_words ws)) flush) (omega (arith, length_firsts (line_words ws), words_lines ws))

-- ---- what an entry becomes

pub piece_barrier : (used i v : ℕ) (segment script xs ys : List ℕ) → i ≡ barrier_word → used ≡ 2 * length (line_flushes segment)
    → xs ≡ written (line_flushes segment) script → ys ≡ written (barrier ∷ []) (mid_of used (length xs - used) xs)
    → (used + 2 ≡ 2 * length (piece_of segment i v)) × (put_mid used (length xs - used) xs ys ≡ written (piece_of segment i v) script)
unfolding piece_of
piece_barrier used i v segment script xs ys b u x y =
    let fs = line_flushes segment in
    rw (eq-eqb i barrier_word b) (rw (length-append fs (barrier ∷ [])) (omega arith), written_rest fs (barrier ∷ []) used script xs ys (sym u) x y)

pub piece_store : (i v : ℕ) (segment script ys : List ℕ) → i ≢ barrier_word → ys ≡ written (store i v ∷ []) script
    → (2 ≡ 2 * length (piece_of segment i v)) × (ys ≡ written (piece_of segment i v) script)
unfolding piece_of
piece_store i v segment script ys n y = rw (ne_eqb i barrier_word n) (refl, y)

pub start_barrier : (i start next : ℕ) → i ≡ barrier_word → next ≡ segment_start i start next
unfolding segment_start
start_barrier i start next b = rw (eq-eqb i barrier_word b) refl

pub start_store : (i start next : ℕ) → i ≢ barrier_word → start ≡ segment_start i start next
unfolding segment_start
start_store i start next n = rw (ne_eqb i barrier_word n) refl

-- ---- the entries of words

pub entries_step : (at : ℕ) (ws : List ℕ) → at + 1 < length ws → entries_in (drop at ws) ≡ entry_in (get_or ws at 0) (get_or ws (at + 1) 0) ∷ entries_in (drop (at + 2) ws)
unfolding entries_in
entries_step at ws h =
    let two : at + 2 ≡ suc (suc at) = omega arith in
    rw (add-one at, two, drop-cons ws at 0 (omega arith), drop-cons ws (suc at) 0 (omega arith)) refl

pub entries_last : (at : ℕ) (ws : List ℕ) → length ws ≤ at + 1 → entries_in (drop at ws) ≡ []
unfolding entries_in
entries_last at ws h = elim (dec_lt at (length ws)) [
  | yes l ↦ rw (drop-cons ws at 0 (omega arith), drop_of_length-le ws {i = suc at} (omega arith)) refl
  | no l ↦ rw (drop_of_length-le ws {i = at} (omega arith)) refl
]

-- a flush among them
abbrev pub flush_is : Bool → List ℕ → Type 0
flush_is t w = eqb (get_or w 0 0) flush_word ≡ t

one_flush : (i v : ℕ) (es : List Entry) → any_flush (entry_in i v ∷ es) ≡ eqb i flush_word || any_flush es
unfolding any_flush entry_in
one_flush i v es = elim (ℕ_discrete i barrier_word) [
  | yes q ↦ rw (eq-eqb i barrier_word q, ne_eqb i flush_word (λ f. omega arith)) refl
  | no q ↦ elim (test (eqb i flush_word)) [ inl t ↦ rw (ne_eqb i barrier_word q, t) refl | inr t ↦ rw (ne_eqb i barrier_word q, t) refl ]
]

flush_among : {ws : List ℕ} {ps : List (List ℕ)} → Pairs ws ps → Any (flush_is true) ps → true ≡ any_flush (entries_in ws)
unfolding entries_in
flush_among none (k, x, h, e, t) = absurd (omega arith)
flush_among half (k, x, h, e, t) = absurd (omega arith)
flush_among (pair {i = i} {v = v} {ws = ws} p) (zero, x, h, e, t) =
    let here : eqb i flush_word ≡ true = rw (← e) at t in rw (one_flush i v (entries_in ws), here) refl
flush_among (pair {i = i} {v = v} {ws = ws} p) (suc k, x, h, e, t) =
    rw (one_flush i v (entries_in ws), ← flush_among p (k, x, omega arith, e, t)) (or_true (eqb i flush_word))

no_flush : {ws : List ℕ} {ps : List (List ℕ)} → Pairs ws ps → All (flush_is false) ps → false ≡ any_flush (entries_in ws)
unfolding entries_in any_flush
no_flush none a = refl
no_flush half a = refl
no_flush (pair {i = i} {v = v} {ws = ws} p) a = rw (one_flush i v (entries_in ws), a 0 [] (omega arith)) (no_flush p (λ k d h. a (suc k) d (omega arith)))

pub flush_in : (t : Bool) {ws : List ℕ} {ps : List (List ℕ)} → Pairs ws ps → MatchBool t (Any (flush_is true) ps) (All (flush_is false) ps)
    → t ≡ any_flush (entries_in ws)
flush_in true p m = flush_among p m
flush_in false p m = no_flush p m

-- the last entry
entry_fenced : (i v : ℕ) → ends_fenced (entry_in i v ∷ []) ≡ eqb i barrier_word
unfolding ends_fenced entry_in
entry_fenced i v = elim (ℕ_discrete i barrier_word) [
  | yes q ↦ rw (eq-eqb i barrier_word q) refl
  | no q ↦ elim (ℕ_discrete i flush_word) [
    | yes f ↦ rw (ne_eqb i barrier_word q, eq-eqb i flush_word f) refl
    | no f ↦ rw (ne_eqb i barrier_word q, ne_eqb i flush_word f) refl
  ]
]

last_fenced : (k : ℕ) (ws : List ℕ) → length ws ≡ 2 * suc k → ends_fenced (entries_in ws) ≡ eqb (get_or ws (2 * k) 0) barrier_word
unfolding ends_fenced entries_in
last_fenced k [] h = absurd (omega arith)
last_fenced k (i ∷ []) h = absurd (omega arith)
last_fenced zero (i ∷ v ∷ []) h = entry_fenced i v
last_fenced zero (i ∷ v ∷ j ∷ ws) h = absurd (omega arith)
last_fenced (suc k) (i ∷ v ∷ []) h = absurd (omega arith)
last_fenced (suc k) (i ∷ v ∷ j ∷ []) h = absurd (omega arith)
last_fenced (suc k) (i ∷ v ∷ j ∷ u ∷ ws) h = let q : 2 * suc k ≡ suc (suc (2 * k)) = omega arith in rw q (last_fenced k (j ∷ u ∷ ws) (omega arith))

pub ends_empty : (ws : List ℕ) → length ws ≡ 0 → eqb (length ws) 0 ≡ ends_fenced (entries_in ws)
unfolding ends_fenced entries_in
ends_empty [] h = refl
ends_empty (i ∷ ws) h = absurd (omega arith)

pub ends_last : (ws : List ℕ) → length ws % 2 ≡ 0 → length ws ≢ 0 → eqb (get_or ws (length ws - 2) 0) barrier_word ≡ ends_fenced (entries_in ws)
ends_last ws e n =
    let k = length ws / 2 - 1 in
    let q : length ws - 2 ≡ 2 * k = omega arith in
    rw q (sym (last_fenced k ws (omega arith)))

pub piece_few : (segment : List ℕ) (i v : ℕ) → 2 * length (piece_of segment i v) ≤ length segment + 2
unfolding piece_of
piece_few segment i v = elim (test (eqb i barrier_word)) [
  | inl t ↦ rw (t, length-append (line_flushes segment) (barrier ∷ [])) (omega (arith, flushes_few segment))
  | inr t ↦ rw t (omega arith)
]

pub start_within : (i start next : ℕ) → start ≤ next → segment_start i start next ≤ next
unfolding segment_start
start_within i start next h = elim (test (eqb i barrier_word)) [ inl t ↦ rw t (omega arith) | inr t ↦ rw t h ]
