-- Lines collected from pieces of input are the lines of the whole.
use mathlib.Core.Path.{◌≡◌, refl, sym, ◌∙◌, ap}
use mathlib.Core.Bool.{true, false, false≢true}
use mathlib.Core.List.{List, [], ◌∷◌, ◌++◌, map, flatten, append-nil}
use Prim.Native.Nat.{ℕ, suc, ◌-◌, ◌≤◌, ◌<◌}
use native.Mathlib.Omega.{arith}
use native.Mathlib.Decide.{dec_le, ℕ_discrete}
use lib.ListN.{length, take, drop, length-drop}
use lib.Seq.{append_snoc}
use borrow.Author.Tests.{eq-eqb, ne_eqb}
use denote.Ref.{Bor}
use Rattle.std.specs.Prelude.{cond, eqb, Option, Some, None, MatchOption, IfSome}
use Rattle.lines.specs.Reading.{longest, line_of}
use Rattle.lines.specs.Input.{newline, in_front, lines_of, cut, Collected, nothing_yet, line_ended, with_bytes, taken, taken_all, last_line, all_lines, up_to_newline, has_newline, used, Holds, Takes, TakesLine}
use Rattle.lines.specs.declared.input.Taken.{Taken}
use Rattle.lines.specs.Laws.{InputLaws, PieceLaws}
use Rattle.lines.proofs.Fields.{too_long}
use Rattle.lines.proofs.Collect.{cut_again, cut_more, cut_all, cut_length, held_bytes, holds_length, left_nothing, left_newline, left_byte}

-- ---- the lines of an input

module _ (b : ℕ) (bs : List ℕ) where
  lines_newline : b ≡ newline → lines_of (b ∷ bs) ≡ [] ∷ lines_of bs
  unfolding lines_of
  lines_newline e = rw (eq-eqb b newline e)

  lines_byte : (b ≡ newline → ⊥) → lines_of (b ∷ bs) ≡ in_front b (lines_of bs)
  unfolding lines_of
  lines_byte n = rw (ne_eqb b newline n)

  -- the first byte of a line without a newline is none, and there is none behind it
  first_other : has_newline (b ∷ bs) ≡ false → b ≡ newline → ⊥
  unfolding has_newline
  first_other e q = false≢true (sym (rw (eq-eqb b newline q) at e))

  rest_without : has_newline (b ∷ bs) ≡ false → has_newline bs ≡ false
  unfolding has_newline
  rest_without e = rw (ne_eqb b newline (first_other e)) at e

newline_ends : (l rest : List ℕ) → has_newline l ≡ false → lines_of (l ++ newline ∷ rest) ≡ l ∷ lines_of rest
newline_ends [] rest e = lines_newline newline rest refl
newline_ends (b ∷ l) rest e = lines_byte b (l ++ newline ∷ rest) (first_other b l e) ∙ ap (in_front b) (newline_ends l rest (rest_without b l e))

no_input : lines_of [] ≡ []
unfolding lines_of
no_input = refl

end_ends : (b : ℕ) (l : List ℕ) → has_newline (b ∷ l) ≡ false → lines_of (b ∷ l) ≡ (b ∷ l) ∷ []
end_ends b [] e = lines_byte b [] (first_other b [] e) ∙ ap (in_front b) no_input
end_ends b (a ∷ l) e = lines_byte b (a ∷ l) (first_other b (a ∷ l) e) ∙ ap (in_front b) (end_ends a l (rest_without b (a ∷ l) e))

pub input_laws : InputLaws
input_laws = record { newline_ends = newline_ends; end_ends = end_ends; no_input = no_input }

-- ---- bytes taken one by one

taken_nothing : (s : Collected) → taken s [] ≡ s
unfolding taken
taken_nothing s = refl

module _ (s : Collected) (b : ℕ) (bs : List ℕ) where
  taken_newline : b ≡ newline → taken s (b ∷ bs) ≡ taken (line_ended s) bs
  unfolding taken
  taken_newline e = rw (eq-eqb b newline e)

  taken_byte : (b ≡ newline → ⊥) → taken s (b ∷ bs) ≡ taken (with_bytes s (b ∷ [])) bs
  unfolding taken
  taken_byte n = rw (ne_eqb b newline n)

two_pieces : (s : Collected) (xs ys : List ℕ) → taken s (xs ++ ys) ≡ taken (taken s xs) ys
unfolding taken
two_pieces s [] ys = refl
two_pieces s (x ∷ xs) ys = two_pieces (cond (eqb x newline) (line_ended s) (with_bytes s (x ∷ []))) xs ys

at_once : (s : Collected) (ps : List (List ℕ)) → taken_all s ps ≡ taken s (flatten ps)
unfolding taken_all taken flatten
at_once s [] = refl
at_once s (p ∷ ps) = at_once (taken s p) ps ∙ sym (two_pieces s p (flatten ps))

-- ---- the lines collected

-- bytes in front of lines: they begin the first of them
begin : List ℕ → List (List ℕ) → List (List ℕ)
begin c [] = last_line c
begin c (l ∷ ls) = (c ++ l) ∷ ls

begin_none : (ls : List (List ℕ)) → begin [] ls ≡ ls
unfolding begin
begin_none [] = refl
begin_none (l ∷ ls) = refl

begin_more : (c : List ℕ) (b : ℕ) (ls : List (List ℕ)) → begin (c ++ b ∷ []) ls ≡ begin c (in_front b ls)
unfolding begin
begin_more [] b [] = refl
begin_more (a ∷ c) b [] = refl
begin_more c b (l ∷ ls) = ap (λ x. x ∷ ls) (append_snoc c b l)

last_cut : (c : List ℕ) → last_line (cut c) ≡ map cut (last_line c)
unfolding cut
last_cut [] = refl
last_cut (a ∷ c) = refl

-- what is collected with bytes begun before, whole or cut: the lines that they begin, cut
abbrev Collects : List (List ℕ) → List ℕ → List ℕ → Type 0
Collects e c bs = all_lines (taken (record { ended = e; begun = cut c }) bs) ≡ e ++ map cut (begin c (lines_of bs))

at_end : (e : List (List ℕ)) (c : List ℕ) → Collects e c []
unfolding taken lines_of begin
at_end e c = ap (λ x. e ++ x) (last_cut c)

at_newline : (e : List (List ℕ)) (c : List ℕ) (b : ℕ) (bs : List ℕ) → b ≡ newline → Collects (e ++ cut c ∷ []) [] bs → Collects e c (b ∷ bs)
unfolding cut begin
at_newline e c b bs q h = rw (taken_newline _ b bs q, lines_newline b bs q, append-nil) (h ∙ rw (begin_none, append_snoc))

at_byte : (e : List (List ℕ)) (c : List ℕ) (b : ℕ) (bs : List ℕ) → (b ≡ newline → ⊥) → Collects e (c ++ b ∷ []) bs → Collects e c (b ∷ bs)
at_byte e c b bs q h = rw (taken_byte _ b bs q, lines_byte b bs q, cut_again c (b ∷ []), ← begin_more c b (lines_of bs)) h

collects : (e : List (List ℕ)) (c bs : List ℕ) → Collects e c bs
collects e c [] = at_end e c
collects e c (b ∷ bs) = elim (ℕ_discrete b newline) [
  | yes q ↦ at_newline e c b bs q (collects (e ++ cut c ∷ []) [] bs)
  | no q ↦ at_byte e c b bs q (collects e (c ++ b ∷ []) bs)
]

all_pieces : (pieces : List (List ℕ)) → all_lines (taken_all nothing_yet pieces) ≡ map cut (lines_of (flatten pieces))
unfolding cut
all_pieces pieces = ap all_lines (at_once nothing_yet pieces) ∙ (collects [] [] (flatten pieces) ∙ ap (map cut) (begin_none (lines_of (flatten pieces))))

-- ---- cut lines are read alike

read_alike : (l : List ℕ) → line_of (cut l) ≡ line_of l
read_alike l =
    elim (dec_le (length l) 81) [
      | yes h ↦ ap line_of (cut_all l h)
      | no h ↦ let m = cut_length l in too_long (cut l) (omega arith) ∙ sym (too_long l (omega arith))
    ]

all_read : (pieces : List (List ℕ)) → map line_of (all_lines (taken_all nothing_yet pieces)) ≡ map line_of (lines_of (flatten pieces))
all_read pieces = ap (map line_of) (all_pieces pieces) ∙ go (lines_of (flatten pieces))
  where
    go : (ls : List (List ℕ)) → map line_of (map cut ls) ≡ map line_of ls
    go [] = refl
    go (l ∷ ls) = rw (read_alike l, go ls)

-- ---- a step of the code

kept_length : (l : List ℕ) → length (cut l) ≤ suc longest
kept_length l = omega (arith, cut_length l)

to_newline : (s : Collected) (bs : List ℕ) → length s.begun ≤ suc longest → has_newline bs ≡ true
    → taken s bs ≡ taken (line_ended (with_bytes s (up_to_newline bs))) (drop (used bs) bs)
to_newline s [] h e = absurd (false≢true (sym left_nothing.1 ∙ e))
to_newline s (b ∷ bs) h e =
    elim (ℕ_discrete b newline) [
      | yes q ↦ let l = left_newline b bs q in rw (l.0, l.2, append-nil, cut_all s.begun h) (taken_newline s b bs q)
      | no q ↦ let l = left_byte b bs q in
          rw (l.0, l.2, ← cut_more s.begun b (up_to_newline bs))
          (taken_byte s b bs q ∙ to_newline (with_bytes s (b ∷ [])) bs (kept_length (s.begun ++ b ∷ [])) (sym l.1 ∙ e))
    ]

to_end : (s : Collected) (bs : List ℕ) → length s.begun ≤ suc longest → has_newline bs ≡ false → taken s bs ≡ with_bytes s (up_to_newline bs)
to_end s [] h e = rw (left_nothing.0, append-nil, cut_all s.begun h) (taken_nothing s)
to_end s (b ∷ bs) h e =
    let q = first_other b bs e in
    let l = left_byte b bs q in
    rw (l.0, ← cut_more s.begun b (up_to_newline bs))
    (taken_byte s b bs q ∙ to_end (with_bytes s (b ∷ [])) bs (kept_length (s.begun ++ b ∷ [])) (rest_without b bs e))

-- ---- how much is used

used_inside : (bs : List ℕ) → used bs ≤ length bs
used_inside [] = omega (arith, left_nothing.2)
used_inside (b ∷ bs) =
    elim (ℕ_discrete b newline)
    [ yes q ↦ omega (arith, (left_newline b bs q).2) | no q ↦ omega (arith, (left_byte b bs q).2, used_inside bs) ]

used_some : (bs : List ℕ) → 0 < length bs → 0 < used bs
used_some [] h = absurd (omega arith)
used_some (b ∷ bs) h =
    elim (ℕ_discrete b newline) [ yes q ↦ omega (arith, (left_newline b bs q).2) | no q ↦ omega (arith, (left_byte b bs q).2) ]

used_less : (bs : List ℕ) → has_newline bs ≡ true → length bs - used bs < length bs
used_less [] e = absurd (false≢true (sym left_nothing.1 ∙ e))
used_less (b ∷ bs) e = omega (arith, used_some (b ∷ bs) (omega arith))

used_all : (bs : List ℕ) → has_newline bs ≡ false → used bs ≡ length bs
used_all [] e = left_nothing.2
used_all (b ∷ bs) e = (left_byte b bs (first_other b bs e)).2 ∙ ap suc (used_all bs (rest_without b bs e))

goes_on : (piece : List ℕ) (at : ℕ) (old : List ℕ) (held : ℕ) (r : Taken) (buffer : List ℕ)
    → at ≤ length piece → suc longest ≤ length old → Takes piece at old held r buffer
    → (r.next ≤ length piece) × (at < length piece → at < r.next) × (r.count ≤ suc longest) × (length buffer ≡ length old)
goes_on piece at old held r buffer i n w =
    let bs = drop at piece in
    let l = length-drop at piece in
    let kept = cut (take held old ++ up_to_newline bs) in
    let k : r.count ≤ 81 = omega (arith, w.holds.counted, kept_length (take held old ++ up_to_newline bs)) in
    (omega (arith, w.goes_on, used_inside bs), λ h. omega (arith, w.goes_on, used_some bs (omega arith)), k, holds_length old kept buffer r.count w.holds (omega arith))

line_goes_on : (piece old : List ℕ) (rest : Option (Bor (List ℕ))) (line : List ℕ) → TakesLine piece old rest line
    → IfSome rest (λ r. length r.now < length piece) × (length line ≤ suc longest)
line_goes_on piece old rest line w = (shorter rest w.goes_on, rw w.holds (kept_length (old ++ up_to_newline piece)))
  where
    shorter : (rest : Option (Bor (List ℕ)))
        → MatchOption rest (has_newline piece ≡ false) (λ r. (has_newline piece ≡ true) × (r.now ≡ drop (used piece) piece))
        → IfSome rest (λ r. length r.now < length piece)
    shorter None w = tt
    shorter (Some r) w = rw (w.1, length-drop (used piece) piece) (used_less piece w.0)

-- ---- a line in a buffer

-- taken from a place of a piece on, it stands at the start of the buffer that had the bytes before it
module _ (piece old line : List ℕ) (at held : ℕ) (h : at ≤ length piece) where
  in_buffer : (rest : Option (Bor (List ℕ))) → TakesLine (drop at piece) (take held old) rest line
      → Holds old (cut (take held old ++ up_to_newline (drop at piece))) (line ++ drop (length line) old) (length line)
  in_buffer rest w = rw w.holds (record { same = refl; counted = refl })

  pub takes_to_newline : (rest : Bor (List ℕ)) → TakesLine (drop at piece) (take held old) (Some rest) line
      → Takes piece at old held (record { count = length line; next = length piece - length rest.now; ended = true }) (line ++ drop (length line) old)
  takes_to_newline rest w =
      let bs = drop at piece in
      let l : length rest.now ≡ length bs - used bs = rw (w.goes_on.1, length-drop (used bs) bs) refl in
      record { holds = in_buffer (Some rest) w; has_ended = sym w.goes_on.0; goes_on = omega (arith, l, length-drop at piece, used_inside bs) }

  pub takes_to_end : TakesLine (drop at piece) (take held old) None line
      → Takes piece at old held (record { count = length line; next = length piece; ended = false }) (line ++ drop (length line) old)
  takes_to_end w =
      let bs = drop at piece in
      record { holds = in_buffer None w; has_ended = sym w.goes_on; goes_on = omega (arith, length-drop at piece, used_all bs w.goes_on) }

pub piece_laws : PieceLaws
piece_laws = record {
  two_pieces = two_pieces;
  all_pieces = all_pieces;
  read_alike = read_alike;
  all_read = all_read;
  to_newline = to_newline;
  to_end = to_end;
  used_inside = used_inside;
  used_some = used_some;
  used_all = used_all;
  held_bytes = held_bytes;
  kept_length = kept_length;
  goes_on = goes_on;
  line_goes_on = line_goes_on;
}
