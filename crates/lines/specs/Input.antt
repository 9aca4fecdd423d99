-- Lines of an input: all of them at once, and collected from its pieces.
use Rattle.std.specs.Prelude.{◌≡◌, Bool, true, false, cond, ◌||◌, List, [], ◌∷◌, ◌++◌, ℕ, suc, ◌+◌, length, take, drop, eqb, Option, MatchOption}
use denote.Ref.{Bor}
use Rattle.lines.specs.Reading.{longest}
use Rattle.lines.specs.declared.input.Taken.{Taken}

abbrev pub newline : ℕ
newline = 10

-- ---- the whole input

-- a byte in front of lines: it begins the first of them, or the only one where there are none
abbrev pub in_front : ℕ → List (List ℕ) → List (List ℕ)
in_front b [] = (b ∷ []) ∷ []
in_front b (l ∷ ls) = (b ∷ l) ∷ ls

-- a line ends at a newline or at the end of the input; nothing after the last newline is no line
unfoldable pub lines_of : List ℕ → List (List ℕ)
lines_of [] = []
lines_of (b ∷ bs) = cond (eqb b newline) ([] ∷ lines_of bs) (in_front b (lines_of bs))

-- ---- collecting

-- what is kept of a line: one byte more than a line may have shows that it is too long
unfoldable pub cut : List ℕ → List ℕ
cut l = take (suc longest) l

-- the lines that have ended, and what is kept so far of the line that has not
pub record Collected : Type 0 where
  pub ended : List (List ℕ)
  pub begun : List ℕ

abbrev pub nothing_yet : Collected
nothing_yet = record { ended = []; begun = [] }

-- the line ends, and the next is empty yet
abbrev pub line_ended : Collected → Collected
line_ended s = record { ended = s.ended ++ s.begun ∷ []; begun = [] }

-- bytes more of the line
abbrev pub with_bytes : Collected → List ℕ → Collected
with_bytes s bs = record { ended = s.ended; begun = cut (s.begun ++ bs) }

-- a piece of input more, byte by byte
unfoldable pub taken : Collected → List ℕ → Collected
taken s [] = s
taken s (b ∷ bs) = taken (cond (eqb b newline) (line_ended s) (with_bytes s (b ∷ []))) bs

-- pieces of input, one after the other
unfoldable pub taken_all : Collected → List (List ℕ) → Collected
taken_all s [] = s
taken_all s (p ∷ ps) = taken_all (taken s p) ps

-- all lines, where the input ends here: bytes that no newline ended are a line too
abbrev pub last_line : List ℕ → List (List ℕ)
last_line [] = []
last_line (b ∷ bs) = (b ∷ bs) ∷ []

abbrev pub all_lines : Collected → List (List ℕ)
all_lines s = s.ended ++ last_line s.begun

-- ---- a step of it: what a piece has of one line

-- the bytes before the first newline
unfoldable pub up_to_newline : List ℕ → List ℕ
up_to_newline [] = []
up_to_newline (b ∷ bs) = cond (eqb b newline) [] (b ∷ up_to_newline bs)

unfoldable pub has_newline : List ℕ → Bool
has_newline [] = false
has_newline (b ∷ bs) = eqb b newline || has_newline bs

-- how many bytes those are, with the newline
unfoldable pub used : List ℕ → ℕ
used [] = 0
used (b ∷ bs) = cond (eqb b newline) 1 (suc (used bs))

-- a buffer that held other bytes has these at its start, so many
pub record Holds (old bytes buffer : List ℕ) (count : ℕ) : Type 0 where
  pub same : buffer ≡ bytes ++ drop (length bytes) old
  pub counted : count ≡ length bytes

-- the code took from a piece of input, at a place, what is left of a line, into a buffer that had the bytes before it
pub record Takes (piece : List ℕ) (at : ℕ) (old : List ℕ) (held : ℕ) (r : Taken) (buffer : List ℕ) : Type 0 where
  pub holds : Holds old (cut (take held old ++ up_to_newline (drop at piece))) buffer r.count
  pub has_ended : r.ended ≡ has_newline (drop at piece)
  pub goes_on : r.next ≡ at + used (drop at piece)

-- the code took from a piece of input what is left of a line, behind the bytes before it: up to a newline, and the bytes behind that are
-- handed back, or all of the piece
pub record TakesLine (piece old : List ℕ) (rest : Option (Bor (List ℕ))) (line : List ℕ) : Type 0 where
  pub holds : line ≡ cut (old ++ up_to_newline piece)
  pub goes_on : MatchOption rest (has_newline piece ≡ false) (λ r. (has_newline piece ≡ true) × (r.now ≡ drop (used piece) piece))
