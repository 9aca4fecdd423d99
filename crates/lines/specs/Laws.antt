-- What is proved of this crate's definitions: the statements alone. proofs/Laws.antt has a proof of each record.
use Rattle.std.specs.Prelude.{◌≡◌, true, false, Option, Some, None, IfSome, ℕ, suc, ◌+◌, ◌/◌, ◌%◌, ◌^◌, ◌≤◌, ◌<◌, length, take, drop}
use denote.Ref.{Bor}
use mathlib.Core.List.{List, [], ◌∷◌, ◌++◌, map, flatten}
use Rattle.lines.specs.Decimal.{decimal}
use Rattle.lines.specs.Line.{shown, Fits}
use Rattle.lines.specs.Reading.{longest, line_of}
use Rattle.lines.specs.Input.{newline, lines_of, cut, Collected, nothing_yet, line_ended, with_bytes, taken, taken_all, all_lines, up_to_newline, has_newline, used, Holds, Takes, TakesLine}
use Rattle.lines.specs.declared.input.Taken.{Taken}
use Rattle.lines.specs.declared.line.Line.{Line}

-- ---- numbers

pub record DecimalLaws : Type 0 where
  pub one_digit : (n : ℕ) → n < 10 → decimal n ≡ (48 + n) ∷ []
  pub more_digits : (n : ℕ) → 10 ≤ n → decimal n ≡ decimal (n / 10) ++ (48 + n % 10) ∷ []
  pub at_most : (k n : ℕ) → 0 < k → n < 10 ^ k → length (decimal n) ≤ k
  pub at_most_20 : (n : ℕ) → n < 2 ^ 64 → length (decimal n) ≤ 20

-- ---- lines

-- `line_of` reads the format that `shown` writes, and nothing else
pub record LineLaws : Type 0 where
  pub shown_is_read : (l : Line) → Fits l → length (shown l) ≤ longest → line_of (shown l) ≡ Some l
  pub read_was_shown : (bs : List ℕ) (l : Line) → line_of bs ≡ Some l → (shown l ≡ bs) × Fits l × (length bs ≤ longest)
  pub empty_is_none : line_of [] ≡ None

-- ---- input

-- what `lines_of` gives: a line for each newline, and one for bytes behind the last
pub record InputLaws : Type 0 where
  pub newline_ends : (l rest : List ℕ) → has_newline l ≡ false → lines_of (l ++ newline ∷ rest) ≡ l ∷ lines_of rest
  pub end_ends : (b : ℕ) (l : List ℕ) → has_newline (b ∷ l) ≡ false → lines_of (b ∷ l) ≡ (b ∷ l) ∷ []
  pub no_input : lines_of [] ≡ []

-- however an input is split into pieces, the lines collected from them are its lines, cut; they are read as the whole lines are
pub record PieceLaws : Type 0 where
  pub two_pieces : (s : Collected) (xs ys : List ℕ) → taken s (xs ++ ys) ≡ taken (taken s xs) ys
  pub all_pieces : (pieces : List (List ℕ)) → all_lines (taken_all nothing_yet pieces) ≡ map cut (lines_of (flatten pieces))
  pub read_alike : (l : List ℕ) → line_of (cut l) ≡ line_of l
  pub all_read : (pieces : List (List ℕ)) → map line_of (all_lines (taken_all nothing_yet pieces)) ≡ map line_of (lines_of (flatten pieces))
  -- what the code takes from a piece in one call is a step of that: up to a newline and on behind it, or all that is left
  pub to_newline : (s : Collected) (bs : List ℕ) → length s.begun ≤ suc longest → has_newline bs ≡ true
      → taken s bs ≡ taken (line_ended (with_bytes s (up_to_newline bs))) (drop (used bs) bs)
  pub to_end : (s : Collected) (bs : List ℕ) → length s.begun ≤ suc longest → has_newline bs ≡ false
      → taken s bs ≡ with_bytes s (up_to_newline bs)
  pub used_inside : (bs : List ℕ) → used bs ≤ length bs
  pub used_some : (bs : List ℕ) → 0 < length bs → 0 < used bs
  pub used_all : (bs : List ℕ) → has_newline bs ≡ false → used bs ≡ length bs
  -- the bytes that a buffer holds, as many as are counted
  pub held_bytes : (old bytes buffer : List ℕ) (count : ℕ) → Holds old bytes buffer count → take count buffer ≡ bytes
  pub kept_length : (l : List ℕ) → length (cut l) ≤ suc longest
  -- a call of the code goes on in the piece, stays inside it and inside the buffer
  pub goes_on : (piece : List ℕ) (at : ℕ) (old : List ℕ) (held : ℕ) (r : Taken) (buffer : List ℕ)
      → at ≤ length piece → suc longest ≤ length old → Takes piece at old held r buffer
      → (r.next ≤ length piece) × (at < length piece → at < r.next) × (r.count ≤ suc longest) × (length buffer ≡ length old)
  -- so does one that lends the bytes behind the newline, and the line keeps inside its room
  pub line_goes_on : (piece old : List ℕ) (rest : Option (Bor (List ℕ))) (line : List ℕ) → TakesLine piece old rest line
      → IfSome rest (λ r. length r.now < length piece) × (length line ≤ suc longest)
