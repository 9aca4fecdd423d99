-- Reading a line: each kind is tried in turn. specs/Laws.antt (`LineLaws`) says that this reads the format of specs/Line.antt, and nothing else.
use Rattle.std.specs.Prelude.{Bool, true, false, cond, ◌&&◌, List, [], ◌∷◌, map, ℕ, ◌+◌, ◌-◌, ◌*◌, ◌^◌, length, drop, eqb, leb, ltb, Option, Some, None}
use Prim.Native.String.{String}
use Rattle.lines.specs.Line.{parts, bytes}
use Rattle.lines.specs.declared.line.Line.{Line}
use Rattle.lines.specs.declared.line.Line.TheVariants.{Open, Claim, Fill, Commit, Abandon, Remove, Has, List as ListOf, Retire}

-- the value of the digit that bytes begin with, or 10 where they begin with none
unfoldable pub digit_at : List ℕ → ℕ
digit_at [] = 10
digit_at (b ∷ bs) = cond (leb 48 b && leb b 57) (b - 48) 10

-- may digit d stand behind the number n? Not behind a leading zero, and not where the number would be above 2^64 − 1
abbrev pub may_follow : ℕ → ℕ → Bool
may_follow n d = ltb 0 n && ltb (10 * n + d) (2 ^ 64)

-- the number whose digits so far are n, with all the digits that bytes begin with, and the bytes behind it
unfoldable pub number_from : ℕ → List ℕ → Option (ℕ × List ℕ)
number_from n [] = Some (n, [])
number_from n (b ∷ bs) =
    let d = digit_at (b ∷ bs) in
    cond (ltb d 10) (cond (may_follow n d) (number_from (10 * n + d) bs) None) (Some (n, b ∷ bs))

-- the number that bytes begin with, and the bytes behind it
unfoldable pub number : List ℕ → Option (ℕ × List ℕ)
number bs = cond (ltb (digit_at bs) 10) (number_from (digit_at bs) (drop 1 bs)) None

-- do bytes begin with a text?
unfoldable pub begins : List ℕ → List ℕ → Bool
begins [] bs = true
begins (t ∷ ts) [] = false
begins (t ∷ ts) (b ∷ bs) = eqb t b && begins ts bs

-- a text and a number, and the bytes behind them
unfoldable pub field : List ℕ → List ℕ → Option (ℕ × List ℕ)
field text bs = cond (begins text bs) (number (drop (length text) bs)) None

-- a line that waits for its numbers, one for each text
abbrev pub Awaits : List (List ℕ) → Type 0
Awaits [] = Line
Awaits (t ∷ ts) = ℕ → Awaits ts

-- what is read behind a number, where there is one
abbrev pub and_then : Option (ℕ × List ℕ) → (ℕ → List ℕ → Option Line) → Option Line
and_then None f = None
and_then (Some p) f = f p.0 p.1

-- the line that bytes are, with the numbers found behind the texts; nothing may follow the last
unfoldable pub read_as : (texts : List (List ℕ)) → Awaits texts → List ℕ → Option Line
read_as [] l [] = Some l
read_as [] l (b ∷ bs) = None
read_as (t ∷ ts) f bs = and_then (field t bs) (λ n rest. read_as ts (f n) rest)

-- a kind of line: its texts, and the line with the numbers behind them
pub record Kind : Type 0 where
  pub texts : List (List ℕ)
  pub line : Awaits texts

-- the texts of a line
abbrev pub texts_of : Line → List (List ℕ)
texts_of l = map (λ (p : String × ℕ). bytes p.0) (parts l)

-- the kind that a line is of: its numbers do not matter
abbrev pub kind : (l : Line) → Awaits (texts_of l) → Kind
kind l f = record { texts = texts_of l; line = f }

-- the nine kinds
abbrev pub kinds : List Kind
kinds =
    kind (Open 0) Open ∷ kind (Claim 0 0 0) Claim ∷ kind (Fill 0) Fill ∷ kind (Commit 0) Commit ∷ kind (Abandon 0) Abandon
    ∷ kind (Remove 0 0) Remove ∷ kind (Has 0 0) Has ∷ kind (ListOf 0) ListOf ∷ kind (Retire 0) Retire ∷ []

-- a line that was read, or what another reading gives
abbrev pub or_else : Option Line → Option Line → Option Line
or_else None o = o
or_else (Some l) o = Some l

-- the first of some kinds that bytes can be read as
unfoldable pub read_first : List Kind → List ℕ → Option Line
read_first [] bs = None
read_first (k ∷ ks) bs = or_else (read_as k.texts k.line bs) (read_first ks bs)

-- the most bytes that a line has
abbrev pub longest : ℕ
longest = 80

-- the line that bytes without a newline are; none where they are too many, or of none of the nine kinds
unfoldable pub line_of : List ℕ → Option Line
line_of bs = cond (ltb longest (length bs)) None (read_first kinds bs)
