-- What the answers of the code that reads fields mean.
use Rattle.std.specs.Prelude.{◌≡◌, ◌≤◌, ◌<◌, List, [], ◌∷◌, map, ℕ, ◌+◌, get_or, drop, Option, Some, None}
use denote.Ref.{Bor}
use Rattle.lines.specs.Reading.{digit_at, Awaits, read_as}
use Rattle.lines.specs.declared.line.Line.{Line}

-- the digit that bytes begin with, and the bytes behind it
abbrev pub IsDigit : List ℕ → Option (ℕ × Bor (List ℕ)) → Type 0
IsDigit bs None = 10 ≤ digit_at bs
IsDigit bs (Some p) = (p.0 ≡ digit_at bs) × (p.0 < 10) × (p.1.now ≡ drop 1 bs)

-- a number and the bytes behind it
abbrev pub found : Option (ℕ × Bor (List ℕ)) → Option (ℕ × List ℕ)
found None = None
found (Some p) = Some (p.0, p.1.now)

-- the texts in a slice of them
abbrev pub texts_in : List (Bor (List ℕ)) → List (List ℕ)
texts_in texts = map (λ t. t.now) texts

-- the line that waits for numbers, with these from a place of them on
abbrev pub given_from : ℕ → (texts : List (List ℕ)) → Awaits texts → List ℕ → Line
given_from i [] l ns = l
given_from i (t ∷ ts) f ns = given_from (i + 1) ts (f (get_or ns i 0)) ns

-- the line with the numbers found, where they are
abbrev pub with_found : (texts : List (List ℕ)) → Awaits texts → Option (List ℕ) → Option Line
with_found texts f None = None
with_found texts f (Some ns) = Some (given_from 0 texts f ns)

-- whatever line is made of the numbers behind the texts, it is made of those found
abbrev pub ReadsAs : List (List ℕ) → List ℕ → Option (List ℕ) → Type 0
ReadsAs texts bs r = (f : Awaits texts) → read_as texts f bs ≡ with_found texts f r
