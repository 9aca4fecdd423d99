-- The format of the lines that the bench program reads: a line's text.
use Rattle.std.specs.Prelude.{List, [], ◌∷◌, ◌++◌, ℕ, ◌^◌, ◌<◌}
use Prim.Native.Char.{code}
use Prim.Native.String.{String, [] as []ˢ, ◌∷◌ as ◌∷ˢ◌}
use Rattle.lines.specs.Decimal.{decimal}
use Rattle.lines.specs.declared.line.Line.{Line}
use Rattle.lines.specs.declared.line.Line.TheVariants.{Open, Claim, Fill, Commit, Abandon, Remove, Has, List as ListOf, Retire}

-- a line in parts: each a text, and the number that stands behind it
abbrev pub parts : Line → List (String × ℕ)
parts (Open r) = ("op=open reel=", r) ∷ []
parts (Claim h r f) = ("op=claim head=", h) ∷ (" reel=", r) ∷ (" frame=", f) ∷ []
parts (Fill h) = ("op=fill head=", h) ∷ []
parts (Commit h) = ("op=commit head=", h) ∷ []
parts (Abandon h) = ("op=abandon head=", h) ∷ []
parts (Remove r f) = ("op=remove reel=", r) ∷ (" frame=", f) ∷ []
parts (Has r f) = ("op=has reel=", r) ∷ (" frame=", f) ∷ []
parts (ListOf r) = ("op=list reel=", r) ∷ []
parts (Retire r) = ("op=retire reel=", r) ∷ []

-- the bytes of a text
abbrev pub bytes : String → List ℕ
bytes []ˢ = []
bytes (c ∷ˢ s) = code c ∷ bytes s

-- parts as they are written, one after the other
abbrev pub written : List (String × ℕ) → List ℕ
written [] = []
written (p ∷ ps) = bytes p.0 ++ (decimal p.1 ++ written ps)

-- the text of a line, without its newline
unfoldable pub shown : Line → List ℕ
shown l = written (parts l)

-- every number is below 2^64
abbrev pub AllFit : List (String × ℕ) → Type 0
AllFit [] = Unit {0}
AllFit (p ∷ ps) = (p.1 < 2 ^ 64) × AllFit ps

abbrev pub Fits : Line → Type 0
Fits l = AllFit (parts l)
