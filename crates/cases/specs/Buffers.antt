-- The buffers' names: their numbers as values, and the words that stand for them.
use Rattle.std.specs.Prelude.{◌≡◌, ℕ, ◌<◌, List, [], ◌∷◌, None, Result, MatchResult, codes, bytes_eq, find}
use Rattle.cases.specs.declared.buffers.Name.{Name}
use Rattle.cases.specs.declared.buffers.Name.TheVariants.{Image, Map, Heads, Scratch, Script, List as ListBuffer, Table, Copy, Module}
use Rattle.cases.specs.declared.outcome.Mistake.{Mistake}

abbrev pub number_of : Name → ℕ
number_of Image = 0
number_of Map = 1
number_of Heads = 2
number_of Scratch = 3
number_of Script = 4
number_of ListBuffer = 5
number_of Table = 6
number_of Copy = 7
number_of Module = 8

abbrev pub word_of : Name → List ℕ
word_of Image = codes "image"
word_of Map = codes "map"
word_of Heads = codes "heads"
word_of Scratch = codes "scratch"
word_of Script = codes "script"
word_of ListBuffer = codes "list"
word_of Table = codes "table"
word_of Copy = codes "copy"
word_of Module = codes "module"

-- the buffer with this number, or a mistake where none has it
abbrev pub Numbered : ℕ → Result Name Mistake → Type 0
Numbered n r = MatchResult r (λ name. number_of name ≡ n) (λ _. 8 < n)

-- the buffers, in the sequence of their numbers
abbrev pub names : List Name
names = Image ∷ Map ∷ Heads ∷ Scratch ∷ Script ∷ ListBuffer ∷ Table ∷ Copy ∷ Module ∷ []

-- the buffer that this text names, or a mistake where it names none
abbrev pub Spelled : List ℕ → Result Name Mistake → Type 0
Spelled text r = MatchResult r (λ name. word_of name ≡ text) (λ _. find (λ name. bytes_eq text (word_of name)) names ≡ None)
