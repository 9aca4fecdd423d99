-- What commands show, and which operations only read.
use Rattle.std.specs.Prelude.{ℕ, List, [], take, drop, ⊤}
use Rattle.cases.specs.declared.command.Operation.{Operation}
use Rattle.cases.specs.declared.command.Operation.TheVariants.{Has, List as ListOf, Convert, Translate}
use Rattle.cases.specs.declared.outcome.Outcome.{Outcome}
use Rattle.cases.specs.declared.outcome.Outcome.TheVariants.{Words as WordsShown}
use Rattle.cases.specs.declared.words.Words.{Words}
use Rattle.cases.specs.declared.words.Words.TheVariants.{Show}

-- the words that come out
abbrev pub shown : Outcome → List ℕ
shown (WordsShown words) = words.now
shown _ = []

-- the words of a buffer that a command shows
abbrev pub shows : Words → List ℕ → List ℕ
shows (Show place count) buffer = take count (drop place buffer)
shows _ buffer = []

abbrev pub OnlyReads : Operation → Type 0
OnlyReads (Has _ _) = ⊤
OnlyReads (ListOf _) = ⊤
OnlyReads Convert = ⊤
OnlyReads (Translate _) = ⊤
OnlyReads _ = ⊥
