-- The commands as they are written: the word of each, and the values behind it.
use Rattle.std.specs.Prelude.{ℕ, List, [], ◌∷◌, codes}
use Rattle.cases.specs.Buffers.{number_of}
use Rattle.cases.specs.declared.command.Command.{Command}
use Rattle.cases.specs.declared.command.Command.TheVariants.{Operation as OperationOf, Crash, Words as WordsOf, Lend, Swap, Hold, Carry}
use Rattle.cases.specs.declared.command.Operation.{Operation}
use Rattle.cases.specs.declared.command.Operation.TheVariants.{Format, Recover, Apply, Replay, Scripted as ScriptedOf, Add, Has, List as ListOf, Convert, Translate}
use Rattle.cases.specs.declared.command.Scripted.{Scripted}
use Rattle.cases.specs.declared.command.Scripted.TheVariants.{Open, Claim, Fill, Commit, Abandon, Remove, Retire, Tidy}
use Rattle.cases.specs.declared.words.Words.{Words}
use Rattle.cases.specs.declared.words.Words.TheVariants.{Put, All, Ramp as RampOf, Show}

-- a word and the values behind it
pub record Text : Type 0 where
  pub word : List ℕ
  pub values : List ℕ

abbrev pub text : List ℕ → List ℕ → Text
text word values = record { word = word; values = values }

abbrev pub scripted_text : Scripted → Text
scripted_text (Open reel) = text (codes "open") (reel ∷ [])
scripted_text (Claim head reel frame) = text (codes "claim") (head ∷ reel ∷ frame ∷ [])
scripted_text (Fill head) = text (codes "fill") (head ∷ [])
scripted_text (Commit head) = text (codes "commit") (head ∷ [])
scripted_text (Abandon head) = text (codes "abandon") (head ∷ [])
scripted_text (Remove reel frame) = text (codes "remove") (reel ∷ frame ∷ [])
scripted_text (Retire reel) = text (codes "retire") (reel ∷ [])
scripted_text (Tidy reel) = text (codes "tidy") (reel ∷ [])

abbrev pub operation_text : Operation → Text
operation_text (Format slots nodes) = text (codes "format") (slots ∷ nodes ∷ [])
operation_text Recover = text (codes "recover") []
operation_text Apply = text (codes "apply") []
operation_text Replay = text (codes "replay") []
operation_text (ScriptedOf operation) = scripted_text operation
operation_text (Add frames) = text (codes "add") (frames.reel ∷ frames.first ∷ frames.step ∷ frames.count ∷ [])
operation_text (Has reel frame) = text (codes "has") (reel ∷ frame ∷ [])
operation_text (ListOf reel) = text (codes "list") (reel ∷ [])
operation_text Convert = text (codes "convert") []
operation_text (Translate words) = text (codes "translate") (words ∷ [])

-- behind the name of the buffer
abbrev pub words_text : Words → Text
words_text (Put place words) = text (codes "put") (place ∷ words.now)
words_text (All word) = text (codes "all") (word ∷ [])
words_text (RampOf ramp) = text (codes "ramp") (ramp.place ∷ ramp.step ∷ ramp.count ∷ ramp.word ∷ ramp.rise ∷ [])
words_text (Show place count) = text (codes "show") (place ∷ count ∷ [])

-- the maps of a crash are two
abbrev pub command_text : Command → Text
command_text (OperationOf operation) = operation_text operation
command_text (Crash reel maps) = text (codes "crash") (reel ∷ maps)
command_text (WordsOf buffer words) = text (words_text words).word (number_of buffer ∷ (words_text words).values)
command_text (Lend buffer words) = text (codes "lend") (number_of buffer ∷ words ∷ [])
command_text Swap = text (codes "swap") []
command_text Hold = text (codes "hold") []
command_text Carry = text (codes "carry") []
