-- Carry out: a script of words applied to an image.
use Rattle.std.specs.Prelude.{Bool, true, false, List, ℕ, length, Result, Ok, Err, ⊤}
use Rattle.std.proofs.Math.Option.{Option, none, some}
use Rattle.memory.specs.Script.{Entry, entry_of, decode}
use Rattle.memory.specs.Crash.{apply}
use Rattle.memory.specs.declared.apply.Refused.{Refused}

-- the paper's number for an answer of the code: 3 where the words are no script
abbrev pub number_of : Result ⊤ Refused → ℕ
number_of (Ok done) = 0
number_of (Err refused) = 3

-- the answer's number, and the image as it is left
pub record Outcome : Type 0 where
  pub answer : ℕ
  pub image : List ℕ

abbrev pub outcome : ℕ → List ℕ → Outcome
outcome a m = record { answer = a; image = m }

-- the entries applied, or nothing written where there are none
abbrev pub applied : List ℕ → Option (List Entry) → Outcome
applied m none = outcome 3 m
applied m (some es) = outcome 0 (apply m es)

unfoldable pub carry_out : List ℕ → List ℕ → Outcome
carry_out m script = applied m (decode (length m) script)

-- ---- its two passes

abbrev pub is_some : {A : Type 0} → Option A → Bool
is_some none = false
is_some (some a) = true

-- what the check pass tests: two words, and a whole script
unfoldable pub is_entry : ℕ → ℕ → ℕ → Bool
is_entry n i v = is_some (entry_of n i v)

unfoldable pub is_script : ℕ → List ℕ → Bool
is_script n script = is_some (decode n script)

-- what the write pass leaves
unfoldable pub made_stores : List ℕ → List ℕ → List ℕ
made_stores m script = (carry_out m script).image
