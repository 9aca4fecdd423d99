-- The heads as the code has them: an array of records, read from the driver's words.
use Rattle.std.specs.Prelude.{Bool, List, map, ℕ, ◌<◌, get_or, ltb, Result, Ok, Err}
use Rattle.tree.specs.Memory.{first}
use Rattle.tree.specs.Lists.{up_to}
use Rattle.book.specs.declared.HeadState.{HeadState}
use Rattle.book.specs.declared.HeadState.TheVariants.{Idle}
use Rattle.book.specs.declared.Head.{Head}
use Rattle.book.specs.Heads.{head_count, head_at, names, with_head, idle_heads}
use Rattle.operations.specs.declared.answer.Refusal.{Refusal}
use Rattle.operations.specs.declared.answer.HeadDone.{HeadDone}
use Rattle.operations.specs.Answers.{number_of}

abbrev pub head_of : HeadState → Head
head_of x = record { state = x }

-- the records that the driver's words have
unfoldable pub heads_in : List ℕ → List Head
heads_in ws = map (λ h. head_of (head_at ws h)) (up_to head_count)

unfoldable pub state_in : List Head → ℕ → HeadState
state_in heads h = (get_or heads h (head_of Idle)).state

-- some head passes a test
unfoldable pub any_in : (HeadState → Bool) → List Head → Bool
any_in passes heads = ltb (first (λ h. passes (state_in heads h)) head_count) head_count

-- busy: some head that is not idle names the slot
abbrev pub busy_in : List Head → ℕ → Bool
busy_in heads s = any_in (names s) heads

abbrev pub head_answer_of : Result HeadDone Refusal → ℕ
head_answer_of (Ok d) = 0
head_answer_of (Err why) = number_of why

abbrev pub head_count_of : Result HeadDone Refusal → ℕ
head_count_of (Ok d) = d.count
head_count_of (Err why) = 0

-- the driver's words once the answer is known: head h's record is written, or nothing
abbrev pub heads_after : List ℕ → ℕ → Result HeadDone Refusal → List ℕ
heads_after ws h (Ok d) = with_head ws h d.state
heads_after ws h (Err why) = ws

-- and after a Format or Recover: every record is written idle, or nothing
abbrev pub heads_fresh : List ℕ → Result ℕ Refusal → List ℕ
heads_fresh ws (Ok n) = idle_heads
heads_fresh ws (Err why) = ws

-- a record that is to be written is one of the heads'
abbrev pub HeadInside : ℕ → Result HeadDone Refusal → Type 0
HeadInside h (Ok d) = h < head_count
HeadInside h (Err why) = Unit {0}
