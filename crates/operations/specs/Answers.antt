-- The paper's numbers for what an operation answers.
use Rattle.std.specs.Prelude.{ℕ, Result, Ok, Err}
use Rattle.operations.specs.declared.answer.Refusal.{Refusal}
use Rattle.operations.specs.declared.answer.Refusal.TheVariants.{Image, Edition, Buffer, Malformed, NoReel, AlreadyOpen, NoSlot, NoRun, FrameHeld, FrameNotHeld, HeadNumber, HeadState, Busy, ListShort, GivenTable, OwnTable, NoGroup}

-- the paper's refusals
abbrev pub number_of : Refusal → ℕ
number_of Image = 1
number_of Edition = 2
number_of Buffer = 3
number_of Malformed = 4
number_of NoReel = 5
number_of AlreadyOpen = 6
number_of NoSlot = 7
number_of NoRun = 8
number_of FrameHeld = 9
number_of FrameNotHeld = 10
number_of HeadNumber = 11
number_of HeadState = 12
number_of Busy = 13
number_of ListShort = 14
number_of GivenTable = 16
number_of OwnTable = 17
number_of NoGroup = 18

-- the answer's number, and the count handed back: 0 on a refusal
abbrev pub answer_of : Result ℕ Refusal → ℕ
answer_of (Ok n) = 0
answer_of (Err why) = number_of why

abbrev pub count_of : Result ℕ Refusal → ℕ
count_of (Ok n) = n
count_of (Err why) = 0
