-- What Claim and its first tests answer.
use Rattle.std.specs.Prelude.{ℕ, Result, Ok, Err}
use Rattle.operations.specs.declared.answer.Refusal.{Refusal}
use Rattle.operations.specs.declared.answer.Refusal.TheVariants as refusals
use Rattle.operations.specs.declared.answer.HeadDone.{HeadDone}
use Rattle.operations.specs.Answers.{number_of}
use Rattle.paths.specs.declared.descent.NoVacancy.{NoVacancy}
use Rattle.paths.specs.declared.descent.NoVacancy.TheVariants.{Malformed, Full, Held}
use Rattle.claims.specs.declared.claim.ClaimDone.{ClaimDone}

-- what Claim's tests of head and reel come to: 0, or their number
abbrev pub admission_number : Result (Unit {0}) Refusal → ℕ
admission_number (Ok u) = 0
admission_number (Err why) = number_of why

-- no room on a frame's path
abbrev pub refusal_of : NoVacancy → Refusal
refusal_of Malformed = refusals.Malformed
refusal_of Full = refusals.Malformed
refusal_of Held = refusals.FrameHeld

-- the head's part of the answer, and the places left, of which a refusal has none to tell
abbrev pub head_done : Result ClaimDone Refusal → Result HeadDone Refusal
head_done (Ok d) = Ok d.head
head_done (Err why) = Err why

abbrev pub left_of : Result ClaimDone Refusal → ℕ
left_of (Ok d) = d.left
left_of (Err why) = 0
