use Rattle.paths.proofs.RoomSteps.{room_clear, room_small, room_large}
use Rattle.paths.proofs.descent.room_at.Goals as goal

pub returns-in-Some : goal.returns-in-Some
returns-in-Some c = room_clear _ _ _ _ _ c.in-Some.is

pub returns-then-size-lt64 : goal.returns-then-size-lt64
returns-then-size-lt64 c = room_small _ _ _ _ _ c.in_default.is c.word_of-size.ensures c.if-size-lt64.true

pub returns : goal.returns
returns c = room_large _ _ _ _ _ c.in_default.is c.word_of-size.ensures c.if-size-lt64.false
