use Rattle.std.proofs.Common.{◌∙◌, ap}
use Rattle.settled.specs.Settled.{is_absent}
use Rattle.settled.proofs.SettledSteps.{known_formed, told_below}
use Rattle.settled.proofs.frames.absent_below.Goals as goal

pub step_from-requires : goal.step_from-requires
step_from-requires c = (c.requires.0, known_formed _ _ c.requires.1)

pub walk-requires : goal.walk-requires
walk-requires c = (c.requires.0, (told_below _ _ _ c.requires.1 c.step_from.ensures c.in-Some.is).0, c.requires.2)

pub returns-in-None : goal.returns-in-None
returns-in-None c = told_below _ _ _ c.requires.1 c.step_from.ensures c.in-None.is

pub returns-in-Some : goal.returns-in-Some
returns-in-Some c = c.is_absent.ensures ∙ ap is_absent c.walk.ensures ∙ (told_below _ _ _ c.requires.1 c.step_from.ensures c.in-Some.is).1
