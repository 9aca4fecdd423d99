use Rattle.paths.proofs.PathSteps.{number_kept, lookups, found_here, found_nowhere}
use Rattle.paths.proofs.descent.found_on.Goals as goal

pub returns-then-found-ne0 : goal.returns-then-found-ne0
returns-then-found-ne0 c = number_kept _ _ c.if-found-ne0.true

pub returns-then-place-lt64 : goal.returns-then-place-lt64
returns-then-place-lt64 c = found_here (lookups _ _ _) c.if-found-ne0.false _ _ c.found_place-place.ensures c.if-place-lt64.true c.if-place-lt64.true

pub returns : goal.returns
returns c = found_nowhere (lookups _ _ _) c.if-found-ne0.false _ _ c.found_place-place.ensures c.if-place-lt64.false
