use Rattle.std.proofs.Common.{rules}
use Rattle.paths.proofs.ClearSteps.{not_sought, clear_kept, clear_nowhere, clear_here, few}
use Rattle.paths.proofs.descent.clear_on.Goals as goal

pub returns-then-not-seek : goal.returns-then-not-seek
returns-then-not-seek c = not_sought _ _ _ _ c.requires.4 c.if-not-seek.true

pub returns-then-clear-ne0 : goal.returns-then-clear-ne0
returns-then-clear-ne0 c = clear_kept _ _ _ _ _ c.requires.4 c.if-clear-ne0.true

-- the numbers that the place's number is made of
pub overflow_add-result : goal.overflow_add-result
overflow_add-result c =
    let parts = few _ _ _ c.if-not-seek.false c.if-clear-ne0.false c.clear_place.ensures c.in-Some.is c.requires.2 c.requires.3 in search rules

pub overflow_add-result-in-Some : goal.overflow_add-result-in-Some
overflow_add-result-in-Some c =
    let parts = few _ _ _ c.if-not-seek.false c.if-clear-ne0.false c.clear_place.ensures c.in-Some.is c.requires.2 c.requires.3 in search rules

pub overflow_mul-result-in-Some : goal.overflow_mul-result-in-Some
overflow_mul-result-in-Some c =
    let parts = few _ _ _ c.if-not-seek.false c.if-clear-ne0.false c.clear_place.ensures c.in-Some.is c.requires.2 c.requires.3 in search rules

pub overflow_add-result-in-Some-2 : goal.overflow_add-result-in-Some-2
overflow_add-result-in-Some-2 c =
    let parts = few _ _ _ c.if-not-seek.false c.if-clear-ne0.false c.clear_place.ensures c.in-Some.is c.requires.2 c.requires.3 in search rules

pub returns-in-None : goal.returns-in-None
returns-in-None c = clear_nowhere _ _ _ c.if-not-seek.false c.if-clear-ne0.false c.clear_place.ensures c.in-None.is

pub returns-in-Some : goal.returns-in-Some
returns-in-Some c =
    clear_here _ _ _ c.if-not-seek.false c.if-clear-ne0.false c.clear_place.ensures c.in-Some.is c.requires.2 c.requires.3
