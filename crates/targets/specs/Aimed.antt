-- What Fill, Commit and Abandon begin with: the first checks, then 11 for the head's number, 12 where it has no target that is wanted
-- of it, and 4 for a target that is outside.
use Rattle.std.specs.Prelude.{cond, List, ℕ, leb, Option, None, Some, Result, Ok, Err}
use Rattle.tree.specs.Test.{holds}
use Rattle.tree.specs.declared.layout.Geometry.{Geometry}
use Rattle.book.specs.declared.Target.{Target}
use Rattle.book.specs.Heads.{head_count}
use Rattle.book.specs.Checks.{outside}
use Rattle.operations.specs.declared.answer.Refusal.{Refusal}
use Rattle.operations.specs.declared.answer.Refusal.TheVariants.{HeadNumber, HeadState, Malformed}
use Rattle.operations.specs.Checked.{first_checks}
use Rattle.targets.specs.declared.Aim.{Aim}

abbrev pub aimed_in : Geometry → Option Target → Result Aim Refusal
aimed_in g None = Err HeadState
aimed_in g (Some t) = cond (holds (outside g t)) (Err Malformed) (Ok (record { g = g; t = t }))

abbrev pub aimed_past : ℕ → Option Target → Result Geometry Refusal → Result Aim Refusal
aimed_past h wanted (Err why) = Err why
aimed_past h wanted (Ok g) = cond (leb head_count h) (Err HeadNumber) (aimed_in g wanted)

unfoldable pub aimed : List ℕ → (script h : ℕ) → Option Target → Result Aim Refusal
aimed image script h wanted = aimed_past h wanted (first_checks image None None (Some script))
