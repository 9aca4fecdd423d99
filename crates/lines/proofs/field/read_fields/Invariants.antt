use Rattle.std.proofs.Common.{◌≡◌, length, take}
use Rattle.lines.specs.Reading.{Awaits, read_as}
use Rattle.lines.specs.Found.{texts_in}
use Rattle.lines.proofs.Fields.{read_on}
use Rattle.lines.proofs.field.read_fields.Given as goal

-- the numbers of the first texts are found
abbrev pub invariant-loop-i : goal.invariant-loop-i
invariant-loop-i g l =
    (length l.numbers ≡ length l.texts)
    × ((f : Awaits (texts_in l.texts)) → read_as (texts_in l.texts) f l.line ≡ read_on (texts_in l.texts) f (take l.i l.numbers) l.rest)
