use mathlib.Core.Path.{◌∙◌, ap}
use Rattle.std.proofs.Common.{None, Some}
use Rattle.cases.specs.Values.{number_behind}
use Rattle.cases.proofs.Reading.{read_behind}
use Rattle.cases.proofs.values.number_behind.Goals as goal

pub returns-in_err-number : goal.returns-in_err-number
returns-in_err-number c =
    c.from_residual.ensures ∙ (read_behind _ _ None c.in_err-number.ensures ∙ ap (number_behind c.args.text.now) c.as_bytes.ensures.value)

pub returns : goal.returns
returns c = read_behind _ _ (Some c.in_ok-number.field-0) c.in_ok-number.ensures ∙ ap (number_behind c.args.text.now) c.as_bytes.ensures.value
