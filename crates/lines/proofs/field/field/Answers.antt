use mathlib.Core.Path.{sym, ◌∙◌, ap}
use Rattle.lines.specs.Reading.{number}
use Rattle.lines.specs.Found.{found}
use Rattle.lines.proofs.Places.{begins_tested}
use Rattle.lines.proofs.Fields.{text_missing, text_found}
use Rattle.lines.proofs.field.field.Goals as goal

pub returns-in_err-strip_prefix : goal.returns-in_err-strip_prefix
returns-in_err-strip_prefix c = ap found c.from_residual.ensures ∙ sym (text_missing _ _ (begins_tested _ _ ∙ c.in_err-strip_prefix.ensures.cases))

pub returns : goal.returns
returns c =
    let w = c.in_ok-strip_prefix.ensures.cases in
    let here = text_found _ _ (begins_tested _ _ ∙ w.0) in
    c.number.ensures ∙ (ap number w.1 ∙ sym here)
