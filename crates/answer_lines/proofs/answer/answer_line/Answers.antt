use mathlib.Core.Path.{◌∙◌}
use Rattle.answer_lines.proofs.Answers.{answer_parts}
use Rattle.answer_lines.proofs.answer.answer_line.Goals as goal

pub returns-clause-holds : goal.returns-clause-holds
returns-clause-holds c =
    c.push.ensures
    ∙ rw (c.put_part-3.ensures.holds, c.put_part-2.ensures.holds, c.put_part.ensures.holds, c.new-line.ensures) (answer_parts _ _ _)
