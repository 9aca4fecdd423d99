use mathlib.Core.Path.{◌∙◌}
use Rattle.answer_lines.proofs.Answers.{frame_parts}
use Rattle.answer_lines.proofs.answer.frame_line.Goals as goal

pub returns-clause-holds : goal.returns-clause-holds
returns-clause-holds c = c.push.ensures ∙ rw (c.put_part.ensures.holds, c.new-text.ensures) (frame_parts _)
