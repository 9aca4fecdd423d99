use Rattle.std.proofs.Common.{rules}
use Rattle.lines.proofs.Places.{digit_none, digit_here, digit_other}
use Rattle.lines.proofs.field.digit.Goals as goal

pub returns-in_err-b : goal.returns-in_err-b
returns-in_err-b c = search (rules, digit_none)

pub returns-then-is_ascii_digit : goal.returns-then-is_ascii_digit
returns-then-is_ascii_digit c =
    let w = c.if-is_ascii_digit.ensures.cases in
    rw c.from.ensures (digit_here _ _ _ c.in_ok-b.ensures.cases.0 w.0 w.1)

pub returns-else-is_ascii_digit : goal.returns-else-is_ascii_digit
returns-else-is_ascii_digit c = search (rules, digit_other)
