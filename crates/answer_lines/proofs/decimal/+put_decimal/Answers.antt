use Rattle.std.proofs.Common.{arith}
use Rattle.lines.proofs.Digits.{one_less, put_one, put_more}
use Rattle.answer_lines.proofs.decimal.+put_decimal.Goals as goal

pub returns-then-n-lt-TWO_DIGITS : goal.returns-then-n-lt-TWO_DIGITS
returns-then-n-lt-TWO_DIGITS t c = let w = put_one _ c.args.buffer.now (omega arith) (omega (arith, c.requires)) in record { buffer_after = w.0; value = w.1 }

-- after the call there is room for the last digit
pub bounds-buffer-k : goal.bounds-buffer-k
bounds-buffer-k t c = omega (arith, one_less _ c.ranges.n.fits, c.put_decimal-k.ensures.value, c.requires, c.put_decimal-k.auto.buffer)

pub returns : goal.returns
returns t c =
    let k = c.put_decimal-k in
    let w = put_more c.args.n k.result c.args.buffer.now k.new.buffer (omega arith) (omega (arith, one_less _ c.ranges.n.fits, k.ensures.value, c.requires))
    k.ensures.buffer_after k.ensures.value in
    record { buffer_after = w.0; value = w.1 }
