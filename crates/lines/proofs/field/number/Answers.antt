use mathlib.Core.Path.{sym, ◌∙◌, ap}
use Rattle.std.proofs.Common.{arith}
use Rattle.lines.specs.Found.{found}
use Rattle.lines.proofs.Numbers.{number_whole, number_none}
use Rattle.lines.proofs.Places.{number_first, number_after_zero, number_past, number_next, digit_shorter}
use Rattle.lines.proofs.field.number.Goals as goal

pub returns-in_err-value : goal.returns-in_err-value
returns-in_err-value c = ap found c.from_residual.ensures ∙ sym (number_none _ (c.in_err-value.ensures))

pub loop-d-init : goal.loop-d-init
loop-d-init c = number_first _ _ _ c.in_ok-value.ensures

pub returns-then-value-eq-LEADING_ZERO : goal.returns-then-value-eq-LEADING_ZERO
returns-then-value-eq-LEADING_ZERO c = sym (c.loop-d.invariant ∙ number_after_zero _ _ _ c.in-Some.ensures _ (omega arith))

pub returns-in_err-checked_mul : goal.returns-in_err-checked_mul
returns-in_err-checked_mul c =
    let none = number_past _ _ _ c.in-Some.ensures c.loop-d.value (omega (arith, c.in_err-checked_mul.ensures)) in
    ap found c.from_residual-in_err-checked_mul.ensures ∙ sym (c.loop-d.invariant ∙ none)

pub returns-in_err-value-2 : goal.returns-in_err-value-2
returns-in_err-value-2 c =
    let none = number_past _ _ _ c.in-Some.ensures c.loop-d.value (omega (arith, c.in_ok-checked_mul.ensures, c.in_err-value-2.ensures)) in
    ap found c.from_residual-in_err-value-2.ensures ∙ sym (c.loop-d.invariant ∙ none)

pub loop-d-smaller : goal.loop-d-smaller
loop-d-smaller c = digit_shorter _ _ _ c.in-Some.ensures

pub loop-d-preserved : goal.loop-d-preserved
loop-d-preserved c =
    c.loop-d.invariant
    ∙ number_next _ _ _ c.in-Some.ensures _ _ (omega arith)
    (omega (arith, c.in_ok-checked_mul.ensures, c.in_ok-value-2.ensures))
    (omega (arith, c.in_ok-checked_mul.ensures, c.in_ok-value-2.ensures))

pub returns : goal.returns
returns c = sym (c.loop-d.invariant ∙ number_whole _ _ (c.in_default.ensures))
