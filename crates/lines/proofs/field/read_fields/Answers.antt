use mathlib.Core.Path.{refl, sym, ◌∙◌, ap}
use Rattle.std.proofs.Common.{arith, length-set}
use Rattle.std.proofs.lemmas.List.{length-map, length-replicate}
use Rattle.lines.specs.Found.{texts_in, with_found}
use Rattle.lines.proofs.Fields.{read_on, next_missing, next_found, all_found}
use Rattle.lines.proofs.field.read_fields.Goals as goal

pub loop-i-init : goal.loop-i-init
unfolding read_on
loop-i-init g c = (length-replicate _ _ ∙ sym c.requires, λ f. refl)

pub returns-in_err-n : goal.returns-in_err-n
returns-in_err-n g c f =
    c.loop-i.invariant.1 f
    ∙ next_missing _ f _ _ _ _ (omega arith) (omega arith) c.in_err-n.ensures
    ∙ sym (ap (with_found (texts_in c.args.texts.now) f) c.from_residual.ensures)

pub loop-i-preserved : goal.loop-i-preserved
loop-i-preserved g c = (
  length-set _ _ _ ∙ c.loop-i.invariant.0,
  λ f. c.loop-i.invariant.1 f ∙ next_found _ f _ _ _ _ (omega arith) (omega arith) _ _ c.in_ok-n.ensures,
)

pub returns : goal.returns
returns g c f =
    let same = c.loop-i.invariant.0 ∙ sym (length-map c.args.texts.now (λ t. t.now)) in
    c.loop-i.invariant.1 f
    ∙ rw (c.then_some.ensures, c.is_empty.ensures) (all_found _ f c.loop-i.numbers c.loop-i.rest.now _ same (omega arith))
