use Rattle.std.proofs.Common.{refl, eq-eqb, ne_eqb, arith}
use Rattle.tree.specs.Convert.{other_edition}
use Rattle.conversion.proofs.conversion.other_edition.Goals as goal

pub returns-in-1 : goal.returns-in-1
unfolding other_edition
returns-in-1 c = rw (eq-eqb c.args.edition 1 c.in-1.is) refl

pub returns-in_default : goal.returns-in_default
unfolding other_edition
returns-in_default c = rw (ne_eqb c.args.edition 1 (λ q. omega arith)) refl
