use mathlib.Core.Path.{sym}
use Rattle.std.proofs.Common.{rules}
use Rattle.cases.specs.declared.buffers.Name.TheVariants.{Image, Map, Heads, Scratch, Script, List as ListBuffer, Table, Copy, Module}
use Rattle.cases.proofs.Reading.{is_ones, is_parsed}
use Rattle.cases.proofs.values.named.Goals as goal

pub returns-then-eq : goal.returns-then-eq
returns-then-eq c = sym (is_ones _ (sym c.if-eq.ensures))

pub returns : goal.returns
returns c =
    is_parsed _ _ _ _ (sym c.if-eq.ensures) c.parse.ensures.value c.ok.ensures.value c.map.ensures.cases (λ x n p. elim x [
      | Image ↦ search rules
      | Map ↦ search rules
      | Heads ↦ search rules
      | Scratch ↦ search rules
      | Script ↦ search rules
      | ListBuffer ↦ search rules
      | Table ↦ search rules
      | Copy ↦ search rules
      | Module ↦ search rules
    ])
