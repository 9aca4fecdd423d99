use Rattle.tree.specs.Layout.{node_at}
use Rattle.conversion.specs.Written.{WrittenTo}
use Rattle.conversion.proofs.conversion.convert_image.Given as goal

abbrev pub invariant-loop-n : goal.invariant-loop-n
invariant-loop-n l = WrittenTo l.other l.g l.image l.copy (node_at l.g l.n)
