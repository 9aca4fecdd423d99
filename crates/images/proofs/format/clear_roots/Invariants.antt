use Rattle.std.proofs.Common.{◌≡◌}
use Rattle.tree.specs.Memory.{stores, apply}
use Rattle.tree.specs.Lists.{range}
use Rattle.tree.specs.Layout.{root_at}
use Rattle.images.proofs.Formatting.{zeros}
use Rattle.images.proofs.format.clear_roots.Given as goal

abbrev pub invariant-loop-s : goal.invariant-loop-s
invariant-loop-s l = l.image ≡ apply l.initial.image (stores (zeros root_at (range 0 l.s)))
