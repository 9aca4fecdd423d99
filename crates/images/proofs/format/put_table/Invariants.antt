use Rattle.std.proofs.Common.{◌≡◌, ◌+◌}
use Rattle.tree.specs.Memory.{stores, apply}
use Rattle.tree.specs.Lists.{range}
use Rattle.tree.specs.Layout.{table_at}
use Rattle.tree.specs.Fingerprint.{packed}
use Rattle.images.proofs.Formatting.{puts}
use Rattle.images.proofs.format.put_table.Given as goal

abbrev pub invariant-loop-j : goal.invariant-loop-j
invariant-loop-j l = l.image ≡ apply l.initial.image (stores (puts (λ i. table_at + i) (packed l.table) (range 0 l.j)))
