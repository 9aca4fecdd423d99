use Rattle.std.proofs.Common.{◌≡◌, ℕ, ◌+◌, length}
use Rattle.tree.specs.Layout.{node_at}
use Rattle.conversion.specs.Written.{WrittenTo}
use Rattle.conversion.proofs.conversion.put_frames.Given as goal

abbrev pub invariant-loop-p : goal.invariant-loop-p
invariant-loop-p l =
    (length l.copy ≡ length l.image)
    × ((e : ℕ) → WrittenTo e l.g l.image l.fn.copy (node_at l.g l.node.number + 16) → WrittenTo e l.g l.image l.copy (l.at + l.p))
