use Rattle.std.proofs.Common.{◌≡◌, ℕ, length}
use Rattle.tree.specs.Layout.{reel_at}
use Rattle.conversion.specs.Written.{WrittenTo}
use Rattle.conversion.proofs.conversion.put_slots.Given as goal

abbrev pub invariant-loop-s : goal.invariant-loop-s
invariant-loop-s l =
    (length l.copy ≡ length l.image) × ((e : ℕ) → WrittenTo e l.g l.image l.fn.copy 64 → WrittenTo e l.g l.image l.copy (reel_at l.s))
