use Rattle.std.proofs.Common.{ℕ, ◌*◌}
use Rattle.memory.specs.Words.{reads}
use Rattle.memory.specs.Laws.{NoneBelow}
use Rattle.tree.specs.Test.{is, eq, ◌and◌, holds}
use Rattle.tree.specs.Layout.{reel_at}
use Rattle.tree.specs.Slots.{filled}
use Rattle.nodes.proofs.reels.passed_in_eights.Given as goal

abbrev pub invariant-loop-eighth : goal.invariant-loop-eighth
invariant-loop-eighth l = NoneBelow (λ (s : ℕ). holds (is (filled (reads l.image) s) and eq (reads l.image (reel_at s)) l.reel)) (8 * l.eighth)
