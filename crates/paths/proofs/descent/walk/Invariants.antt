use Rattle.std.proofs.Common.{◌≡◌, List, ℕ, ◌-◌, ◌/◌}
use Rattle.memory.specs.Words.{reads}
use Rattle.tree.specs.Fingerprint.{rule_of}
use Rattle.tree.specs.Lookup.{lookup}
use Rattle.paths.specs.Descent.{numbered, TellsLeft, clear_if, Along}
use Rattle.paths.proofs.descent.walk.Given as goal

abbrev pub invariant-loop-g : goal.invariant-loop-g
invariant-loop-g l =
    let m = reads l.image in
    (ns : List ℕ)
    × Along l.g m l.fn.level l.fn.n l.frame ns l.level l.n
    × (numbered l.found ≡ lookup (rule_of m) l.g m l.frame ns)
    × (numbered (l.clear / 64) ≡ clear_if l.g m l.seek ns)
    × TellsLeft l.g m l.clear

abbrev pub decreases-loop-g : goal.decreases-loop-g
decreases-loop-g l = 32 - l.level
