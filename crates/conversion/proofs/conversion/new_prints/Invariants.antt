use Rattle.std.proofs.Common.{◌≡◌, ◌+◌, ◌*◌}
use Rattle.memory.specs.Words.{reads}
use Rattle.tree.specs.Fingerprint.{rule_for, bytes_to}
use Rattle.tree.specs.Convert.{new_print}
use Rattle.conversion.proofs.conversion.new_prints.Given as goal

abbrev pub invariant-loop-k : goal.invariant-loop-k
invariant-loop-k l = l.w ≡ bytes_to (λ i. new_print l.g (reads l.image) (rule_for l.rule.edition) l.node.number (8 * l.j + i)) l.k
