use Rattle.std.proofs.Common.{◌+◌, ◌*◌}
use Rattle.memory.specs.Words.{reads}
use Rattle.settled.proofs.SettledGroups.{Passed}
use Rattle.settled.proofs.frames.+settled_group_settled_tree.Given as goal

-- a group of children has one level less left than their parent
abbrev pub decreases-settled_group : goal.decreases-settled_group
decreases-settled_group l = 2 * l.t.left + 1

abbrev pub decreases-settled_tree : goal.decreases-settled_tree
decreases-settled_tree l = 2 * l.t.left

abbrev pub invariant-settled_group-loop-c : goal.invariant-settled_group-loop-c
invariant-settled_group-loop-c l = Passed l.g (reads l.image) l.t.left l.t.node l.count l.t.unit l.t.suffix l.own l.c
