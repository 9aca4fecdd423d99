use Rattle.std.proofs.Common.{◌+◌, ◌*◌}
use Rattle.memory.specs.Words.{reads}
use Rattle.walks.proofs.ListingsGroups.{Group}
use Rattle.walks.proofs.listing.+list_group_list_node.Given as goal

-- a group of children has one level less left than their parent
abbrev pub decreases-list_group : goal.decreases-list_group
decreases-list_group l = 2 * l.left + 1

abbrev pub decreases-list_node : goal.decreases-list_node
decreases-list_node l = 2 * l.left

abbrev pub invariant-list_group-loop-c : goal.invariant-list_group-loop-c
invariant-list_group-loop-c l = Group l.g (reads l.image) l.left l.start l.count l.fn.list l.list l.written l.c
