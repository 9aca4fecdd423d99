use Rattle.std.proofs.Common.{◌+◌, ◌*◌}
use Rattle.memory.specs.Words.{reads}
use Rattle.groups.proofs.Searches.{Searched}
use Rattle.groups.proofs.search.+search_group_search_node.Given as goal

-- a group of children has one level less left than their parent
abbrev pub decreases-search_group : goal.decreases-search_group
decreases-search_group l = 2 * l.left + 1

abbrev pub decreases-search_node : goal.decreases-search_node
decreases-search_node l = 2 * l.left

abbrev pub invariant-search_group-loop-c : goal.invariant-search_group-loop-c
invariant-search_group-loop-c l = Searched l.g (reads l.image) l.left l.start l.count l.c
