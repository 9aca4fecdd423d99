use Rattle.std.proofs.Common.{◌-◌, ◌≡◌, ◌+◌, ◌*◌, length}
use Rattle.memory.specs.Words.{reads}
use Rattle.tree.specs.Path.{levels}
use Rattle.visits.specs.Walk.{group_stops, formed_at, walked}
use Rattle.visits.proofs.visit.+visit_group_visit_node.Given as goal

-- a group of children has one level less left than their parent
abbrev pub decreases-visit_group : goal.decreases-visit_group
decreases-visit_group l = 2 * l.left + 1

abbrev pub decreases-visit_node : goal.decreases-visit_node
decreases-visit_node l = 2 * l.left

-- the walk of the whole group goes on as that of its nodes from n on
abbrev pub invariant-visit_group-loop-n : goal.invariant-visit_group-loop-n
invariant-visit_group-loop-n l =
    (length l.pool ≡ length l.fn.pool)
    × (walked (formed_at l.g (reads l.image)) (group_stops l.g (reads l.image) l.left (levels - l.left) l.start l.count) l.fn.pool
    ≡ walked (formed_at l.g (reads l.image)) (group_stops l.g (reads l.image) l.left (levels - l.left) l.n (l.start + l.count - l.n)) l.pool)
