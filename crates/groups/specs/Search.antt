-- What the search for an empty group answers, a node and its depth, or none.
use Rattle.std.specs.Prelude.{Bool, Option, None, Some, length}
use Rattle.std.proofs.Math.Option.{Option as MathOption, none, some}
use Rattle.memory.specs.Words.{Memory}
use Rattle.tree.specs.declared.layout.Geometry.{Geometry}
use Rattle.tree.specs.Subtree.{Visit}
use Rattle.tree.specs.Groups.{has_empty_group}
use Rattle.visits.specs.Walk.{Stop}
use Rattle.groups.specs.declared.search.FoundGroup.{FoundGroup}

-- a node of a walk has children that are all empty
unfoldable pub empty_group_at : Geometry → Memory → Stop → Bool
empty_group_at g m x = has_empty_group g m x.depth x.node

-- what is found among the nodes of a walk
abbrev pub search_at : MathOption Stop → Option FoundGroup
search_at none = None
search_at (some x) = Some (record { node = x.node; depth = x.depth })

-- the same among nodes by their ways
abbrev pub search_of : MathOption Visit → Option FoundGroup
search_of none = None
search_of (some v) = Some (record { node = v.node; depth = length v.way })
