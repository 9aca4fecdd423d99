-- A walk over a tree's nodes: it marks each in a map, and ends where one fails a test or is marked already.
use Rattle.std.specs.Prelude.{Bool, cond, not, ◌&&◌, ℕ, zero, suc, ◌+◌}
use Rattle.std.proofs.Math.Option.{Option, none, some}
use mathlib.Core.List.{List, [], ◌∷◌, flat_map}
use Rattle.memory.specs.Words.{Memory}
use Rattle.tree.specs.declared.layout.Geometry.{Geometry}
use Rattle.tree.specs.Lists.{up_to}
use Rattle.tree.specs.Path.{levels}
use Rattle.tree.specs.Node.{child_of, well_formed}
use Rattle.tree.specs.Slots.{root_of}
use Rattle.tree.specs.Subtree.{children, frames_in}
use Rattle.tree.specs.Pool.{used, mark}

-- a node at a depth, as a walk comes to it
pub record Stop : Type 0 where
  pub depth : ℕ
  pub node : ℕ

abbrev pub stop : ℕ → ℕ → Stop
stop d n = record { depth = d; node = n }

module _ (g : Geometry) (m : Memory) where
  -- a node, then each child's subtree in turn, levels left: tree's `subtree`, by depths instead of ways
  unfoldable pub stops : (left depth node : ℕ) → List Stop
  stops zero d n = []
  stops (suc left) d n = stop d n ∷ flat_map (λ c. stops left (suc d) (child_of g m n c)) (up_to (children g m d n))

  -- the subtrees of adjacent nodes in turn
  unfoldable pub group_stops : (left depth start count : ℕ) → List Stop
  group_stops left d start count = flat_map (λ c. stops left d (start + c)) (up_to count)

  unfoldable pub formed_at : Stop → Bool
  formed_at x = well_formed g m x.depth x.node

  -- the frames held in nodes, in turn
  unfoldable pub frames_at : List Stop → List ℕ
  frames_at xs = flat_map (λ x. frames_in g m x.node) xs

-- the map with every node marked; none where one fails or is marked already
unfoldable pub walked : (Stop → Bool) → List Stop → (pool : List ℕ) → Option (List ℕ)
walked good [] pool = some pool
walked good (x ∷ xs) pool = cond (good x && not (used pool x.node)) (walked good xs (mark pool x.node)) none

-- a map that a walk leaves, where it went through
abbrev pub kept : Bool → List ℕ → Option (List ℕ)
kept ok pool = cond ok (some pool) none

abbrev pub then_walk : (List ℕ → Option (List ℕ)) → Option (List ℕ) → Option (List ℕ)
then_walk more none = none
then_walk more (some pool) = more pool

-- the walk of a slot's tree
unfoldable pub walked_slot : Geometry → Memory → (slot : ℕ) → (pool : List ℕ) → Option (List ℕ)
walked_slot g m s pool = walked (formed_at g m) (stops g m levels 0 (root_of m s)) pool
