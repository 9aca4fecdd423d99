-- The nodes reached from a slot, in the order of List, and its frames.
use Rattle.std.specs.Prelude.{cond, ℕ, zero, suc, ◌<◌, length, drop, eqb}
use mathlib.Core.List.{List, [], ◌∷◌, ◌++◌, map, flat_map}
use Rattle.memory.specs.Words.{Memory}
use Rattle.tree.specs.Lists.{up_to, keep}
use Rattle.tree.specs.declared.layout.Geometry.{Geometry}
use Rattle.tree.specs.Layout.{next_at}
use Rattle.tree.specs.Path.{levels, fanout}
use Rattle.tree.specs.Node.{child_of, held, frame}
use Rattle.tree.specs.Slots.{root_of, filled_slots}

-- a node, with the way to it
pub record Visit : Type 0 where
  pub way : List ℕ
  pub node : ℕ

abbrev pub visit : List ℕ → ℕ → Visit
visit w n = record { way = w; node = n }

-- the order of List, by ways: a node comes before all below it, and a child's whole subtree before those of children with higher
-- numbers
pub data Before : List ℕ → List ℕ → Type 0 where
  above : (w below : List ℕ) (c : ℕ) → Before w (below ++ c ∷ w)
  aside : (w below below' : List ℕ) (c c' : ℕ) → c < c' → Before (below ++ c ∷ w) (below' ++ c' ∷ w)

-- the nodes of a walk
unfoldable pub nodes_of : List Visit → List ℕ
nodes_of vs = map (λ v. v.node) vs

-- a borrowed list with frames written at its start: its tail stays
unfoldable pub listed : (frames buffer : List ℕ) → List ℕ
listed frames buffer = frames ++ drop (length frames) buffer

module _ (g : Geometry) (m : Memory) where
  -- how many children a node at a depth has
  unfoldable pub children : ℕ → ℕ → ℕ
  children d n = cond (eqb (m (next_at g n)) 0) 0 (fanout d)

  -- a node, then each child's subtree in turn, levels left
  unfoldable pub subtree : ℕ → List ℕ → ℕ → List Visit
  subtree zero w n = []
  subtree (suc left) w n = visit w n ∷ flat_map (λ c. subtree left (c ∷ w) (child_of g m n c)) (up_to (children (length w) n))

  -- the nodes reached from a slot, and from all filled slots
  unfoldable pub tree : ℕ → List Visit
  tree s = subtree levels [] (root_of m s)

  unfoldable pub all_trees : List Visit
  all_trees = flat_map tree (filled_slots g m)

  -- a node's places that hold a frame, rising, and their frames
  unfoldable pub held_places : ℕ → List ℕ
  held_places n = keep (held g m n) (up_to 64)

  unfoldable pub frames_in : ℕ → List ℕ
  frames_in n = map (frame g m n) (held_places n)

  -- a reel's frames as List gives them: a node's places rising, then each child's subtree in turn
  unfoldable pub listing : ℕ → List ℕ
  listing s = flat_map (λ v. frames_in v.node) (tree s)
