-- The outline of a reel's tree: what the tree is without slot, node and level numbers, fingerprints and words that nothing reads.
-- Of a place that is not held the frame word is no part of it.
use Rattle.std.specs.Prelude.{Bool, not, List, map, ℕ, eqb}
use Rattle.memory.specs.Words.{Memory}
use Rattle.tree.specs.declared.layout.Geometry.{Geometry}
use Rattle.tree.specs.Layout.{next_at, locate_at, set_at, size_at}
use Rattle.tree.specs.Subtree.{Visit, tree, frames_in}

-- a node as its reel sees it: the way to it, whether it has children, its size, its bitmaps, and its frames, places rising
pub record Sight : Type 0 where
  pub way : List ℕ
  pub branched : Bool
  pub size : ℕ
  pub locate : ℕ
  pub set : ℕ
  pub frames : List ℕ

module _ (g : Geometry) (m : Memory) where
  -- a node seen
  unfoldable pub sight : Visit → Sight
  sight v = record {
    way = v.way;
    branched = not (eqb (m (next_at g v.node)) 0);
    size = m (size_at g v.node);
    locate = m (locate_at g v.node);
    set = m (set_at g v.node);
    frames = frames_in g m v.node;
  }

  -- the nodes of a slot's tree as they are seen, in the order of List
  unfoldable pub outline : (slot : ℕ) → List Sight
  outline s = map sight (tree g m s)
