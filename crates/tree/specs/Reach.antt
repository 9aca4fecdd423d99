-- The nodes that a slot reaches, each by a way: its child numbers, deepest first.
use Rattle.std.specs.Prelude.{◌≡◌, true, List, [], ◌∷◌, ℕ, ◌<◌, length}
use Rattle.memory.specs.Words.{Memory}
use Rattle.tree.specs.declared.layout.Geometry.{Geometry}
use Rattle.tree.specs.Layout.{next_at}
use Rattle.tree.specs.Path.{fanout}
use Rattle.tree.specs.Node.{child_of, held, frame}
use Rattle.tree.specs.Slots.{Filled, root_of}

-- a node is reached as a filled slot's root or a reached node's child, twice if by two ways; its depth is the way's length
pub data Reaches (g : Geometry) (m : Memory) (s : ℕ) : List ℕ → ℕ → Type 0 where
  root : {n : ℕ} → Filled g m s → n ≡ root_of m s → Reaches g m s [] n
  down : {w : List ℕ} {c p n : ℕ} → Reaches g m s w p → 0 < m (next_at g p) → c < fanout (length w) → n ≡ child_of g m p c
      → Reaches g m s (c ∷ w) n

-- a place of a reached node that holds a frame
pub record Holds (g : Geometry) (m : Memory) (s : ℕ) (w : List ℕ) (n p f : ℕ) : Type 0 where
  pub there : Reaches g m s w n
  pub place : p < 64
  pub set : held g m n p ≡ true
  pub is : frame g m n p ≡ f

-- a reel's frames are those held in the nodes reached from its slot
pub record FrameOf (g : Geometry) (m : Memory) (s f : ℕ) : Type 0 where
  pub way : List ℕ
  pub node : ℕ
  pub place : ℕ
  pub holds : Holds g m s way node place f
