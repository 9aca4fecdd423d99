-- Memories that agree on the words that decide what is reached and held. Size, locate and level may differ, and so may
-- the reel number of an empty slot, the frames of places not held, and every word of a node that is not reached.
use Rattle.std.specs.Prelude.{◌≡◌, true, ◌≢◌, List, ℕ, ◌+◌, ◌≤◌, ◌<◌}
use Rattle.memory.specs.Words.{Memory}
use Rattle.tree.specs.declared.layout.Geometry.{Geometry}
use Rattle.tree.specs.Layout.{reel_at, root_at, node_at, next_at, set_at}
use Rattle.tree.specs.Node.{held, frame, stored_fingerprint}
use Rattle.tree.specs.Slots.{Filled}
use Rattle.tree.specs.Reach.{Reaches}

-- what is reached
pub record SameLinks (g : Geometry) (m m' : Memory) : Type 0 where
  pub roots : (s : ℕ) → s < g.slots → m (root_at s) ≡ m' (root_at s)
  pub next : {s : ℕ} {w : List ℕ} {n : ℕ} → Reaches g m s w n → m (next_at g n) ≡ m' (next_at g n)

-- what a node holds
pub record SameFrames (g : Geometry) (m m' : Memory) (n : ℕ) : Type 0 where
  pub set : m (set_at g n) ≡ m' (set_at g n)
  pub frames : (p : ℕ) → p < 64 → held g m n p ≡ true → frame g m n p ≡ frame g m' n p
  pub fingerprints : (p : ℕ) → p < 64 → held g m n p ≡ true → stored_fingerprint g m n p ≡ stored_fingerprint g m' n p

pub record Same (g : Geometry) (m m' : Memory) : Type 0 where
  pub links : SameLinks g m m'
  pub reels : {s : ℕ} → Filled g m s → m (reel_at s) ≡ m' (reel_at s)
  pub holds : {s : ℕ} {w : List ℕ} {n : ℕ} → Reaches g m s w n → SameFrames g m m' n

-- all 80 words of a node
pub record SameWords (g : Geometry) (m m' : Memory) (n : ℕ) : Type 0 where
  pub words : (i : ℕ) → node_at g n ≤ i → i < node_at g n + 80 → m i ≡ m' i

-- one word stored to
pub record Stores (m : Memory) (i v : ℕ) (m' : Memory) : Type 0 where
  pub new : m' i ≡ v
  pub old : (j : ℕ) → j ≢ i → m j ≡ m' j
