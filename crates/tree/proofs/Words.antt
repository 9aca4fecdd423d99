-- Nodes whose words a store leaves alone: they are formed, linked and filled as before.
use mathlib.Core.Path.{◌≡◌, ap}
use mathlib.Core.Logic.{◌≢◌}
use Prim.Native.Nat.{ℕ, ◌+◌, ◌*◌, ◌%◌, ◌≤◌, ◌<◌}
use native.Mathlib.Omega.{arith}
use Rattle.memory.specs.Words.{Memory, byte}
use Rattle.tree.specs.declared.layout.Geometry.{Geometry}
use Rattle.tree.specs.Layout.{root_at, node_at, next_at, locate_at, set_at, level_at, size_at, fingerprints_at, frame_at}
use Rattle.tree.specs.Node.{formed, well_formed}
use Rattle.tree.specs.Same.{SameFrames, SameWords, Stores}

module _ {g : Geometry} {m m' : Memory} {n : ℕ} (a : SameWords g m m' n) where
  pub same_next : m (next_at g n) ≡ m' (next_at g n)
  same_next = a.words (next_at g n) (omega arith) (omega arith)

  pub same_formed : (d : ℕ) → well_formed g m d n ≡ well_formed g m' d n
  unfolding well_formed formed
  same_formed d = rw (
    same_next,
    a.words (locate_at g n) (omega arith) (omega arith),
    a.words (set_at g n) (omega arith) (omega arith),
    a.words (level_at g n) (omega arith) (omega arith),
    a.words (size_at g n) (omega arith) (omega arith),
  )

  pub same_frames : SameFrames g m m' n
  same_frames = record {
    set = a.words (set_at g n) (omega arith) (omega arith);
    frames = λ p h t. a.words (frame_at g n p) (omega arith) (omega arith);
    fingerprints = λ p h t. ap (λ w. byte w (p % 8)) (a.words (fingerprints_at g n p) (omega arith) (omega arith));
  }

module _ (g : Geometry) {m m' : Memory} {i v : ℕ} (a : Stores m i v m') where
  -- a store to a root is outside all nodes
  pub beside_nodes : (s n : ℕ) → s < g.slots → i ≡ root_at s → SameWords g m m' n
  beside_nodes s n h e = record { words = λ j l k. a.old j (λ q. omega arith) }

  -- a store to a node is outside the others, and outside the slots
  pub beside_node : (n n' k : ℕ) → n' ≢ n → k < 80 → i ≡ node_at g n + k → SameWords g m m' n'
  beside_node n n' k d h e = record { words = λ j l t. a.old j (λ q. d (omega arith)) }

  pub beside_slots : (j n : ℕ) → j < 64 + 2 * g.slots → node_at g n ≤ i → m j ≡ m' j
  beside_slots j n h e = a.old j (λ q. omega arith)
