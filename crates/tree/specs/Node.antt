-- A node's words, and when it is well formed: the paper's 'broken' is malformed.
use Rattle.std.specs.Prelude.{Bool, ℕ, ◌+◌, ◌-◌, ◌%◌, ◌^◌}
use Rattle.memory.specs.Words.{Memory, is_set, byte}
use Rattle.tree.specs.Test.{Test, lt, le, eq, ◌and◌, ◌or◌, holds}
use Rattle.tree.specs.declared.layout.Geometry.{Geometry}
use Rattle.tree.specs.Layout.{next_at, locate_at, set_at, level_at, size_at, fingerprints_at, frame_at}
use Rattle.tree.specs.Path.{fanout}

-- a root, at depth 0, has size 16, 32 or 64; every other node has size 64
unfoldable pub size_allowed : ℕ → ℕ → Test
size_allowed d size = eq size 64 or (eq d 0 and (eq size 16 or eq size 32))

module _ (g : Geometry) (m : Memory) where
  -- next has a node number plus 1, or 0 for none; children are adjacent, and next names the first
  abbrev pub child_of : ℕ → ℕ → ℕ
  child_of n c = m (next_at g n) - 1 + c

  -- what a node at depth d is unless it is malformed: inside the pool; its level is its depth; its size allowed; no bit at or
  -- above its size in either bitmap; no children, or size 64, level below 31 and all children inside the pool
  unfoldable pub formed : ℕ → ℕ → Test
  formed d n =
      lt n g.nodes
      and eq (m (level_at g n)) d
      and size_allowed d (m (size_at g n))
      and lt (m (locate_at g n)) (2 ^ m (size_at g n))
      and lt (m (set_at g n)) (2 ^ m (size_at g n))
      and (eq (m (next_at g n)) 0 or (eq (m (size_at g n)) 64 and lt d 31 and le (child_of n (fanout d)) g.nodes))

  unfoldable pub well_formed : ℕ → ℕ → Bool
  well_formed d n = holds (formed d n)

  -- a place's frame is held if its set bit is 1
  abbrev pub held : ℕ → ℕ → Bool
  held n p = is_set (m (set_at g n)) p

  abbrev pub frame : ℕ → ℕ → ℕ
  frame n p = m (frame_at g n p)

  -- a place's fingerprint, as the image has it
  abbrev pub stored_fingerprint : ℕ → ℕ → ℕ
  stored_fingerprint n p = byte (m (fingerprints_at g n p)) (p % 8)
