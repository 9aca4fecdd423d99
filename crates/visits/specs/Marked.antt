-- What is done node by node, numbers rising, to the nodes that a map marks.
use Rattle.std.specs.Prelude.{cond, List, [], ◌∷◌, ℕ, zero, suc, ◌+◌, ◌-◌, ◌^◌, length}
use Rattle.std.specs.Int.Bits.{bit_and}
use Rattle.memory.specs.Words.{Memory}
use Rattle.tree.specs.declared.layout.Geometry.{Geometry}
use Rattle.tree.specs.Subtree.{frames_in}
use Rattle.tree.specs.Pool.{used}

-- a map without the nodes that another of its length marks, word by word
unfoldable pub without_marked : (pool marks : List ℕ) → List ℕ
without_marked [] marks = []
without_marked (w ∷ ws) [] = w ∷ ws
without_marked (w ∷ ws) (b ∷ bs) = bit_and w (2 ^ 64 - 1 - b) ∷ without_marked ws bs

-- how many frames the marked nodes below k hold
unfoldable pub held_below : Geometry → Memory → (pool : List ℕ) → (k : ℕ) → ℕ
held_below g m pool zero = 0
held_below g m pool (suc k) = held_below g m pool k + cond (used pool k) (length (frames_in g m k)) 0
