-- What the operations compute on a path: the path itself, the lookup, the clear place; and the free run in the pool map.
use Rattle.std.specs.Prelude.{Bool, cond, not, List, [], ◌∷◌, ℕ, zero, suc, ◌+◌, eqb, ltb}
use Rattle.std.proofs.Math.Option.{Option, none, some}
use Rattle.memory.specs.Words.{Memory, is_set, marked}
use Rattle.memory.specs.Search.{first}
use Rattle.tree.specs.Test.{is, le, eq, ◌and◌, holds}
use Rattle.tree.specs.declared.layout.Geometry.{Geometry}
use Rattle.tree.specs.declared.path.Spot.{Spot}
use Rattle.tree.specs.Layout.{next_at, locate_at, size_at}
use Rattle.tree.specs.Path.{levels, child}
use Rattle.tree.specs.Fingerprint.{Rule, fingerprint}
use Rattle.tree.specs.Node.{child_of, well_formed, held, frame, stored_fingerprint}
use Rattle.tree.specs.Slots.{root_of}

-- a place of a node, by its numbers
abbrev pub spot : ℕ → ℕ → Spot
spot n p = record { node = n; place = p }

-- the first node of a list at which a search ends below its bound, with the place where it ends
unfoldable pub first_spot : (search bound : ℕ → ℕ) → List ℕ → Option Spot
first_spot search bound [] = none
first_spot search bound (n ∷ ns) = cond (ltb (search n) (bound n)) (some (spot n (search n))) (first_spot search bound ns)

-- a node before others, where they are there
abbrev pub before : ℕ → Option (List ℕ) → Option (List ℕ)
before n none = none
before n (some ns) = some (n ∷ ns)

module _ (g : Geometry) (m : Memory) where
  -- the nodes on a frame's path from a node at depth d on, levels left; none where one of them is malformed
  unfoldable pub path : ℕ → ℕ → ℕ → ℕ → Option (List ℕ)
  path zero d n f = none
  path (suc left) d n f =
      cond (well_formed g m d n)
      (cond (eqb (m (next_at g n)) 0) (some (n ∷ [])) (before n (path left (suc d) (child_of g m n (child d f)) f)))
      none

  unfoldable pub path_from : ℕ → ℕ → Option (List ℕ)
  path_from s f = path levels 0 (root_of m s) f

  -- the lowest clear place of a node: its locate bit is 0; the node's size where there is none
  unfoldable pub clear_at : ℕ → ℕ
  clear_at n = first (λ p. not (is_set (m (locate_at g n)) p)) (m (size_at g n))

  -- the first node with a clear place, and the lowest such place
  unfoldable pub clear_spot : List ℕ → Option Spot
  clear_spot ns = first_spot clear_at (λ n. m (size_at g n)) ns

module _ (r : Rule) (g : Geometry) (m : Memory) where
  -- a place has its set bit 1, the frame, and the frame's fingerprint
  unfoldable pub matches : ℕ → ℕ → ℕ → Bool
  matches f n p = holds (is (held g m n p) and eq (frame g m n p) f and eq (stored_fingerprint g m n p) (fingerprint r f))

  -- the lowest such place of a node; 64 where there is none
  unfoldable pub found_at : ℕ → ℕ → ℕ
  found_at f n = first (matches f n) 64

  -- the lookup: the first node on the path with such a place, and the lowest there
  unfoldable pub lookup : ℕ → List ℕ → Option Spot
  lookup f ns = first_spot (found_at f) (λ n. 64) ns

  -- the lookup along a path, where it is well formed
  abbrev pub lookup_on : ℕ → Option (List ℕ) → Option Spot
  lookup_on f none = none
  lookup_on f (some ns) = lookup f ns

  -- the lookup of a frame from a slot
  unfoldable pub find : ℕ → ℕ → Option Spot
  find s f = lookup_on f (path_from g m s f)

-- k adjacent nodes from n on are inside the pool and free in its map
unfoldable pub is_free_run : Geometry → Memory → ℕ → ℕ → Bool
is_free_run g map k n = holds (le (n + k) g.nodes and eq (first (λ i. marked map (n + i)) k) k)

-- the lowest run of k adjacent free nodes; the number of nodes where there is none
unfoldable pub free_run : Geometry → Memory → ℕ → ℕ
free_run g map k = first (is_free_run g map k) g.nodes
