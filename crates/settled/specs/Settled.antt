-- Recovery's test of the frames of a tree whose nodes are known to be well formed: each is settled where it is held.
use Rattle.std.specs.Prelude.{◌≡◌, Bool, true, false, cond, ◌&&◌, List, ℕ, zero, suc, ◌+◌, ◌-◌, ◌*◌, ◌%◌, ◌^◌, ◌≤◌, ◌<◌, length, eqb, leb, Result, Ok, Err, is_none}
use Rattle.memory.specs.Words.{Memory}
use Rattle.memory.specs.Search.{first}
use Rattle.tree.specs.Test.{is, eq, ◌and◌, holds}
use Rattle.tree.specs.Lists.{up_to, every}
use Rattle.tree.specs.declared.layout.Geometry.{Geometry}
use Rattle.tree.specs.Layout.{next_at}
use Rattle.tree.specs.Path.{levels, child, bits_to}
use Rattle.tree.specs.Fingerprint.{fingerprint, rule_of}
use Rattle.tree.specs.Node.{child_of, held, frame, stored_fingerprint}
use Rattle.tree.specs.Lookup.{found_at}
use Rattle.tree.specs.Pool.{used}
use Rattle.tree.specs.Subtree.{children, held_places}
use Rattle.paths.specs.declared.descent.Malformed.{Malformed}
use Rattle.paths.specs.declared.descent.Trail.{Trail}
use Rattle.visits.specs.Walk.{stops, formed_at}
use Rattle.settled.specs.declared.frames.Subtree.{Subtree}

-- a node that is known to be well formed, with all below it, levels left
pub record Formed (g : Geometry) (m : Memory) (left n : ℕ) : Type 0 where
  pub some_left : 1 ≤ left
  pub all_left : left ≤ levels
  pub is : every (formed_at g m) (stops g m left (levels - left) n) ≡ true

-- where the test stands: such a node, with the unit of its level
pub record Known (g : Geometry) (m : Memory) (t : Subtree) : Type 0 where
  pub formed : Formed g m t.left t.node
  pub unit : t.unit ≡ 2 ^ bits_to (levels - t.left)

-- or adjacent children, with the unit of their parent's level
pub record KnownGroup (g : Geometry) (m : Memory) (t : Subtree) (count : ℕ) : Type 0 where
  pub formed : (c : ℕ) → c < count → Formed g m t.left (t.node + c)
  pub unit : count * t.unit ≡ 2 ^ bits_to (levels - t.left)

-- a map with a bit for each fingerprint marks those of the frames that are held in places of a node, the passed
pub record Met (g : Geometry) (m : Memory) (n : ℕ) (passed : ℕ → Type 0) (map : List ℕ) : Type 0 where
  pub bits : length map ≡ 4
  pub each : (p : ℕ) → passed p → held g m n p ≡ true → used map (fingerprint (rule_of m) (frame g m n p)) ≡ true

-- a walk along a frame's path ends, and without the frame
abbrev pub is_absent : Result Trail Malformed → Bool
is_absent (Err e) = false
is_absent (Ok t) = is_none t.found

module _ (g : Geometry) (m : Memory) where
  -- the lookup finds a frame in no node of its path below this one, levels left
  unfoldable pub absent_below : (left depth node frame : ℕ) → Bool
  absent_below zero d n f = true
  absent_below (suc left) d n f =
      let below = child_of g m n (child d f) in
      cond (eqb (m (next_at g n)) 0) true (leb 64 (found_at (rule_of m) g m f below) && absent_below left (suc d) below f)

  -- a place of a node holds a frame, whatever its fingerprint
  unfoldable pub holds_at : (node frame place : ℕ) → Bool
  holds_at n f p = holds (is (held g m n p) and eq (frame g m n p) f)

  -- the frame of a place is on its path, which reads the suffix down to the node; its fingerprint is right; no lower place of
  -- the node holds it; and the lookup finds it in no node below
  unfoldable pub settled_at : (left depth node suffix place : ℕ) → Bool
  settled_at left d n x p =
      let f = frame g m n p in
      holds (
      eq (f % 2 ^ bits_to d) x
      and eq (stored_fingerprint g m n p) (fingerprint (rule_of m) f)
      and eq (first (holds_at n f) p) p
      and is (absent_below left d n f)
      )

  unfoldable pub settled_node : (left depth node suffix : ℕ) → Bool
  settled_node left d n x = every (settled_at left d n x) (held_places g m n)

  -- a node's frames, then those of each child's subtree in turn, levels left
  unfoldable pub settled_tree : (left depth node suffix : ℕ) → Bool
  settled_tree zero d n x = true
  settled_tree (suc left) d n x =
      settled_node (suc left) d n x
      && every (λ c. settled_tree left (suc d) (child_of g m n c) (c * 2 ^ bits_to d + x)) (up_to (children g m d n))

  -- the subtrees of adjacent nodes in turn, whose suffixes are a unit apart
  unfoldable pub settled_group : (left depth start count unit suffix : ℕ) → Bool
  settled_group left d start count u x = every (λ c. settled_tree left d (start + c) (c * u + x)) (up_to count)
