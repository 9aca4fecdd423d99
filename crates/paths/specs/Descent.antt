-- The way along a frame's path, node by node.
use Rattle.std.specs.Prelude.{◌≡◌, Bool, cond, List, ◌++◌, ℕ, ◌+◌, ◌-◌, ◌/◌, ◌%◌, ◌≤◌, eqb, ltb, length}
use Rattle.std.specs.Prelude.{Option as Optional, Some, None, Result, Ok, Err}
use Rattle.std.proofs.Math.Option.{Option, none, some}
use Rattle.memory.specs.Words.{Memory}
use Rattle.tree.specs.declared.layout.Geometry.{Geometry}
use Rattle.tree.specs.declared.path.Spot.{Spot}
use Rattle.tree.specs.declared.path.Room.{Room}
use Rattle.tree.specs.declared.path.Room.TheVariants.{Clear, ScaleUp, BranchOut}
use Rattle.tree.specs.Layout.{next_at, size_at}
use Rattle.tree.specs.Path.{child}
use Rattle.tree.specs.Node.{child_of}
use Rattle.tree.specs.Fingerprint.{rule_of}
use Rattle.tree.specs.Lookup.{spot, path, lookup, clear_spot}
use Rattle.tree.specs.Room.{last_of, left_at}
use Rattle.paths.specs.declared.descent.Malformed.{Malformed}
use Rattle.paths.specs.declared.descent.Trail.{Trail}
use Rattle.paths.specs.declared.descent.Vacancy.{Vacancy}
use Rattle.paths.specs.Answers.{on_path, seen_as, vacancy}

-- the child to which a frame's path goes on from a node of a level, unless it ends there
unfoldable pub step_from : Geometry → Memory → (level node frame : ℕ) → Optional ℕ
step_from g m d n f = cond (eqb (m (next_at g n)) 0) None (Some (child_of g m n (child d f)))

-- the spot that a search has seen
abbrev pub spot_of : Optional Spot → Option Spot
spot_of None = none
spot_of (Some t) = some t

-- the spot that a number stands for: 0 for none, else one more than the place's among all places of the pool
unfoldable pub numbered : ℕ → Option Spot
numbered k = cond (eqb k 0) none (some (spot ((k - 1) / 64) ((k - 1) % 64)))

-- the places left in the node of a clear place once this is taken; 0 where there is none
abbrev pub left_of : Geometry → Memory → Option Spot → ℕ
left_of g m none = 0
left_of g m (some t) = left_at g m t

-- a clear place's number has six bits more, the lowest: the places left
abbrev pub TellsLeft : Geometry → Memory → ℕ → Type 0
TellsLeft g m k = k % 64 ≡ left_of g m (numbered (k / 64))

-- what was found before, or else what is found next
abbrev pub or_else : Option Spot → Option Spot → Option Spot
or_else none next = next
or_else (some t) next = some t

-- nodes passed before others, where these are there
abbrev pub passed : List ℕ → Option (List ℕ) → Option (List ℕ)
passed ns none = none
passed ns (some below) = some (ns ++ below)

-- a walk along a frame's path from node s of level e has passed nodes and come to node n of level d
pub record Along (g : Geometry) (m : Memory) (e s f : ℕ) (ns : List ℕ) (d n : ℕ) : Type 0 where
  pub low : d ≤ 31
  pub count : e + length ns ≡ d
  pub rest : path g m (32 - e) e s f ≡ passed ns (path g m (32 - d) d n f)

-- the first clear place of nodes, for a walk that seeks one
unfoldable pub clear_if : Geometry → Memory → (seek : Bool) → List ℕ → Option Spot
clear_if g m seek ns = cond seek (clear_spot g m ns) none

-- how a walk along nodes ends, the first of them of level d: at the last, with the frame's place that comes first, and the clear place
-- that does and the places left, where one is sought
unfoldable pub trail_on : Geometry → Memory → (seek : Bool) → (level frame : ℕ) → List ℕ → Result Trail Malformed
trail_on g m seek d f ns =
    let clear = clear_if g m seek ns in
    Ok (record {
      node = last_of ns;
      level = d + length ns - 1;
      found = seen_as (lookup (rule_of m) g m f ns);
      clear = seen_as clear;
      left = left_of g m clear;
    })

-- and along a frame's path from a node of level d on
unfoldable pub trail_from : Geometry → Memory → (seek : Bool) → (level node frame : ℕ) → Result Trail Malformed
trail_from g m seek d n f = on_path (Err (record {})) (trail_on g m seek d f) (path g m (32 - d) d n f)

-- the room on a path that ends at a node of a level: what was found clear, or else by the node's size
unfoldable pub room_at : Geometry → Memory → (level node : ℕ) → (clear : Option Spot) → Room
room_at g m d n none = cond (ltb (m (size_at g n)) 64) (ScaleUp n (m (size_at g n))) (BranchOut n d)
room_at g m d n (some t) = Clear t

-- the room with the places left: as the walk has found for a clear place; else the last node was full, and gets as many places more as it
-- had, or children of 64
abbrev pub vacancy_in : (left : ℕ) → Room → Vacancy
vacancy_in left (Clear t) = vacancy (Clear t) left
vacancy_in left (ScaleUp n size) = vacancy (ScaleUp n size) (size - 1)
vacancy_in left (BranchOut parent d) = vacancy (BranchOut parent d) 63
