-- Where there is room for a frame on its path: what a claim takes.
use Rattle.std.specs.Prelude.{Bool, false, cond, not, List, [], ◌∷◌, ℕ, ◌-◌, ◌*◌, length, eqb, ltb}
use Rattle.std.proofs.Math.Option.{Option, none, some}
use Rattle.std.specs.Prelude.{Option as Optional, Some, None}
use Rattle.std.specs.Int.Count.{ones}
use Rattle.memory.specs.Words.{Memory, is_set, with_bit}
use Rattle.tree.specs.declared.layout.Geometry.{Geometry}
use Rattle.tree.specs.declared.path.Room.{Room}
use Rattle.tree.specs.declared.path.Room.TheVariants.{Clear, ScaleUp, BranchOut}
use Rattle.tree.specs.Layout.{locate_at, size_at}
use Rattle.tree.specs.Lists.{up_to, keep}
use Rattle.tree.specs.Path.{fanout}
use Rattle.tree.specs.declared.path.Spot.{Spot}
use Rattle.tree.specs.declared.path.ClearPlace.{ClearPlace}
use Rattle.tree.specs.Lookup.{spot, clear_at, clear_spot}

-- the last node of a path
unfoldable pub last_of : List ℕ → ℕ
last_of [] = 0
last_of (n ∷ []) = n
last_of (n ∷ n' ∷ ns) = last_of (n' ∷ ns)

-- the clear places of a node with this locate word and this size
abbrev pub clear_places : (locate size : ℕ) → List ℕ
clear_places w size = keep (λ p. not (is_set w p)) (up_to size)

module _ (g : Geometry) (m : Memory) where
  -- on a path without a clear place: by the last node's size
  unfoldable pub full_room : List ℕ → Room
  full_room ns = let n = last_of ns in cond (ltb (m (size_at g n)) 64) (ScaleUp n (m (size_at g n))) (BranchOut n (length ns - 1))

  abbrev pub room_for : List ℕ → Option Spot → Room
  room_for ns none = full_room ns
  room_for ns (some t) = Clear t

  -- the room on a path, where it is well formed
  unfoldable pub room_on : Option (List ℕ) → Room
  room_on none = BranchOut 0 0  -- any value: a claim is refused 4 before it is used
  room_on (some ns) = room_for ns (clear_spot g m ns)

  -- places left in the node of a clear place once this is taken: size minus the ones of the locate word as it will be
  unfoldable pub left_at : Spot → ℕ
  left_at t = m (size_at g t.node) - ones (with_bit (m (locate_at g t.node)) t.place)

  -- and in the room's node: its size after a scale-up; a child made anew has size 64, and no place of it is taken
  unfoldable pub places_left : Room → ℕ
  places_left (Clear t) = left_at t
  places_left (ScaleUp n size) = 2 * size - ones (with_bit (m (locate_at g n)) size)
  places_left (BranchOut parent d) = 64 - ones (with_bit 0 0)

  -- the search for a place in a node: its lowest clear place, and the places left
  unfoldable pub clear_place : ℕ → Optional ClearPlace
  clear_place n =
      let p = clear_at g m n in
      cond (ltb p (m (size_at g n))) (Some (record { place = p; left = left_at (spot n p) })) None

-- how many nodes it takes from the pool
abbrev pub needs : Room → ℕ
needs (Clear t) = 0
needs (ScaleUp n size) = 0
needs (BranchOut parent d) = fanout d

-- the path ends full at level 31
abbrev pub at_level31 : Room → Bool
at_level31 (Clear t) = false
at_level31 (ScaleUp n size) = false
at_level31 (BranchOut parent d) = eqb d 31
