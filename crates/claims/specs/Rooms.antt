-- The room for a claim as its code makes it.
use Rattle.std.specs.Prelude.{◌≡◌, List, [], ◌∷◌, ◌++◌, ℕ, ◌+◌, ◌*◌, ◌≤◌, ◌<◌, length}
use Rattle.tree.specs.Memory.{Memory, Store, with_bit, segmented, written}
use Rattle.tree.specs.declared.layout.Geometry.{Geometry}
use Rattle.tree.specs.declared.path.Room.{Room}
use Rattle.tree.specs.declared.path.Room.TheVariants.{Clear, ScaleUp, BranchOut}
use Rattle.tree.specs.Layout.{locate_at}
use Rattle.tree.specs.Path.{fanout}
use Rattle.tree.specs.declared.path.Spot.{Spot}
use Rattle.tree.specs.Pool.{mark_all}
use Rattle.book.specs.Perform.{room_script, locate_then, taken}

-- how deep the last node of a branch-out is
abbrev pub depth_of : Room → ℕ
depth_of (Clear t) = 0
depth_of (ScaleUp n size) = 0
depth_of (BranchOut parent d) = d

-- a room's numbers are inside the pool, with its new nodes from start on
abbrev pub InPool : Geometry → Room → (start : ℕ) → Type 0
InPool g (Clear t) start = Unit {0}
InPool g (ScaleUp n size) start = (n < g.nodes) × (size < 64)
InPool g (BranchOut parent d) start = (parent < g.nodes) × (d < 31) × (start + fanout d ≤ g.nodes)

abbrev pub RoomFits : Geometry → Room → (start : ℕ) → Type 0
RoomFits g r start = (g.slots ≤ 4096) × (g.nodes ≤ 65536) × InPool g r start

-- the room made in so many words of script, 46 at most, and its nodes marked
abbrev pub RoomMade : Geometry → Room → (start : ℕ) → (pool pool' script script' : List ℕ) → (words : ℕ) → Type 0
RoomMade g r start pool pool' script script' words =
    (words ≡ 2 * length (segmented (room_script g r start)))
    × (words ≤ 46)
    × (pool' ≡ mark_all pool (taken r start))
    × (script' ≡ written (segmented (room_script g r start)) script)

-- the room made and then the place's bit put on in its locate word
abbrev pub place_script : Geometry → Memory → Room → (start : ℕ) → Spot → List (List Store)
place_script g m r start t = room_script g r start ++ (((locate_at g t.node, with_bit (locate_then g m r t.node) t.place) ∷ []) ∷ [])

-- that in so many words of script, and the room's nodes marked
abbrev pub Taken : Geometry → Memory → Room → (start : ℕ) → Spot → (pool pool' script script' : List ℕ) → (words : ℕ) → Type 0
Taken g m r start t pool pool' script script' words =
    (words ≡ 2 * length (segmented (place_script g m r start t)))
    × (pool' ≡ mark_all pool (taken r start))
    × (script' ≡ written (segmented (place_script g m r start t)) script)
