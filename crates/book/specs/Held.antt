-- The table of an image: the reels present with the frames held there, as a history that starts on the image has it.
use Rattle.std.specs.Prelude.{List, map, ℕ, replicate}
use Rattle.tree.specs.Memory.{Memory, reads}
use Rattle.tree.specs.declared.layout.Geometry.{Geometry}
use Rattle.tree.specs.Layout.{geometry_of, reel_at}
use Rattle.tree.specs.Fingerprint.{has_own}
use Rattle.tree.specs.Slots.{filled_slots}
use Rattle.tree.specs.Subtree.{listing}
use Rattle.book.specs.Heads.{head_count}
use Rattle.book.specs.Table.{Table, Reel, idle}

-- the reel of a filled slot, with the frames of its tree
abbrev pub reel_held : Geometry → Memory → (slot : ℕ) → Reel
reel_held g m s = record { number = m (reel_at s); frames = listing g m s }

-- the reels present
unfoldable pub reels_held : Geometry → Memory → List Reel
reels_held g m = map (reel_held g m) (filled_slots g m)

-- the table, heads idle
unfoldable pub table_of : List ℕ → Table
table_of image =
    let m = reads image in
    let g = geometry_of m in
    record { slots = g.slots; nodes = g.nodes; own = has_own m; reels = reels_held g m; heads = replicate head_count idle }
