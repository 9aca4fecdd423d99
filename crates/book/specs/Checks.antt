-- The refusals of each operation, in the paper's sequence.
use Rattle.std.specs.Prelude.{false, not, List, [], ◌∷◌, ℕ, ◌+◌, length}
use Rattle.std.proofs.Math.Option.{Option}
use Rattle.tree.specs.Memory.{Memory, reads, is_some}
use Rattle.tree.specs.Test.{Test, lt, le, ne, is, ◌and◌, ◌or◌, holds}
use Rattle.tree.specs.declared.layout.Geometry.{Geometry}
use Rattle.tree.specs.Layout.{bad_image, bad_edition, map_words, geometry_of}
use Rattle.tree.specs.Fingerprint.{has_own, rule_of, bad_own, bad_given}
use Rattle.tree.specs.Slots.{slot_of, empty_slot}
use Rattle.tree.specs.Path.{child}
use Rattle.tree.specs.declared.path.Spot.{Spot}
use Rattle.tree.specs.declared.path.Room.{Room}
use Rattle.tree.specs.declared.path.Room.TheVariants.{Clear, ScaleUp, BranchOut}
use Rattle.tree.specs.Lookup.{spot, path_from, find, free_run}
use Rattle.tree.specs.Subtree.{listing}
use Rattle.tree.specs.Check.{is_sound_tree, is_sound}
use Rattle.tree.specs.Groups.{first_group}
use Rattle.book.specs.declared.Target.{Target}
use Rattle.book.specs.Heads.{head_count, head_at, is_idle, is_claimed, is_filled, target_of, any_head, busy, conflicts}
use Rattle.book.specs.Refusals.{Refusal, ◌gives◌}
use Rattle.tree.specs.Room.{room_on, needs, at_level31}
use Rattle.book.specs.State.{State, Operation, format, recover, open_reel, claim, fill, commit, abandon, remove, retire, tidy, query, Query, has, list, convert}

-- 3: a map, or a scratch map, is not of the map's length; a script is too short
abbrev pub bad_map : Geometry → ℕ → Test
bad_map g words = ne words (map_words g)

abbrev pub bad_script : ℕ → Test
bad_script words = lt words 50

-- 1, 2 and 3 first, for what is borrowed
abbrev pub first_three : List ℕ → Test → List Refusal → List Refusal
first_three image buffers rest =
    let m = reads image in
    (bad_image (length image) (geometry_of m) gives 1) ∷ (bad_edition m gives 2) ∷ (buffers gives 3) ∷ rest

-- and just after 3, 4 for a bad table: every order but Format, and Recover and Convert, whose 4 has it
abbrev pub checked : List ℕ → Test → List Refusal → List Refusal
checked image buffers rest = first_three image buffers ((bad_own (reads image) gives 4) ∷ rest)

-- 4 in Fill, Commit and Abandon: node or place is outside
abbrev pub outside : Geometry → Target → Test
outside g t = le g.nodes t.node or le 64 t.place

-- 4 on a frame's path: a node of it is malformed
abbrev pub no_path : Option (List ℕ) → Test
no_path ns = is (not (is_some ns))

-- the place that a claim takes; start is the new group's first node
abbrev pub place_in : Room → (start f : ℕ) → Spot
place_in (Clear t) start f = t
place_in (ScaleUp n size) start f = spot n size
place_in (BranchOut parent d) start f = spot (start + child d f) 0

-- what the claim's head is about then
abbrev pub target_in : (slot : ℕ) → Room → (start f : ℕ) → Target
target_in slot r start f = record { slot = slot; node = (place_in r start f).node; place = (place_in r start f).place; frame = f }

-- 8: the room takes nodes, and no run of them is free
abbrev pub no_run_for : Geometry → (map : Memory) → Room → Test
no_run_for g map r = lt 0 (needs r) and le g.nodes (free_run g map (needs r))

-- 13 in Claim: another head conflicts with it (its own is idle by 12); a claim that finds no run uses no node
abbrev pub in_conflict : Geometry → (map : Memory) → (heads : List ℕ) → (slot : ℕ) → Room → (f : ℕ) → Test
in_conflict g map heads slot r f =
    is (any_head (conflicts (target_in slot r (free_run g map (needs r)) f) (not (holds (no_run_for g map r)))) heads)

-- 4 in Recover and Convert: the image is not sound, one with a bad table is not
abbrev pub not_sound : Memory → Test
not_sound m = bad_own m or is (not (is_sound (rule_of m) (geometry_of m) m))

-- the orders that only read
abbrev pub query_refusals : Query → List ℕ → List Refusal
query_refusals (has reel f) image =
    let m = reads image in
    let g = geometry_of m in
    let slot = slot_of g m reel in
    checked image (is false) ((le g.slots slot gives 5) ∷ (no_path (path_from g m slot f) gives 4) ∷ [])
query_refusals (list scratch room reel) image =
    let m = reads image in
    let g = geometry_of m in
    let slot = slot_of g m reel in
    checked image (bad_map g scratch)
    ((le g.slots slot gives 5)
    ∷ (is (not (is_sound_tree g m slot)) gives 4)
    ∷ (lt room (length (listing g m slot)) gives 14)
    ∷ [])
-- the second image must be as long as the image; 17: an own table can't go to edition 1
query_refusals (convert scratch copy) image =
    let m = reads image in
    let g = geometry_of m in
    (bad_image (length image) g or ne copy (length image) gives 1)
    ∷ (bad_edition m gives 2)
    ∷ (bad_map g scratch gives 3)
    ∷ (not_sound m gives 4)
    ∷ (is (has_own m) gives 17)
    ∷ []

unfoldable pub refusals : Operation → State → List Refusal
refusals op s =
    let m = reads s.image in
    let g = geometry_of m in
    let head = head_at s.heads in
    elim op [
      | format map table slots nodes ↦
          let g' : Geometry = record { slots = slots; nodes = nodes } in
          (bad_image (length s.image) g' gives 1) ∷ (bad_map g' map gives 3) ∷ (bad_given table gives 16) ∷ []
      | recover map ↦
          first_three s.image (bad_map g map) ((not_sound m gives 4) ∷ [])
      | open_reel map script reel ↦
          checked s.image (bad_map g map or bad_script script)
          ((lt (slot_of g m reel) g.slots gives 6) ∷ (le g.slots (empty_slot g m) gives 7) ∷ (le g.nodes (free_run g (reads s.pool) 1) gives 8) ∷ [])
      | claim map script h reel f ↦
          let slot = slot_of g m reel in
          let ns = path_from g m slot f in
          let r = room_on g m ns in
          checked s.image (bad_map g map or bad_script script)
          ((le head_count h gives 11)
          ∷ (is (not (is_idle (head h))) gives 12)
          ∷ (le g.slots slot gives 5)
          ∷ (no_path ns or is (at_level31 r) gives 4)
          ∷ (is (is_some (find (rule_of m) g m slot f)) gives 9)
          ∷ (in_conflict g (reads s.pool) s.heads slot r f gives 13)
          ∷ (no_run_for g (reads s.pool) r gives 8)
          ∷ [])
      | fill script h ↦
          checked s.image (bad_script script)
          ((le head_count h gives 11) ∷ (is (not (is_claimed (head h))) gives 12) ∷ (outside g (target_of (head h)) gives 4) ∷ [])
      | commit script h ↦
          checked s.image (bad_script script)
          ((le head_count h gives 11) ∷ (is (not (is_filled (head h))) gives 12) ∷ (outside g (target_of (head h)) gives 4) ∷ [])
      | abandon script h ↦
          checked s.image (bad_script script)
          ((le head_count h gives 11) ∷ (is (is_idle (head h)) gives 12) ∷ (outside g (target_of (head h)) gives 4) ∷ [])
      | remove script reel f ↦
          let slot = slot_of g m reel in
          checked s.image (bad_script script)
          ((le g.slots slot gives 5)
          ∷ (is (busy s.heads slot) gives 13)
          ∷ (no_path (path_from g m slot f) gives 4)
          ∷ (is (not (is_some (find (rule_of m) g m slot f))) gives 10)
          ∷ [])
      | retire map scratch script reel ↦
          let slot = slot_of g m reel in
          checked s.image (bad_map g map or bad_map g scratch or bad_script script)
          ((le g.slots slot gives 5) ∷ (is (busy s.heads slot) gives 13) ∷ (is (not (is_sound_tree g m slot)) gives 4) ∷ [])
      | tidy map scratch script reel ↦
          let slot = slot_of g m reel in
          checked s.image (bad_map g map or bad_map g scratch or bad_script script)
          ((le g.slots slot gives 5)
          ∷ (is (busy s.heads slot) gives 13)
          ∷ (is (not (is_sound_tree g m slot)) gives 4)
          ∷ (is (not (is_some (first_group g m slot))) gives 18)
          ∷ [])
      | query q ↦ query_refusals q s.image
    ]
