-- The operations, over any contents, any numbers and any lengths.
use Rattle.std.specs.Prelude.{Bool, true, false, cond, ◌&&◌, ◌||◌, ℕ, suc, ◌+◌, ◌-◌, ◌*◌, ◌%◌, length, eqb, ltb}
use Rattle.std.proofs.Math.Option.{Option, none, some}
use mathlib.Core.List.{List, [], ◌∷◌, ◌++◌, map, flat_map}
use Rattle.tree.specs.Memory.{Memory, reads, with_bit, without_bit, with_byte, Store, stores, apply, is_some}
use Rattle.tree.specs.declared.layout.Geometry.{Geometry}
use Rattle.tree.specs.Layout.{map_words, own_at, table_at, reel_at, root_at, next_at, locate_at, set_at, level_at, size_at, fingerprints_at, frame_at, geometry_of}
use Rattle.tree.specs.Lists.{range, up_to}
use Rattle.tree.specs.Path.{fanout}
use Rattle.tree.specs.Fingerprint.{Rule, fingerprint, rule_of, is_given, packed}
use Rattle.tree.specs.Slots.{slot_of, empty_slot}
use Rattle.tree.specs.declared.path.Spot.{Spot}
use Rattle.tree.specs.Lookup.{spot, path_from, find, free_run}
use Rattle.tree.specs.Subtree.{Visit, visit, tree, all_trees, nodes_of, listing}
use Rattle.tree.specs.Groups.{first_group}
use Rattle.tree.specs.Recovery.{recover_stores}
use Rattle.tree.specs.Convert.{converted_image}
use Rattle.tree.specs.Pool.{mark, mark_all, unmark_all, clear_map, map_of}
use Rattle.book.specs.declared.Target.{Target}
use Rattle.book.specs.declared.HeadState.{HeadState}
use Rattle.book.specs.declared.HeadState.TheVariants.{Idle, Claimed, Filled}
use Rattle.book.specs.Heads.{head_at, target_of, with_head, idle_heads}
use Rattle.book.specs.Refusals.{refusal}
use Rattle.tree.specs.declared.path.Room.{Room}
use Rattle.tree.specs.declared.path.Room.TheVariants.{Clear, ScaleUp, BranchOut}
use Rattle.tree.specs.Room.{room_on, needs, places_left}
use Rattle.book.specs.State.{State, Operation, format, recover, open_reel, claim, fill, commit, abandon, remove, retire, tidy, query, Query, has, list, convert, Handed, handing, handing_frames, handing_copy, nothing_handed, Work, leaving, Outcome}
use Rattle.book.specs.Checks.{place_in, target_in, refusals}

-- ---- what is written

-- Format: words 0 to 63, those of edition 2, and all roots 0
unfoldable pub format_stores : Geometry → List Store
format_stores g =
    (0, 2) ∷ (1, g.slots) ∷ (2, g.nodes)
    ∷ (map (λ i. (i, 0)) (range 3 61) ++ map (λ s. (root_at s, 0)) (up_to g.slots))

-- then a table that is given: word 3 is 1, and words 8 to 39 have it
unfoldable pub table_stores : List ℕ → List Store
table_stores table = (own_at, 1) ∷ map (λ j. (table_at + j, packed table j)) (up_to 32)

-- and nothing where none is given
abbrev pub given_stores : List ℕ → List Store
given_stores table = cond (is_given table) (table_stores table) []

-- the image once it is formatted
abbrev pub formatted : (table : List ℕ) → Geometry → (image : List ℕ) → List ℕ
formatted table g image = apply (apply image (stores (format_stores g))) (stores (given_stores table))

-- a node made anew: next, locate and set 0, its level, its size
abbrev pub new_node : Geometry → (node level size : ℕ) → List Store
new_node g n level size = (next_at g n, 0) ∷ (locate_at g n, 0) ∷ (set_at g n, 0) ∷ (level_at g n, level) ∷ (size_at g n, size) ∷ []

-- Open: the root node and the reel number, then the root
unfoldable pub open_script : Geometry → (slot node reel : ℕ) → List (List Store)
open_script g slot n reel = (new_node g n 0 16 ++ ((reel_at slot, reel) ∷ [])) ∷ ((root_at slot, n + 1) ∷ []) ∷ []

-- the nodes of a group of children
abbrev pub group : (start depth : ℕ) → List ℕ
group start d = range start (fanout d)

-- the scale-up or branch-out that comes before the locate store
unfoldable pub room_script : Geometry → Room → (start : ℕ) → List (List Store)
room_script g (Clear t) start = []
room_script g (ScaleUp n size) start = ((size_at g n, 2 * size) ∷ []) ∷ []
room_script g (BranchOut parent d) start =
    flat_map (λ n. new_node g n (suc d) 64) (group start d) ∷ ((next_at g parent, start + 1) ∷ []) ∷ []

-- the locate word of the place that a claim takes, as it is then: 0 in a node made anew
abbrev pub locate_then : Geometry → Memory → Room → ℕ → ℕ
locate_then g m (Clear t) n = m (locate_at g n)
locate_then g m (ScaleUp n' size) n = m (locate_at g n)
locate_then g m (BranchOut parent d) n = 0

-- Claim: room is made, then locate with the bit
unfoldable pub claim_script : Geometry → Memory → Room → (start f : ℕ) → List (List Store)
claim_script g m r start f =
    let t = place_in r start f in
    room_script g r start ++ (((locate_at g t.node, with_bit (locate_then g m r t.node) t.place) ∷ []) ∷ [])

-- the nodes that a claim takes
abbrev pub taken : Room → (start : ℕ) → List ℕ
taken (Clear t) start = []
taken (ScaleUp n size) start = []
taken (BranchOut parent d) start = group start d

-- Fill: the frame, then the fingerprint word with its other seven bytes kept
unfoldable pub fill_script : Rule → Geometry → Memory → Target → List (List Store)
fill_script r g m t =
    let i = fingerprints_at g t.node t.place in
    ((frame_at g t.node t.place, t.frame) ∷ []) ∷ ((i, with_byte (m i) (t.place % 8) (fingerprint r t.frame)) ∷ []) ∷ []

-- one bit of a bitmap word on, or off
abbrev pub bit_on : Memory → (index place : ℕ) → List Store
bit_on m i p = (i, with_bit (m i) p) ∷ []

abbrev pub bit_off : Memory → (index place : ℕ) → List Store
bit_off m i p = (i, without_bit (m i) p) ∷ []

-- Remove: set without the bit, then locate without it
unfoldable pub remove_script : Geometry → Memory → Spot → List (List Store)
remove_script g m t = bit_off m (set_at g t.node) t.place ∷ bit_off m (locate_at g t.node) t.place ∷ []

-- the place where the lookup found a frame; any value where it found none: Remove is refused 10 before it is used
abbrev pub found_spot : Option Spot → Spot
found_spot none = spot 0 0
found_spot (some t) = t

-- Tidy: 0 to next of the node whose children go
unfoldable pub tidy_script : Geometry → (node : ℕ) → List (List Store)
tidy_script g n = ((next_at g n, 0) ∷ []) ∷ []

-- the node that Tidy's search found; any value where it found none: Tidy is refused 18 before it is used
abbrev pub found_visit : Option Visit → Visit
found_visit none = visit [] 0
found_visit (some v) = v

-- a node's children, where it has any
abbrev pub children_of : Geometry → Memory → Visit → List ℕ
children_of g m v = group (m (next_at g v.node) - 1) (length v.way)

abbrev pub one_if : Bool → ℕ
one_if b = cond b 1 0

-- the number of nodes on a frame's path, wherever on it the frame is found; 0 where a node of it is malformed: Has is refused 4 then
abbrev pub nodes_on : Option (List ℕ) → ℕ
nodes_on none = 0
nodes_on (some ns) = length ns

-- ---- what an answered operation does

-- a script, and the state as it is left
abbrev pub writing : List (List Store) → State → Work
writing script s = record { script = script; handed = nothing_handed; after = s }

-- the state with a head's record written
abbrev pub put_head : State → ℕ → HeadState → State
put_head s h x = record { image = s.image; pool = s.pool; heads = with_head s.heads h x }

-- what an order that only reads hands back
abbrev pub queried : Query → List ℕ → Handed
queried (has reel f) image =
    let m = reads image in
    let g = geometry_of m in
    let slot = slot_of g m reel in
    handing (one_if (is_some (find (rule_of m) g m slot f))) (nodes_on (path_from g m slot f))
queried (list scratch room reel) image =
    let m = reads image in
    let g = geometry_of m in
    handing_frames (listing g m (slot_of g m reel))
queried (convert scratch copy) image = handing_copy (converted_image image)

unfoldable pub granted : Operation → State → Work
granted op s =
    let m = reads s.image in
    let g = geometry_of m in
    let target : ℕ → Target = λ h. target_of (head_at s.heads h) in
    elim op [
      | format words table slots nodes ↦
          let g' : Geometry = record { slots = slots; nodes = nodes } in
          leaving (record { image = formatted table g' s.image; pool = clear_map (map_words g'); heads = idle_heads })
      | recover words ↦
          leaving (record {
            image = apply s.image (stores (recover_stores g m));
            pool = map_of g (nodes_of (all_trees g m));
            heads = idle_heads;
          })
      | open_reel words script reel ↦
          let n = free_run g (reads s.pool) 1 in
          writing (open_script g (empty_slot g m) n reel) (record { image = s.image; pool = mark s.pool n; heads = s.heads })
      | claim words script h reel f ↦
          let slot = slot_of g m reel in
          let r = room_on g m (path_from g m slot f) in
          let start = free_run g (reads s.pool) (needs r) in
          writing (claim_script g m r start f) (record {
            image = s.image;
            pool = mark_all s.pool (taken r start);
            heads = with_head s.heads h (Claimed (target_in slot r start f));
          })
      | fill script h ↦
          writing (fill_script (rule_of m) g m (target h)) (put_head s h (Filled (target h)))
      | commit script h ↦ writing (bit_on m (set_at g (target h).node) (target h).place ∷ []) (put_head s h Idle)
      | abandon script h ↦ writing (bit_off m (locate_at g (target h).node) (target h).place ∷ []) (put_head s h Idle)
      | remove script reel f ↦ writing (remove_script g m (found_spot (find (rule_of m) g m (slot_of g m reel) f))) s
      | retire words scratch script reel ↦
          let slot = slot_of g m reel in
          writing (((root_at slot, 0) ∷ []) ∷ [])
          (record { image = s.image; pool = unmark_all s.pool (nodes_of (tree g m slot)); heads = s.heads })
      | tidy words scratch script reel ↦
          let v = found_visit (first_group g m (slot_of g m reel)) in
          writing (tidy_script g v.node)
          (record { image = s.image; pool = unmark_all s.pool (children_of g m v); heads = s.heads })
      | query q ↦ record { script = []; handed = queried q s.image; after = s }
    ]

-- ---- any operation

-- what a refusal leaves: everything, but for the map that a recovery refused 4 clears
unfoldable pub leaves : Operation → State → ℕ → State
leaves (recover words) s n = cond (eqb n 4) (record { image = s.image; pool = clear_map words; heads = s.heads }) s
leaves (format words table slots nodes) s n = s
leaves (open_reel words script reel) s n = s
leaves (claim words script h reel f) s n = s
leaves (fill script h) s n = s
leaves (commit script h) s n = s
leaves (abandon script h) s n = s
leaves (remove script reel f) s n = s
leaves (retire words scratch script reel) s n = s
leaves (tidy words scratch script reel) s n = s
leaves (query q) s n = s

-- an end that is none of 1, 2 and 3
abbrev pub past_checks : ℕ → Bool
past_checks n = eqb n 0 || ltb 3 n

abbrev pub borrows_scratch : Query → Bool
borrows_scratch (has reel f) = false
borrows_scratch (list scratch room reel) = true
borrows_scratch (convert scratch copy) = true

-- List's, Retire's, Tidy's and Convert's scratch map is all 0 after any end but 1, 2 or 3
unfoldable pub clears : Operation → ℕ → Bool
clears (query q) n = borrows_scratch q && past_checks n
clears (retire words scratch script reel) n = past_checks n
clears (tidy words scratch script reel) n = past_checks n
clears (format words table slots nodes) n = false
clears (recover words) n = false
clears (open_reel words script reel) n = false
clears (claim words script h reel f) n = false
clears (fill script h) n = false
clears (commit script h) n = false
clears (abandon script h) n = false
clears (remove script reel f) n = false

-- places left: how many clear places the node of an answered claim has left once its place is taken
abbrev pub left_by : Operation → State → ℕ
left_by (claim words script h reel f) s =
    let m = reads s.image in
    let g = geometry_of m in
    places_left g m (room_on g m (path_from g m (slot_of g m reel) f))
left_by (format words table slots nodes) s = 0
left_by (recover words) s = 0
left_by (open_reel words script reel) s = 0
left_by (fill script h) s = 0
left_by (commit script h) s = 0
left_by (abandon script h) s = 0
left_by (remove script reel f) s = 0
left_by (retire words scratch script reel) s = 0
left_by (tidy words scratch script reel) s = 0
left_by (query q) s = 0

unfoldable pub perform : Operation → State → Outcome
perform op s =
    let n = refusal (refusals op s) in
    let granting = eqb n 0 in
    record {
      answer = n;
      work = cond granting (granted op s) (leaving (leaves op s n));
      cleared = clears op n;
      places_left_lem = cond granting (left_by op s) 0;
    }
