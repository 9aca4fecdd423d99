-- The listing of a group, node by node, and of a node: its own frames, then those of its children.
use mathlib.Core.Path.{◌≡◌}
use mathlib.Core.Bool.{true}
use mathlib.Core.Logic.{◌≢◌}
use mathlib.Core.List.{List, ◌++◌}
use Prim.Native.Nat.{ℕ, ◌+◌, ◌-◌, ◌≤◌, ◌<◌}
use native.Mathlib.Omega.{arith}
use lib.ListN.{length}
use borrow.Rule.Slice.PartMut.{mid_of, put_mid}
use Rattle.memory.specs.Words.{Memory}
use Rattle.tree.specs.declared.layout.Geometry.{Geometry}
use Rattle.tree.specs.Lists.{every}
use Rattle.tree.specs.Layout.{next_at}
use Rattle.tree.specs.Path.{levels, fanout}
use Rattle.tree.specs.Subtree.{frames_in, listed}
use Rattle.visits.specs.Walk.{stops, group_stops, formed_at, frames_at}
use Rattle.walks.proofs.Listings.{Writing, starts, ends, rest_room, several, begun}
use Rattle.visits.proofs.StopFacts.{group_formed}
use Rattle.walks.proofs.ListingsStops.{group_frames, group_end, linked_frames}

module _ (g : Geometry) (m : Memory) (left : ℕ) where
  -- the frames of a node and of a group, levels left
  abbrev pub of_node : ℕ → List ℕ
  of_node n = frames_at g m (stops g m left (levels - left) n)

  abbrev pub of_group : (start count : ℕ) → List ℕ
  of_group start count = frames_at g m (group_stops g m left (levels - left) start count)

  module _ (start count : ℕ) (buffer : List ℕ) where
    -- the first c nodes of a group are listed, k frames, and the others are left
    pub record Group (list : List ℕ) (k c : ℕ) : Type 0 where
      pub within : c ≤ count
      pub formed : every (formed_at g m) (group_stops g m left (levels - left) (start + c) (count - c)) ≡ true
      pub writing : Writing (of_group start count) buffer k (of_group (start + c) (count - c)) list

    pub group_starts : every (formed_at g m) (group_stops g m left (levels - left) start count) ≡ true → Group buffer 0 0
    group_starts h =
        let e : count - 0 ≡ count = omega arith in
        let f : start + 0 ≡ start = omega arith in
        record { within = omega arith; formed = rw (e, f) h; writing = rw (e, f) (starts _ _) }

    -- the next node is well formed, and so is all below it; the rest of the list has room for its frames
    pub record Next (list : List ℕ) (k c : ℕ) : Type 0 where
      pub formed : every (formed_at g m) (stops g m left (levels - left) (start + c)) ≡ true
      pub fits : k + length (of_node (start + c)) ≤ length list
      pub room : length (of_node (start + c)) ≤ length (mid_of k (length list - k) list)

    module _ (roomy : length (of_group start count) ≤ length buffer) where
      parts : (c : ℕ) → c < count → of_group (start + c) (count - c) ≡ of_node (start + c) ++ of_group (start + (c + 1)) (count - (c + 1))
      parts c h = group_frames g m left (levels - left) (start + c) (count - c) (start + (c + 1)) (count - (c + 1)) (omega arith) (omega arith) (omega arith)

      formed_parts : (c : ℕ) → c < count → every (formed_at g m) (group_stops g m left (levels - left) (start + c) (count - c)) ≡ true
          → (every (formed_at g m) (stops g m left (levels - left) (start + c)) ≡ true)
          × (every (formed_at g m) (group_stops g m left (levels - left) (start + (c + 1)) (count - (c + 1))) ≡ true)
      formed_parts c h =
          group_formed g m left (levels - left) (start + c) (count - c) (start + (c + 1)) (count - (c + 1)) (omega arith) (omega arith) (omega arith)

      pub group_next : {list : List ℕ} {k c : ℕ} → c < count → Group list k c → Next list k c
      group_next {c = c} h w =
          let room = rest_room (of_node (start + c)) (of_group (start + (c + 1)) (count - (c + 1))) (parts c h) roomy w.writing in
          record { formed = (formed_parts c h w.formed).0; fits = room.0; room = room.1 }

      pub group_more : {list : List ℕ} {k c : ℕ} (r : ℕ) (ys : List ℕ) → c < count → Group list k c → r ≡ length (of_node (start + c))
          → ys ≡ listed (of_node (start + c)) (mid_of k (length list - k) list) → Group (put_mid k (length list - k) list ys) (k + r) (c + 1)
      group_more {c = c} r ys h w p q = record {
        within = omega arith;
        formed = (formed_parts c h w.formed).1;
        writing = rw p (several (of_node (start + c)) (of_group (start + (c + 1)) (count - (c + 1))) ys (parts c h) roomy w.writing q);
      }

    pub group_ends : {list : List ℕ} {k c : ℕ} → count ≤ c → Group list k c
        → (k ≡ length (of_group start count)) × (list ≡ listed (of_group start count) buffer)
    group_ends {c = c} h w = ends (rw (group_end g m left (levels - left) (start + c) (count - c) (omega (arith, w.within))) at w.writing)

-- ---- a node with children

module _ (g : Geometry) (m : Memory) (left next : ℕ) where
  -- the frames of the children, which next names, and of all below them
  abbrev pub below : List ℕ
  below = of_group g m (left - 1) (next - 1) (fanout (levels - left))

  -- the node's own frames are written, r of them, and those below are left
  pub own_written : (n : ℕ) (buffer list : List ℕ) (r : ℕ) → 1 ≤ left → left ≤ 32 → next ≡ m (next_at g n) → next ≢ 0
      → length (of_node g m left n) ≤ length buffer
      → r ≡ length (frames_in g m n)
      → list ≡ listed (frames_in g m n) buffer
      → Writing (of_node g m left n) buffer r below list
  own_written n buffer list r l h t o roomy p q = rw (p, q) (begun (frames_in g m n) below buffer (linked_frames g m left n l h t o) roomy)
