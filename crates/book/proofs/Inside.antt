-- What the tests of an answered operation give about the indices that it writes to.
use mathlib.Core.Path.{◌≡◌, refl}
use mathlib.Core.Bool.{false, not}
use mathlib.Core.Logic.{◌⊎◌, inl, inr}
use mathlib.Core.Option.{some}
use mathlib.Core.List.{List}
use Prim.Native.Nat.{ℕ, ◌+◌, ◌*◌, ◌^◌, ◌≤◌, ◌<◌}
use native.Mathlib.Omega.{arith}
use lib.Dec.{eqb, ltb}
use borrow.Author.Tests.{lt-ltb}
use Rattle.tree.specs.Memory.{Memory, reads, is_some, Fit}
use Rattle.tree.specs.declared.layout.Geometry.{Geometry}
use Rattle.tree.specs.Layout.{bad_image, image_words}
use Rattle.tree.specs.Path.{levels, fanout}
use Rattle.tree.specs.Fingerprint.{Rule}
use Rattle.tree.specs.declared.path.Spot.{Spot}
use Rattle.tree.specs.Lookup.{first_spot, path_from, found_at, lookup, find, free_run}
use Rattle.book.specs.Heads.{state_of, head_at, target_of}
use Rattle.tree.specs.declared.path.Room.{Room}
use Rattle.tree.specs.declared.path.Room.TheVariants.{Clear, ScaleUp, BranchOut}
use Rattle.tree.specs.Room.{room_on}
use Rattle.book.specs.Perform.{found_spot}
use Rattle.tree.proofs.Cases.{test, seen, nothing, just, none_some, true_not_false}
use Rattle.tree.proofs.Nodes.{size_most}
use Rattle.tree.proofs.PathNodes.{Formed, PathNodes, path_from_nodes, found_formed, room_by}
use Rattle.tree.proofs.Laws.{run_laws}
use Rattle.book.proofs.Refusals.{Denies}

-- ---- the header

-- an image of so many words has this geometry, within its range
pub record Sized (words : ℕ) (g : Geometry) : Type 0 where
  pub slots : g.slots ≤ 4096
  pub nodes : g.nodes ≤ 65536
  pub length : words ≡ image_words g

pub sized : (words : ℕ) (g : Geometry) → Denies (bad_image words g) → Sized words g
unfolding bad_image
sized words g d = record { slots = omega arith; nodes = omega arith; length = d.1 }

-- ---- places on a path

module _ (g : Geometry) (m : Memory) where
  pub record SpotInside (t : Spot) : Type 0 where
    pub node : t.node < g.nodes
    pub place : t.place < 64

  -- what a search finds that is bounded by 64
  spot_inside : (search bound : ℕ → ℕ) (left : ℕ) (ns : List ℕ) (t : Spot) → ((n : ℕ) → Formed g m n → bound n ≤ 64) → PathNodes g m left ns
      → first_spot search bound ns ≡ some t → SpotInside t
  spot_inside search bound left ns t b p h =
      let a = found_formed g m p search bound t h in
      record { node = a.0.is.inside; place = omega (arith, a.1, b t.node a.0) }

  -- where the lookup finds a frame
  found_inside : (r : Rule) (s f : ℕ) (t : Spot) → find r g m s f ≡ some t → SpotInside t
  unfolding find lookup
  found_inside r s f t h = elim (seen (path_from g m s f)) [
    | nothing q ↦ none_some (rw q at h)
    | just ns q ↦ spot_inside (found_at r g m f) (λ n. 64) levels ns t (λ n a. omega arith) (path_from_nodes g m s f ns q) (rw q at h)
  ]

  pub find_inside : (r : Rule) (s f : ℕ) → not (is_some (find r g m s f)) ≡ false → SpotInside (found_spot (find r g m s f))
  find_inside r s f h = elim (seen (find r g m s f)) [
    | nothing q ↦ absurd (true_not_false refl (rw q at h))
    | just t q ↦ rw q (found_inside r s f t q)
  ]

  -- ---- where a claim takes its place

  abbrev pub RoomInside : Room → Type 0
  RoomInside (Clear t) = SpotInside t
  RoomInside (ScaleUp n size) = (n < g.nodes) × (size < 64)
  RoomInside (BranchOut parent d) = (parent < g.nodes) × (d < levels)

  pub path_room : (s f : ℕ) → not (is_some (path_from g m s f)) ≡ false → RoomInside (room_on g m (path_from g m s f))
  path_room =
      room_by g m RoomInside (λ t a l. record { node = a.is.inside; place = omega (arith, size_most a.is) }) (λ n a l. (a.is.inside, l))
      (λ n d a l. (a.is.inside, l))

-- the nodes that it takes from the pool
pub run_inside : (g : Geometry) (map : Memory) (k : ℕ) → (k ≤ 0) ⊎ (free_run g map k < g.nodes) → 0 < k → free_run g map k + k ≤ g.nodes
run_inside g map k o h = elim o [ inl z ↦ absurd (omega arith) | inr l ↦ ((run_laws g map k).found l).inside ]

pub fanout_few : (d : ℕ) → d < 31 → (0 < fanout d) × (fanout d ≤ 4)
unfolding fanout
fanout_few d h = elim (test (ltb d 3)) [ inl e ↦ rw e (omega arith) | inr e ↦ rw (e, lt-ltb d 31 h) (omega arith) ]

-- ---- values

-- a head's frame is one of the heads' words, or 0
pub target_fits : (heads : List ℕ) (h : ℕ) → Fit heads → (target_of (head_at heads h)).frame < 2 ^ 64
unfolding head_at state_of
target_fits heads h fits = elim (test (eqb (reads heads (5 * h)) 1)) [
  | inl e ↦ rw e (fits (5 * h + 4))
  | inr e ↦ elim (test (eqb (reads heads (5 * h)) 2)) [ inl e' ↦ rw (e, e') (fits (5 * h + 4)) | inr e' ↦ rw (e, e') (omega arith) ]
]
