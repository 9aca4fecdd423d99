-- Claim: the room for its frame, and how each way through the code ends.
use mathlib.Core.Path.{◌≡◌, refl, sym}
use mathlib.Core.Bool.{Bool, true, false, cond, not}
use mathlib.Core.Logic.{inl, inr}
use mathlib.Core.Option.{Option, none, some}
use mathlib.Core.List.{List, [], ◌∷◌}
use Prim.Native.Nat.{ℕ, suc, ◌+◌, ◌-◌, ◌*◌, ◌≤◌, ◌<◌}
use native.Mathlib.Omega.{arith}
use lib.ListN.{length}
use lib.Dec.{ltb}
use borrow.Author.Tests.{eqb-false}
use borrow.Rule.Slice.PartMut.{mid_of, put_mid}
use Rattle.tree.specs.Memory.{Memory, is_some, with_bit, segmented, written}
use Rattle.tree.specs.Test.{is, ◌or◌, holds}
use Rattle.tree.specs.declared.layout.Geometry.{Geometry}
use Rattle.tree.specs.Layout.{next_at, locate_at, size_at}
use Rattle.tree.specs.Lists.{range}
use Rattle.tree.specs.Path.{fanout}
use Rattle.tree.specs.declared.path.Spot.{Spot}
use Rattle.tree.specs.declared.path.Room.{Room}
use Rattle.tree.specs.declared.path.Room.TheVariants.{Clear, ScaleUp, BranchOut}
use Rattle.tree.specs.Fingerprint.{rule_of}
use Rattle.tree.specs.Lookup.{path_from, lookup, lookup_on, find}
use Rattle.tree.specs.Room.{room_on, places_left, needs, at_level31}
use Rattle.tree.specs.Pool.{mark_all}
use Rattle.tree.proofs.Cases.{test}
use Rattle.tree.proofs.Laws.{child_laws}
use Rattle.tree.proofs.Memory.{segment_laws}
use Rattle.std.specs.Prelude.{Result, Ok, Err}
use Rattle.paths.specs.declared.descent.NoVacancy.{NoVacancy}
use Rattle.paths.specs.declared.descent.NoVacancy.TheVariants.{Malformed, Full, Held}
use Rattle.paths.specs.declared.descent.Vacancy.{Vacancy}
use Rattle.paths.specs.Answers.{on_path, vacancy, placement_on, placement_from}
use Rattle.book.specs.declared.HeadState.{HeadState}
use Rattle.book.specs.declared.HeadState.TheVariants.{Idle, Claimed, Filled}
use Rattle.book.specs.Heads.{is_idle}
use Rattle.book.specs.Checks.{no_path, place_in}
use Rattle.book.specs.Perform.{room_script, locate_then}
use Rattle.book.proofs.Refusals.{denies}
use Rattle.book.proofs.Inside.{RoomInside, path_room, fanout_few}
use Rattle.operations.proofs.ScriptWords.{words_of}
use Rattle.claims.specs.Rooms.{depth_of, InPool, RoomMade, Taken}
use Rattle.rooms.proofs.ClaimingScripts.{branched, branched_words, located_words, located_written}

-- a state that the code did not take apart as idle
pub not_idle : (y : HeadState) → (y ≡ Idle → ⊥) → not (is_idle y) ≡ true
not_idle Idle k = absurd (k refl)
not_idle (Claimed t) k = refl
not_idle (Filled t) k = refl

-- a room takes four nodes at most
pub needs_few : (r : Room) → needs r ≤ 4
unfolding fanout
needs_few (Clear t) = omega arith
needs_few (ScaleUp n size) = omega arith
needs_few (BranchOut parent d) = elim (test (ltb d 3)) [
  | inl e ↦ rw e (omega arith)
  | inr e ↦ elim (test (ltb d 31)) [ inl l ↦ rw (e, l) (omega arith) | inr l ↦ rw (e, l) (omega arith) ]
]

-- ---- what is found on the path

-- by the tests of the path, and the room on it with the places left
abbrev pub Says : (bad held : Bool) → Vacancy → Result Vacancy NoVacancy → Type 0
Says bad held v (Err Malformed) = bad ≡ true
Says bad held v (Err Full) = bad ≡ true
Says bad held v (Err Held) = (bad ≡ false) × (held ≡ true)
Says bad held v (Ok v') = (bad ≡ false) × (held ≡ false) × (v' ≡ v)

by_tests : (full held : Bool) (v : Vacancy) → Says full held v (cond full (Err Full) (cond held (Err Held) (Ok v)))
by_tests true held v = refl
by_tests false true v = (refl, refl)
by_tests false false v = (refl, refl, refl)

module _ (g : Geometry) (m : Memory) (s f : ℕ) where
  -- 4 and 9
  abbrev pub path_bad : Bool
  path_bad = holds (no_path (path_from g m s f) or is (at_level31 (room_on g m (path_from g m s f))))

  abbrev pub frame_held : Bool
  frame_held = is_some (find (rule_of m) g m s f)

  abbrev vacancy_on : Option (List ℕ) → Vacancy
  vacancy_on o = let r = room_on g m o in vacancy r (places_left g m r)

  pub placement_says : (x : Result Vacancy NoVacancy) → x ≡ placement_from g m s f → Says path_bad frame_held (vacancy_on (path_from g m s f)) x
  unfolding placement_from placement_on find
  placement_says x e = rw e (on (path_from g m s f))
    where
      on : (o : Option (List ℕ))
          → Says (holds (no_path o or is (at_level31 (room_on g m o)))) (is_some (lookup_on (rule_of m) g m f o)) (vacancy_on o) (on_path (Err Malformed) (placement_on g m f) o)
      on none = refl
      on (some ns) = by_tests (at_level31 (room_on g m (some ns))) (is_some (lookup (rule_of m) g m f ns)) (vacancy_on (some ns))

  -- the room's numbers are inside
  room_fits : (v : Vacancy) → Ok v ≡ placement_from g m s f → RoomInside g m v.room × (at_level31 v.room ≡ false)
  room_fits v e =
      let p = placement_says (Ok v) e in
      let d = denies (no_path (path_from g m s f) or is (at_level31 (room_on g m (path_from g m s f)))) p.0 in
      rw p.2 (path_room g m s f d.0, d.1)

  module _ {v : Vacancy} (e : Ok v ≡ placement_from g m s f) where
    pub in_pool : (start : ℕ) → start + needs v.room ≤ g.nodes → InPool g v.room start
    in_pool start l = go v.room (room_fits v e) l
      where
        go : (r : Room) → RoomInside g m r × (at_level31 r ≡ false) → start + needs r ≤ g.nodes → InPool g r start
        go (Clear t) p l = tt
        go (ScaleUp n size) p l = (p.0.0, p.0.1)
        go (BranchOut parent d) p l = (p.0.0, omega (arith, p.0.1, eqb-false d 31 p.1), l)

    -- a branch-out's last node is above level 31
    pub deep_room : depth_of v.room < 31
    deep_room = go v.room (room_fits v e)
      where
        go : (r : Room) → RoomInside g m r × (at_level31 r ≡ false) → depth_of r < 31
        go (Clear t) p = omega arith
        go (ScaleUp n size) p = omega arith
        go (BranchOut parent d) p = omega (arith, p.0.1, eqb-false d 31 p.1)

    -- a branch-out takes nodes
    pub takes_nodes : (parent d : ℕ) → v.room ≡ BranchOut parent d → 0 < fanout d
    takes_nodes parent d q = let p = rw q at (room_fits v e) in (fanout_few d (omega (arith, eqb-false d 31 p.1))).0

    -- the place that it takes is inside
    pub place_fits : (start : ℕ) → start + needs v.room ≤ g.nodes → ((place_in v.room start f).node < g.nodes) × ((place_in v.room start f).place < 64)
    place_fits start l = go v.room (room_fits v e) l
      where
        go : (r : Room) → RoomInside g m r × (at_level31 r ≡ false) → start + needs r ≤ g.nodes
            → ((place_in r start f).node < g.nodes) × ((place_in r start f).place < 64)
        go (Clear t) p l = (p.0.node, p.0.place)
        go (ScaleUp n size) p l = (p.0.0, p.0.1)
        go (BranchOut parent d) p l = (omega (arith, child_laws.below d f (omega (arith, p.0.1, eqb-false d 31 p.1))), omega arith)

-- ---- the room taken

-- the room made, and the locate store written to the rest of the script
pub room_taken : (g : Geometry) (m : Memory) (r : Room) (start : ℕ) (t : Spot) (pool script : List ℕ) (words locate : ℕ) (pool' xs ys : List ℕ)
    → RoomMade g r start pool pool' script xs words → locate ≡ locate_then g m r t.node
    → ys ≡ written (segmented (((locate_at g t.node, with_bit locate t.place) ∷ []) ∷ [])) (mid_of words (length xs - words) xs)
    → Taken g m r start t pool pool' script (put_mid words (length xs - words) xs ys) (words + 4)
room_taken g m r start t pool script words locate pool' xs ys made l v =
    let i = locate_at g t.node in
    let word = with_bit (locate_then g m r t.node) t.place in
    let long = sym made.0 in (
      sym (located_words (room_script g r start) i word words long),
      made.2,
      located_written (room_script g r start) i word words long script xs ys made.3 (rw l at v),
    )

-- ---- the room made, case by case

pub clear_made : (g : Geometry) (t : Spot) (start : ℕ) (pool script : List ℕ) → RoomMade g (Clear t) start pool pool script script 0
unfolding room_script mark_all
clear_made g t start pool script = (words_of [], omega arith, refl, sym (segment_laws.none_written script))

pub scale_made : (g : Geometry) (n size start : ℕ) (pool script script' : List ℕ) → script' ≡ written (segmented (((size_at g n, 2 * size) ∷ []) ∷ [])) script
    → RoomMade g (ScaleUp n size) start pool pool script script' 4
unfolding room_script mark_all
scale_made g n size start pool script script' w = (words_of (((size_at g n, 2 * size) ∷ []) ∷ []), omega arith, refl, w)

pub branch_made : (g : Geometry) (parent d start k : ℕ) (pool pool' script script' : List ℕ) → k ≡ fanout d → k ≤ 4 → pool' ≡ mark_all pool (range start k)
    → script' ≡ written (segmented (branched g (suc d) start (fanout d) (next_at g parent) (start + 1))) script
    → RoomMade g (BranchOut parent d) start pool pool' script script' (10 * k + 6)
unfolding room_script
branch_made g parent d start k pool pool' script script' e few p w =
    (rw e (sym (branched_words g (suc d) start (fanout d) (next_at g parent) (start + 1))), omega arith, rw e at p, w)
