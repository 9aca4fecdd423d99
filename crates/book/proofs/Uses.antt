-- The node that a claim would use, on any memory: what the book's searches find, by ways.
use mathlib.Core.Path.{◌≡◌, refl, ap, subst}
use mathlib.Core.Bool.{true, false, not}
use mathlib.Core.Logic.{inl, inr, ◌↔◌}
use mathlib.Core.Option.{some}
use mathlib.Core.List.{List, []}
use Prim.Native.Nat.{ℕ, ◌+◌, ◌<◌}
use native.Mathlib.Omega.{arith}
use native.Mathlib.Decide.{dec_lt}
use borrow.Author.Tests.{not-true}
use Rattle.tree.specs.Memory.{Memory, is_set}
use Rattle.tree.specs.Test.{holds}
use Rattle.tree.specs.declared.layout.Geometry.{Geometry}
use Rattle.tree.specs.Layout.{next_at, locate_at, size_at}
use Rattle.tree.specs.Path.{fanout, child, way_of}
use Rattle.tree.specs.Slots.{Filled}
use Rattle.tree.specs.Reach.{Reaches}
use Rattle.tree.specs.Lookup.{path_from, free_run}
use Rattle.tree.specs.declared.path.Room.{Room}
use Rattle.tree.specs.declared.path.Room.TheVariants.{Clear, ScaleUp, BranchOut}
use Rattle.tree.specs.Room.{room_on, needs}
use Rattle.tree.proofs.Cases.{true_not_false}
use Rattle.tree.proofs.Laws.{child_laws, reach_laws}
use Rattle.book.specs.Checks.{place_in, no_run_for}
use Rattle.book.specs.Ways.{Full, FullAbove, FullPath, Uses, at_clear, at_root, at_child}
use Rattle.book.proofs.Refusals.{denies, denied}
use Rattle.book.proofs.Rooms.{RoomIs, room_is, room_branches, root_way, way_ends}

-- the room does not lack its nodes, and its place is in node n
pub record Found (g : Geometry) (map : Memory) (f : ℕ) (r : Room) (n : ℕ) : Type 0 where
  pub run : not (holds (no_run_for g map r)) ≡ true
  pub node : (place_in r (free_run g map (needs r)) f).node ≡ n

-- the lowest free run, as the search of the map finds it
abbrev pub FoundRun : Geometry → Memory → (k start : ℕ) → Type 0
FoundRun g map k start = (free_run g map k ≡ start) × (free_run g map k < g.nodes)

module _ {g : Geometry} {m : Memory} (map : Memory) {slot f : ℕ} {Lowest : (k start : ℕ) → Type 0}
    (lowest : (k start : ℕ) → 0 < k → Lowest k start ↔ FoundRun g map k start) (above : (d : ℕ) → FullPath g m slot f d → d < 31) where
  some_nodes : {d : ℕ} → FullPath g m slot f d → 0 < fanout d
  some_nodes {d} x = omega (arith, child_laws.below d f (above d x))

  used_by : (r : Room) {n : ℕ} → RoomIs g m slot f r → Found g map f r n → Uses Lowest g m slot f n
  used_by (Clear u) c x = subst (Uses Lowest g m slot f) x.node (at_clear c.there c.above c.place c.clear_bit)
  used_by (ScaleUp n size) c x =
      subst (Uses Lowest g m slot f) x.node
      (at_root c.there c.ends (elim c.small [ inl e ↦ omega (arith, c.is) | inr e ↦ omega (arith, c.is) ]) c.full)
  used_by (BranchOut parent d) c x =
      let inside : free_run g map (fanout d) < g.nodes = elim (denies (no_run_for g map (BranchOut parent d)) (not-true _ x.run)) [
        | inl k ↦ absurd (omega (arith, some_nodes c.path))
        | inr k ↦ k
      ] in
      subst (Uses Lowest g m slot f) x.node (at_child c.path ((lowest (fanout d) _ (some_nodes c.path)).1 (refl, inside)))

  -- the first node with a clear place
  clear_found : {d n p : ℕ} (r : Room) → RoomIs g m slot f r → Reaches g m slot (way_of d f) n → FullAbove g m slot f d
      → p < m (size_at g n) → is_set (m (locate_at g n)) p ≡ false → Found g map f r n
  clear_found {d} {n} {p} (Clear u) c x full low clear = record {
    run = refl;
    node = elim (dec_lt c.depth d) [
      | yes l ↦ absurd (true_not_false (full c.depth u.node l c.there u.place c.place) c.clear_bit)
      | no l ↦ elim (dec_lt d c.depth) [
        | yes l' ↦ absurd (true_not_false (c.above d n l' x p low) clear)
        | no l' ↦ let q : c.depth ≡ d = omega arith in (reach_laws g m).one_node (rw q at c.there) x
      ]
    ];
  }
  clear_found {d} {n} {p} (ScaleUp k size) c x full low clear =
      let top : Reaches g m slot (way_of 0 f) k = rw (root_way f) c.there in
      let z : d ≡ 0 = omega (arith, way_ends f 0 d top c.ends x) in
      let q = (reach_laws g m).one_node top (rw z at x) in
      absurd (true_not_false (subst (Full g m) q c.full p low) clear)
  clear_found {d} {n} {p} (BranchOut parent k) c x full low clear =
      let l = way_ends f k d c.path.there c.path.ends x in
      absurd (true_not_false (c.path.full d n (omega arith) x p low) clear)

  -- the root, to be scaled up
  root_found : {n : ℕ} (r : Room) → RoomIs g m slot f r → Reaches g m slot [] n → m (next_at g n) ≡ 0 → m (size_at g n) < 64 → Full g m n
      → Found g map f r n
  root_found {n} r c x ends small full = go r c (rw (root_way f) x)
    where
      go : (r : Room) → RoomIs g m slot f r → Reaches g m slot (way_of 0 f) n → Found g map f r n
      go (Clear u) c top =
          let z : c.depth ≡ 0 = omega (arith, way_ends f 0 c.depth top ends c.there) in
          let q = (reach_laws g m).one_node top (rw z at c.there) in
          absurd (true_not_false (subst (Full g m) q full u.place c.place) c.clear_bit)
      go (ScaleUp k size) c top = record { run = refl; node = (reach_laws g m).one_node c.there x }
      go (BranchOut parent d) c top =
          let z : d ≡ 0 = omega (arith, way_ends f 0 d top ends c.path.there) in
          let q = ap (λ k. m (size_at g k)) ((reach_laws g m).one_node top (rw z at c.path.there)) in
          absurd (omega (arith, q, c.path.wide))

  -- a child in the lowest run
  child_found : {d start : ℕ} (x : FullPath g m slot f d) → Lowest (fanout d) start → Found g map f (BranchOut x.last d) (start + child d f)
  child_found {d} x l =
      let q = (lowest (fanout d) _ (some_nodes x)).0 l in
      record {
        run = ap not (denied (no_run_for g map (BranchOut x.last d)) (inr q.1));
        node = ap (λ k. k + child d f) q.0;
      }

  -- what the book finds is what a claim uses
  pub uses : (ns : List ℕ) → Filled g m slot → path_from g m slot f ≡ some ns → (n : ℕ) → Found g map f (room_on g m (some ns)) n ↔ Uses Lowest g m slot f n
  uses ns o q n = (used_by (room_on g m (some ns)) (room_is f ns o q), back)
    where
      back : {n : ℕ} → Uses Lowest g m slot f n → Found g map f (room_on g m (some ns)) n
      back (at_clear x full low clear) = clear_found (room_on g m (some ns)) (room_is f ns o q) x full low clear
      back (at_root x ends small full) = root_found (room_on g m (some ns)) (room_is f ns o q) x ends small full
      back (at_child x l) = rw (room_branches f ns o q x) (child_found x l)
