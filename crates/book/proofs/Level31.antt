-- Room in the book's own image: level 31 never fills, and free runs of the pool map are runs of nodes that no reel reaches.
use mathlib.Core.Path.{◌≡◌, refl, sym, ◌∙◌, ap, subst}
use mathlib.Core.Bool.{true, false, not}
use mathlib.Core.Logic.{inl, inr, ◌↔◌}
use mathlib.Core.Option.{some}
use mathlib.Core.List.{List}
use Prim.Native.Nat.{ℕ, ◌+◌, ◌/◌, ◌^◌, ◌≤◌, ◌<◌}
use native.Mathlib.Omega.{arith}
use native.Mathlib.Decide.{dec_lt, ℕ_discrete}
use lib.ListN.{length}
use lib.Pow.{shr_lt}
use borrow.Author.Tests.{ne_eqb}
use Rattle.tree.specs.Memory.{Memory, reads, is_set}
use Rattle.tree.specs.declared.layout.Geometry.{Geometry}
use Rattle.tree.specs.Layout.{geometry_of, locate_at, frame_at}
use Rattle.tree.specs.Path.{fanout}
use Rattle.tree.specs.Fingerprint.{Rule}
use Rattle.tree.specs.Node.{held, frame}
use Rattle.tree.specs.Slots.{Filled}
use Rattle.tree.specs.Reach.{Reaches}
use Rattle.tree.specs.Sound.{Sound}
use Rattle.tree.specs.Lookup.{path_from, free_run}
use Rattle.tree.specs.Laws.{FreeRun}
use Rattle.tree.proofs.Memory.{first_laws}
use Rattle.tree.proofs.Cases.{true_not_false, not-false}
use Rattle.tree.proofs.Laws.{room, level_laws, child_laws, reach_laws, run_laws}
use Rattle.book.specs.Heads.{head_count}
use Rattle.book.specs.State.{State, open_reel, claim}
use Rattle.tree.specs.declared.path.Room.{Room}
use Rattle.tree.specs.declared.path.Room.TheVariants.{Clear, ScaleUp, BranchOut}
use Rattle.tree.specs.Room.{room_on, needs, at_level31}
use Rattle.book.specs.Table.{Table}
use Rattle.book.specs.Agrees.{ClaimsPlace, Agrees}
use Rattle.book.specs.Ways.{UnreachedRun, LowestRun, FullPath, SlotHas, Lacks, no_node, no_run_lem}
use Rattle.book.proofs.Heads.{one_target}
use Rattle.book.proofs.Rooms.{RoomIs, room_is, room_branches}
use Rattle.book.proofs.Uses.{FoundRun}

-- a head is about one target, so it claims one place
pub one_place : {ws : List ℕ} {h n n' p q : ℕ} → ClaimsPlace ws h n p → ClaimsPlace ws h n' q → p ≡ q
one_place c c' = sym c.place ∙ ap (λ t. t.place) (one_target c.about c'.about) ∙ c'.place

-- for any number of heads: a located place's number is its frame's bits from 59 on, or 32 plus the number of the head that claims it
module _ (g : Geometry) (m : Memory) (ws : List ℕ) (count n : ℕ) where
  data Numbered (p : ℕ) : ℕ → Type 0 where
    by_frame : held g m n p ≡ true → Numbered p (frame g m n p / 2 ^ 59)
    by_head : {h : ℕ} → h < count → ClaimsPlace ws h n p → Numbered p (32 + h)

  module _ {r : Rule} {slot : ℕ} {w : List ℕ}
      (sound : Sound r g m) (fits : (i : ℕ) → m i < 2 ^ 64) (there : Reaches g m slot w n) (deep : length w ≡ 31) where
    high : (p : ℕ) → frame g m n p / 2 ^ 59 < 32
    high p = shr_lt 5 59 (fits (frame_at g n p))

    numbered_low : {p k : ℕ} → Numbered p k → k < 32 + count
    numbered_low {p} (by_frame e) = omega (arith, high p)
    numbered_low (by_head l c) = omega arith

    numbered_once : {p q k k' : ℕ} → p < 64 → q < 64 → Numbered p k → Numbered q k' → k ≡ k' → p ≡ q
    numbered_once {p} {q} a b (by_frame x) (by_frame y) e = (level_laws sound).told there deep p q (a, x) (b, y) e
    numbered_once {p} a b (by_frame x) (by_head l c) e = absurd (omega (arith, high p))
    numbered_once {q = q} a b (by_head l c) (by_frame y) e = absurd (omega (arith, high q))
    numbered_once {p} {q} a b (by_head {h} l c) (by_head {h = h'} l' c') e = let z : h' ≡ h = omega arith in one_place c (rw z at c')

    -- so with fewer than 32 heads not all of the 64 places have one
    not_all : 32 + count < 64 → ((p : ℕ) → p < 64 → (k : ℕ) × Numbered p k) → ⊥
    not_all few number =
        let clear = room.clear (λ p. true) 64 (32 + count) (λ p. (chosen p).0) few (λ p l e. numbered_low ((chosen p).1 l))
        (λ p q l l' e e'. numbered_once l l' ((chosen p).1 l) ((chosen q).1 l')) in
        true_not_false ((first_laws (λ p. not true) 64).holds clear) refl
      where
        chosen : (p : ℕ) → (k : ℕ) × (p < 64 → Numbered p k)
        chosen p = elim (dec_lt p 64) [ yes l ↦ ((number p l).0, λ l'. (number p l).1) | no h ↦ (0, λ l. absurd (h l)) ]

-- ---- the book's own image

abbrev image_of : State → Memory
image_of s = reads s.image

abbrev shape_of : State → Geometry
shape_of s = geometry_of (reads s.image)

module _ {s : State} {t : Table} (agrees : Agrees s t) where
  pub level31_clear : {slot n : ℕ} {w : List ℕ} → Reaches (shape_of s) (image_of s) slot w n → length w ≡ 31
      → ((p : ℕ) → p < 64 → is_set (image_of s (locate_at (shape_of s) n)) p ≡ true) → ⊥
  level31_clear {n = n} there deep full =
      not_all (shape_of s) (image_of s) s.heads head_count n agrees.shows.sound agrees.shows.fits there deep (omega arith) number
    where
      number : (p : ℕ) → p < 64 → (k : ℕ) × Numbered (shape_of s) (image_of s) s.heads head_count n p k
      number p l = elim ((agrees.locates n p (record { slot = _; way = _; there = there }) l).0 (full p l)) [
        | inl e ↦ (_, by_frame e)
        | inr c ↦ (_, by_head c.1.low c.1)
      ]

  -- no path is full to its end at level 31
  pub full_above_31 : {slot f d : ℕ} → FullPath (shape_of s) (image_of s) slot f d → d < 31
  full_above_31 {f = f} {d = d} x = elim (ℕ_discrete d 31) [
    | yes q ↦
        let full = x.full d x.last (omega arith) x.there in
        absurd (level31_clear x.there (child_laws.length_way d f ∙ q) (λ p l. full p (omega (arith, x.wide))))
    | no q ↦ omega (arith, (reach_laws (shape_of s) (image_of s)).depth x.there, child_laws.length_way d f)
  ]

  pub never_level31 : {slot : ℕ} (f : ℕ) (ns : List ℕ) → Filled (shape_of s) (image_of s) slot → path_from (shape_of s) (image_of s) slot f ≡ some ns
      → at_level31 (room_on (shape_of s) (image_of s) (some ns)) ≡ false
  never_level31 {slot} f ns o q = go (room_on (shape_of s) (image_of s) (some ns)) (room_is f ns o q)
    where
      go : (r : Room) → RoomIs (shape_of s) (image_of s) slot f r → at_level31 r ≡ false
      go (Clear u) c = refl
      go (ScaleUp n size) c = refl
      go (BranchOut parent d) c = ne_eqb d 31 (λ e. omega (arith, full_above_31 c.path))

  -- ---- runs of nodes that no reel reaches: the map marks exactly the others

  pub unreached_free : (k a : ℕ) → UnreachedRun (shape_of s) (image_of s) k a ↔ FreeRun (shape_of s) (reads s.pool) k a
  unreached_free k a = (
    λ u. record { inside = u.inside; free = λ i l. not-false (λ e. u.free i l ((agrees.marks (a + i)).0 e)) },
    λ x. record { inside = x.inside; free = λ i l r. true_not_false ((agrees.marks (a + i)).1 r) (x.free i l) },
  )

  pub lowest_run : (k : ℕ) → 0 < k → free_run (shape_of s) (reads s.pool) k < (shape_of s).nodes
      → LowestRun (shape_of s) (image_of s) k (free_run (shape_of s) (reads s.pool) k)
  lowest_run k h l = let laws = run_laws (shape_of s) (reads s.pool) k in record {
    run = (unreached_free k _).1 (laws.found l);
    lowest = λ b u. (laws.lowest b h ((unreached_free k b).0 u)).0;
  }

  pub lowest_found : (k start : ℕ) → 0 < k → LowestRun (shape_of s) (image_of s) k start ↔ FoundRun (shape_of s) (reads s.pool) k start
  lowest_found k start h = (
    λ l.
        let z = (run_laws (shape_of s) (reads s.pool) k).lowest start h ((unreached_free k start).0 l.run) in
        (omega (arith, z.0, l.lowest _ (lowest_run k h z.1).run), z.1),
    λ q. subst (LowestRun (shape_of s) (image_of s) k) q.0 (lowest_run k h q.1),
  )

  pub no_free_run : (k : ℕ) → 0 < k
      → ((shape_of s).nodes ≤ free_run (shape_of s) (reads s.pool) k) ↔ ((a : ℕ) → UnreachedRun (shape_of s) (image_of s) k a → ⊥)
  no_free_run k h = (
    λ l a u. omega (arith, ((run_laws (shape_of s) (reads s.pool) k).lowest a h ((unreached_free k a).0 u)).1),
    λ none. elim (dec_lt (free_run (shape_of s) (reads s.pool) k) (shape_of s).nodes) [
      | yes l ↦ absurd (none _ (lowest_run k h l).run)
      | no l ↦ omega arith
    ],
  )

  -- ---- what the book lacks

  pub lacks_open : (words script reel : ℕ) → ((shape_of s).nodes ≤ free_run (shape_of s) (reads s.pool) 1) ↔ Lacks s (open_reel words script reel)
  lacks_open words script reel = (λ l. no_node ((no_free_run 1 (omega arith)).0 l), λ x. elim x [ no_node none ↦ (no_free_run 1 (omega arith)).1 none ])

  pub lacks_claim : {reel slot : ℕ} (words script h f : ℕ) (ns : List ℕ) → SlotHas (shape_of s) (image_of s) reel slot
      → path_from (shape_of s) (image_of s) slot f ≡ some ns
      → ((0 < needs (room_on (shape_of s) (image_of s) (some ns)))
      × ((shape_of s).nodes ≤ free_run (shape_of s) (reads s.pool) (needs (room_on (shape_of s) (image_of s) (some ns)))))
      ↔ Lacks s (claim words script h reel f)
  lacks_claim {reel} {slot} words script h f ns has q = (go (room_on (shape_of s) (image_of s) (some ns)) (room_is f ns has.open_slot q), back)
    where
      go : (r : Room) → RoomIs (shape_of s) (image_of s) slot f r → (0 < needs r) × ((shape_of s).nodes ≤ free_run (shape_of s) (reads s.pool) (needs r))
          → Lacks s (claim words script h reel f)
      go (Clear u) c x = absurd (omega arith)
      go (ScaleUp n size) c x = absurd (omega arith)
      go (BranchOut parent d) c x = no_run_lem has c.path ((no_free_run (fanout d) x.0).0 x.1)

      back : Lacks s (claim words script h reel f)
          → (0 < needs (room_on (shape_of s) (image_of s) (some ns)))
          × ((shape_of s).nodes ≤ free_run (shape_of s) (reads s.pool) (needs (room_on (shape_of s) (image_of s) (some ns))))
      back (no_run_lem {slot = slot'} {d} has' x none) =
          let z = agrees.shows.sound.reels has'.open_slot has.open_slot (has'.number ∙ sym has.number) in
          let l : 0 < fanout d = omega (arith, child_laws.below d f (full_above_31 x)) in
          rw (room_branches f ns has.open_slot q (rw z at x)) (l, (no_free_run (fanout d) l).1 none)
