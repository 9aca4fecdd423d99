-- What a claim's room is, on any memory, by the nodes of the frame's path.
use mathlib.Core.Path.{◌≡◌, refl, sym, ◌∙◌, ap}
use mathlib.Core.Bool.{true, false, not}
use mathlib.Core.Logic.{◌⊎◌, inl, inr, ◌↔◌}
use mathlib.Core.Option.{none, some}
use mathlib.Core.List.{List, [], ◌∷◌, ◌++◌, Memᴰ}
use Prim.Native.Nat.{ℕ, zero, suc, ◌-◌, ◌≤◌, ◌<◌}
use native.Mathlib.Omega.{arith}
use native.Mathlib.Decide.{dec_lt, ℕ_discrete}
use lib.ListN.{length, get_elem?}
use lib.Dec.{ltb}
use borrow.Author.Tests.{ltb-true, ltb-false, not-true, not-false}
use Rattle.tree.specs.Memory.{Memory, is_set}
use Rattle.tree.specs.declared.layout.Geometry.{Geometry}
use Rattle.tree.specs.Layout.{next_at, locate_at, size_at}
use Rattle.tree.specs.Path.{child, way_of}
use Rattle.tree.specs.Node.{child_of}
use Rattle.tree.specs.Slots.{Filled, root_of}
use Rattle.tree.specs.Reach.{Reaches, root, down}
use Rattle.tree.specs.declared.path.Spot.{Spot}
use Rattle.tree.specs.Lookup.{path_from, clear_at, clear_spot}
use Rattle.tree.specs.Laws.{WellFormed, FirstAt}
use Rattle.tree.proofs.Memory.{first_laws}
use Rattle.tree.proofs.Lookup.{of_index}
use Rattle.tree.proofs.Cases.{test, true_not_false, seen, nothing, just, some_inj, none_some}
use Rattle.tree.proofs.Laws.{child_laws, reach_laws, node_laws, path_laws, spot_laws}
use Rattle.tree.specs.declared.path.Room.{Room}
use Rattle.tree.specs.declared.path.Room.TheVariants.{Clear, ScaleUp, BranchOut}
use Rattle.tree.specs.Room.{last_of, full_room, room_on}
use Rattle.book.specs.Ways.{Full, FullAbove, FullPath}

-- ---- elements of a list by their numbers

pub at_split : (xs ys : List ℕ) (n : ℕ) → get_elem? (xs ++ n ∷ ys) (length xs) ≡ some n
at_split [] ys n = refl
at_split (x ∷ xs) ys n = at_split xs ys n

pub in_front : (xs ys : List ℕ) (i : ℕ) {n : ℕ} → i < length xs → get_elem? (xs ++ ys) i ≡ some n → Memᴰ n xs
in_front [] ys i l h = absurd (omega arith)
in_front (x ∷ xs) ys zero l h = Memᴰ.head (sym (some_inj h))
in_front (x ∷ xs) ys (suc i) l h = Memᴰ.tail (in_front xs ys i (omega arith) h)

past_end : (ns : List ℕ) → get_elem? ns (length ns) ≡ none
past_end [] = refl
past_end (n ∷ ns) = past_end ns

last_at : (n : ℕ) (ns : List ℕ) → get_elem? (n ∷ ns) (length ns) ≡ some (last_of (n ∷ ns))
unfolding last_of
last_at n [] = refl
last_at n (n' ∷ ns) = last_at n' ns

last_number : (ns : List ℕ) {n : ℕ} → get_elem? ns 0 ≡ some n → (length ns ≡ suc (length ns - 1)) × (get_elem? ns (length ns - 1) ≡ some (last_of ns))
last_number [] h = none_some h
last_number (n ∷ ns) h = let z : suc (length ns) - 1 ≡ length ns = omega arith in (omega arith, rw z (last_at n ns))

module _ (g : Geometry) (m : Memory) where
  -- a node's search for a clear place ends at its size exactly if it is full
  none_clear : (n : ℕ) → (m (size_at g n) ≤ clear_at g m n) ↔ Full g m n
  unfolding clear_at
  none_clear n =
      let l = first_laws (λ p. not (is_set (m (locate_at g n)) p)) (m (size_at g n)) in (
        λ h p k. not-false (is_set (m (locate_at g n)) p) (l.none_before p (omega arith)),
        λ full. elim (dec_lt (clear_at g m n) (m (size_at g n))) [
          | yes k ↦ absurd (true_not_false (full (clear_at g m n) k) (not-true (is_set (m (locate_at g n)) (clear_at g m n)) (l.holds k)))
          | no k ↦ omega arith
        ],
      )

  -- ---- the room by cases

  module _ (slot f : ℕ) where
    -- the first node from the root with a clear place, and the lowest such place
    pub record ClearRoom (t : Spot) : Type 0 where
      pub depth : ℕ
      pub there : Reaches g m slot (way_of depth f) t.node
      pub above : FullAbove g m slot f depth
      pub place : t.place < m (size_at g t.node)
      pub clear_bit : is_set (m (locate_at g t.node)) t.place ≡ false
      pub lower : (q : ℕ) → q < t.place → is_set (m (locate_at g t.node)) q ≡ true

    -- the root is the only node, full, below size 64
    pub record ScaleRoom (n size : ℕ) : Type 0 where
      pub there : Reaches g m slot [] n
      pub is : size ≡ m (size_at g n)
      pub ends : m (next_at g n) ≡ 0
      pub small : (size ≡ 16) ⊎ (size ≡ 32)
      pub full : Full g m n

    -- every node is full, the last with size 64
    pub record BranchRoom (parent d : ℕ) : Type 0 where
      pub path : FullPath g m slot f d
      pub is : path.last ≡ parent
      pub depth : d ≤ 31

    abbrev pub RoomIs : Room → Type 0
    RoomIs (Clear t) = ClearRoom t
    RoomIs (ScaleUp n size) = ScaleRoom n size
    RoomIs (BranchOut parent d) = BranchRoom parent d

pub root_way : (f : ℕ) → way_of 0 f ≡ []
unfolding way_of
root_way f = refl

-- the way down from a node with children, and none from one without
way_down : {g : Geometry} {m : Memory} {slot n : ℕ} (f d : ℕ) → Reaches g m slot (way_of d f) n → d < 31 → 0 < m (next_at g n)
    → Reaches g m slot (way_of (suc d) f) (child_of g m n (child d f))
unfolding way_of
way_down f d r h l = down {c = child d f} r l (rw (child_laws.length_way d f) (child_laws.below d f h)) refl

way_up : {g : Geometry} {m : Memory} {slot n : ℕ} (f d : ℕ) → Reaches g m slot (way_of (suc d) f) n
    → (p : ℕ) × Reaches g m slot (way_of d f) p × (0 < m (next_at g p))
unfolding way_of
way_up f d (down {p = p} r k l e) = (p, r, k)

pub way_ends : {g : Geometry} {m : Memory} {slot n : ℕ} (f d k : ℕ) {n' : ℕ} → Reaches g m slot (way_of d f) n → m (next_at g n) ≡ 0
    → Reaches g m slot (way_of k f) n' → k ≤ d
way_ends f d zero r e r' = omega arith
way_ends {g} {m} f d (suc k) r e r' =
    let t = way_up f k r' in
    let l = way_ends f d k r e t.1 in
    elim (ℕ_discrete k d) [
      | yes q ↦ absurd (omega (arith, ap (λ x. m (next_at g x)) ((reach_laws g m).one_node (rw (← q) at r) t.1), t.2))
      | no q ↦ omega arith
    ]

module _ {g : Geometry} {m : Memory} {slot : ℕ} (f : ℕ) (ns : List ℕ) (open_slot : Filled g m slot) (is-path : path_from g m slot f ≡ some ns) where
  by_number : (d n : ℕ) → (get_elem? ns d ≡ some n) ↔ Reaches g m slot (way_of d f) n
  by_number = (path_laws f open_slot).nodes ns is-path

  -- every node of the path is well formed
  pub path_formed : (d : ℕ) {n : ℕ} → Reaches g m slot (way_of d f) n → WellFormed g m d n
  path_formed d {n} r = ((node_laws g m).facts d n).0 ((path_laws f open_slot).formed ns is-path d n ((by_number d n).1 r))

  first_clear_node : (t : Spot) → clear_spot g m ns ≡ some t → FirstAt (clear_at g m) (λ n. m (size_at g n)) ns t.node t.place
  unfolding clear_spot
  first_clear_node t e = ((spot_laws (clear_at g m) (λ n. m (size_at g n)) ns).found t.node t.place).0 e

  clear_room : (t : Spot) → FirstAt (clear_at g m) (λ n. m (size_at g n)) ns t.node t.place → ClearRoom g m slot f t
  unfolding clear_at
  clear_room t a =
      let l = first_laws (λ p. not (is_set (m (locate_at g t.node)) p)) (m (size_at g t.node)) in
      record {
        depth = length a.above;
        there = (by_number (length a.above) t.node).0 (rw a.split (at_split a.above a.below t.node));
        above = λ j n h r. (none_clear g m n).0 (a.none_above n (in_front a.above (t.node ∷ a.below) j h (rw a.split at ((by_number j n).1 r))));
        place = a.within;
        clear_bit = not-true (is_set (m (locate_at g t.node)) t.place) (rw a.is at (l.holds (omega (arith, a.is, a.within))));
        lower = λ q h. not-false (is_set (m (locate_at g t.node)) q) (l.none_before q (omega (arith, a.is)));
      }

  -- the last node of the path
  record Ends : Type 0 where
    long : length ns ≡ suc (length ns - 1)
    there : Reaches g m slot (way_of (length ns - 1) f) (last_of ns)
    ends : m (next_at g (last_of ns)) ≡ 0

  path_ends : Ends
  path_ends =
      let top = (by_number 0 (root_of m slot)).1 (rw (root_way f) (root open_slot refl)) in
      let last = last_number ns top in
      let r = (by_number (length ns - 1) (last_of ns)).0 last.1 in
      record {
        long = last.0;
        there = r;
        ends = elim (path_formed (length ns - 1) r).next [
          | inl e ↦ e
          | inr t ↦ elim (ℕ_discrete (m (next_at g (last_of ns))) 0) [
            | yes e ↦ e
            | no e ↦
                let k = (by_number (suc (length ns - 1)) _).1 (way_down f (length ns - 1) r t.1.0 (omega arith)) in
                none_some (sym (past_end ns) ∙ (rw (← last.0) at k))
          ]
        ];
      }

  full_nodes : clear_spot g m ns ≡ none → (d n : ℕ) → Reaches g m slot (way_of d f) n → Full g m n
  unfolding clear_spot
  full_nodes e d n r = (none_clear g m n).0 ((spot_laws (clear_at g m) (λ n. m (size_at g n)) ns).nowhere.0 e n (of_index ns d ((by_number d n).1 r)))

  full_room_lem : ((d n : ℕ) → Reaches g m slot (way_of d f) n → Full g m n) → RoomIs g m slot f (full_room g m ns)
  unfolding full_room
  full_room_lem full =
      let n = last_of ns in
      let d = length ns - 1 in
      let l = path_ends in
      elim (test (ltb (m (size_at g n)) 64)) [
        | inl e ↦ rw e (elim (path_formed d l.there).size [
          | inl q ↦ absurd (omega (arith, ltb-true (m (size_at g n)) 64 e))
          | inr q ↦ record { there = rw (q.0, root_way f) at l.there; is = refl; ends = l.ends; small = q.1; full = full d n l.there }
        ])
        | inr e ↦ let wide = ltb-false (m (size_at g n)) 64 e in rw e (record {
          path = record {
            last = n;
            there = l.there;
            ends = l.ends;
            wide = elim (path_formed d l.there).size [
              | inl q ↦ q
              | inr q ↦ absurd (elim q.1 [ inl z ↦ omega arith | inr z ↦ omega arith ])
            ];
            full = λ j x h r. full j x r;
          };
          is = refl;
          depth = omega (arith, (reach_laws g m).depth l.there, child_laws.length_way d f);
        })
      ]

  -- the room on a path is what its case says
  pub room_is : RoomIs g m slot f (room_on g m (some ns))
  unfolding room_on
  room_is = elim (seen (clear_spot g m ns)) [
    | just t e ↦ rw e (clear_room t (first_clear_node t e))
    | nothing e ↦ rw e (full_room_lem (full_nodes e))
  ]

  -- and a path full to its end, with size 64 there, asks for a branch-out
  pub room_branches : {d : ℕ} (t : FullPath g m slot f d) → room_on g m (some ns) ≡ BranchOut t.last d
  room_branches {d} t = go (room_on g m (some ns)) room_is
    where
      go : (r : Room) → RoomIs g m slot f r → r ≡ BranchOut t.last d
      go (Clear u) c =
          let k = way_ends f d c.depth t.there t.ends c.there in
          absurd (true_not_false (t.full c.depth u.node (omega arith) c.there u.place c.place) c.clear_bit)
      go (ScaleUp n size) c =
          let top : Reaches g m slot (way_of 0 f) n = rw (root_way f) c.there in
          let z : d ≡ 0 = omega (arith, way_ends f 0 d top c.ends t.there) in
          let q = ap (λ x. m (size_at g x)) ((reach_laws g m).one_node top (rw z at t.there)) in
          absurd (elim c.small [ inl e ↦ omega (arith, q, c.is, t.wide) | inr e ↦ omega (arith, q, c.is, t.wide) ])
      go (BranchOut parent d') c =
          let z : d ≡ d' =
          omega (arith, way_ends f d d' t.there t.ends c.path.there, way_ends f d' d c.path.there c.path.ends t.there) in
          let q = (reach_laws g m).one_node c.path.there (rw z at t.there) in
          cc c.is
