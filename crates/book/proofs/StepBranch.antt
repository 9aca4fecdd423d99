-- A claim on a path that is full to its end, a node of size 64: a branch-out, then place 0 of the frame's child.
use mathlib.Core.Path.{◌≡◌, refl, sym, ◌∙◌, ap, subst}
use mathlib.Core.Bool.{true}
use mathlib.Core.Logic.{◌⊎◌, inl, inr, ◌↔◌}
use mathlib.Core.List.Memᴰ
use mathlib.Core.List.{List, [], ◌∷◌, map, Memᴰ}
use Prim.Native.Nat.{ℕ, suc, ◌+◌, ◌*◌, ◌%◌, ◌<◌}
use native.Mathlib.Omega.{arith}
use lib.ListN.{length, set}
use Rattle.tree.specs.Memory.{Memory, reads, is_set, with_bit, byte, Store, single}
use Rattle.tree.specs.declared.layout.Geometry.{Geometry}
use Rattle.tree.specs.Layout.{next_at, locate_at, set_at, size_at, fingerprints_at, frame_at}
use Rattle.tree.specs.Path.{fanout, child, way_of}
use Rattle.tree.specs.Node.{held}
use Rattle.tree.specs.Reach.{Reaches}
use Rattle.tree.specs.Pool.{used, mark_all}
use Rattle.tree.specs.Changes.{InGroup}
use Rattle.tree.proofs.Cases.{true_not_false}
use Rattle.tree.proofs.Lists.{range_has}
use Rattle.tree.proofs.Memory.{no_bit, torn_whole, apply_single, apply_first}
use Rattle.tree.proofs.Laws.{child_laws, pool_laws}
use Rattle.book.specs.declared.Target.{Target}
use Rattle.book.specs.declared.HeadState.TheVariants.{Claimed}
use Rattle.book.specs.Heads.{with_head}
use Rattle.book.specs.State.{State}
use Rattle.book.specs.Perform.{group}
use Rattle.book.specs.Table.{Table, claimed, with_table_head}
use Rattle.book.specs.Agrees.{Reached, Claims, ClaimsPlace, Agrees}
use Rattle.book.specs.Ways.{UnreachedRun, FullPath, Beside, NewWord}
use Rattle.book.specs.Growth.{SameNodes, Adds}
use Rattle.book.proofs.View.{View}
use Rattle.book.proofs.Stored.{stores_set}
use Rattle.book.proofs.Sames.{reached_inside}
use Rattle.book.proofs.Showing.{shows_view}
use Rattle.book.proofs.Crashed.{Through, through_each}
use Rattle.book.proofs.Reading.{sizes_of, claim_inside}
use Rattle.book.proofs.Claims.{SameClaim, about_claim}
use Rattle.book.proofs.Keeps.{within_frames}
use Rattle.book.proofs.Still.{Still, still_on}
use Rattle.book.proofs.Claiming.{NoneAt, Asked, target_at}
use Rattle.book.proofs.Making.{Makes, asked_made}
use Rattle.book.proofs.StepClear.{Placed, placed}
use Rattle.book.proofs.NewNodes.{new_nodes}
use Rattle.book.proofs.Branching.{in_group, made_image, linked_image, Branches, still_made, still1, still2, branches, beside_linked, nodes_made, adds}
use Rattle.book.proofs.SameNodes.{Nodes, nodes_itself, nodes_back, nodes_through, adds_on, quiet_set}

way_more : (d f : ℕ) → way_of (suc d) f ≡ child d f ∷ way_of d f
unfolding way_of
way_more d f = refl

-- ---- the book with the group made and linked

module _ {s : State} {t : Table} {slot f d start : ℕ} {im2 : List ℕ} (a : Agrees s t) (still : Still (sizes_of s.image) t.own t.reels s.image im2)
    (b : Branches (sizes_of s.image) (reads s.image) (reads im2) slot f d start)
    (run : UnreachedRun (sizes_of s.image) (reads s.image) (fanout d) start) where
  abbrev g : Geometry
  g = sizes_of s.image

  abbrev m : Memory
  m = reads s.image

  abbrev m2 : Memory
  m2 = reads im2

  abbrev ns : List ℕ
  ns = group start d

  new_reached : {k : ℕ} (c : ℕ) → c < fanout d → k ≡ start + c → Reached g m2 k
  new_reached c l e = rw e (record { slot = slot; way = c ∷ way_of d f; there = b.new_way c l })

  marks : (k : ℕ) → (used (mark_all s.pool ns) k ≡ true) ↔ Reached g m2 k
  marks k = (
    λ e. elim (u.0 e) [
      | inl y ↦ let c = in_group start d y in new_reached c.0 c.1 c.2
      | inr y ↦ let r = (a.marks k).0 y in record { slot = r.slot; way = r.way; there = b.ways r.there }
    ],
    λ r. u.1 (elim (b.old_or_new r) [
      | inl y ↦ inr ((a.marks k).1 y)
      | inr c ↦ inl (Memᴰ.cast c.2 (range_has start (fanout d) {c = start + c.0} (omega arith) (omega (arith, c.1))))
    ]),
  )
    where
      mapped : (n : ℕ) → Memᴰ n ns → n < 64 * length s.pool
      mapped n y = let c = in_group start d y in rw a.map_words_lem (pool_laws.inside g n (omega (arith, c.1, c.2, run.inside)))

      u : (used (mark_all s.pool ns) k ≡ true) ↔ (Memᴰ k ns ⊎ (used s.pool k ≡ true))
      u = pool_laws.marks_all s.pool ns k mapped

  carries : (y : Target) (r f' : ℕ) → Claims g m y r f' → SameClaim g m m2 y
  carries y r f' c =
      let p = (claim_inside a.shows c).1 in
      record {
        reel = b.reels c.open_slot;
        ways = b.ways;
        size = omega (arith, b.words (size_at g y.node) c.on_path_lem (omega arith) (omega arith));
        locate = ap (λ w. is_set w y.place) (b.words (locate_at g y.node) c.on_path_lem (omega arith) (omega arith));
        set = ap (λ w. is_set w y.place) (b.words (set_at g y.node) c.on_path_lem (omega arith) (omega arith));
        frame = b.words (frame_at g y.node y.place) c.on_path_lem (omega arith) (omega arith);
        fingerprint = ap (λ w. byte w (y.place % 8)) (b.words (fingerprints_at g y.node y.place) c.on_path_lem (omega arith) (omega arith));
        frames = within_frames still.within;
      }

  -- a node with a claim is reached
  claimed_reached : {i k q : ℕ} → ClaimsPlace s.heads i k q → Reached g m k
  claimed_reached {i} c =
      let j = (about_claim (a.heads i c.low) c.about).2 in
      subst (Reached g m) c.node (record { slot = c.target.slot; way = way_of j.depth _; there = j.on_path_lem })

  locates : (k q : ℕ) → Reached g m2 k → q < 64
      → (is_set (m2 (locate_at g k)) q ≡ true) ↔ ((held g m2 k q ≡ true) ⊎ ((i : ℕ) × ClaimsPlace s.heads i k q))
  locates k q r l = elim (b.old_or_new r) [
    | inl y ↦ rw (← b.words (locate_at g k) y.there (omega arith) (omega arith), ← b.words (set_at g k) y.there (omega arith) (omega arith))
        (a.locates k q y l)
    | inr c ↦ rw (c.2, b.locate c.0 c.1, b.set c.0 c.1) (
      λ z. absurd (true_not_false z (no_bit q)),
      λ z. elim z [ inl e ↦ e | inr e ↦ absurd (run.free c.0 c.1 (claimed_reached e.1)) ],
    )
  ]

  makes : Makes g s t im2 (mark_all s.pool ns)
  makes = record {
    still = still;
    map_words_lem = pool_laws.length_mark_all s.pool ns;
    marks = marks;
    ways = b.ways;
    rule = b.rule;
    carries = carries;
    locates = locates;
  }

-- ---- place 0 of the frame's child

module _ {s : State} {t : Table} {h reel f slot d start : ℕ} (a : Asked s t h reel f slot) (x : FullPath (sizes_of s.image) (reads s.image) slot f d)
    (deep : d < 31) (run : UnreachedRun (sizes_of s.image) (reads s.image) (fanout d) start) where
  abbrev shape : Geometry
  shape = sizes_of s.image

  abbrev linked : List ℕ
  linked = linked_image shape s.image x.last d start

  abbrev node : ℕ
  node = start + child d f

  abbrev last : List ℕ
  last = set linked (locate_at shape node) (with_bit 0 0)

  old_view : View shape t.own s.image t.reels
  old_view = shows_view a.agrees.shows

  low : child d f < fanout d
  low = child_laws.below d f deep

  still_linked : Still shape t.own t.reels s.image linked
  still_linked = still2 old_view x deep run

  group_there : Branches shape (reads s.image) (reads linked) slot f d start
  group_there = branches old_view x deep run

  locate_new : reads linked (locate_at shape node) ≡ 0
  locate_new = group_there.locate (child d f) low

  child_there : Reaches shape (reads linked) slot (way_of (suc d) f) node
  child_there = rw (way_more d f) (group_there.new_way (child d f) low)

  -- the child is new, and a node with a claim is reached
  none_there : NoneAt s.heads node
  none_there = record {
    none = λ k {x = y} l o q.
        let c = (about_claim (a.agrees.heads k l) o).2 in
        run.free (child d f) low (subst (Reached shape (reads s.image)) q (record { slot = y.slot; way = way_of c.depth _; there = c.on_path_lem }));
  }

  placed_there : Placed shape (record { image = linked; pool = mark_all s.pool (group start d); heads = s.heads }) t h reel f slot node 0
  placed_there =
      placed (suc d) still_linked.view.header.geometry (asked_made a (makes a.agrees still_linked group_there run)) child_there
      (omega (arith, group_there.size (child d f) low)) (rw locate_new (no_bit 0)) none_there

  pub agrees_branched : Agrees (record {
    image = last;
    pool = mark_all s.pool (group start d);
    heads = with_head s.heads h (Claimed (target_at slot node 0 f));
  }) (with_table_head t h (claimed reel f))
  agrees_branched = rw locate_new at placed_there.agrees

  pub path_branched : Reaches shape (reads last) slot (way_of (suc d) f) node
  path_branched = let r = placed_there.ways child_there in rw locate_new at r

  -- the child's locate word is one of its group's
  pub beside_branched : Beside (reads s.image) (reads last) (λ i. (i ≡ next_at shape x.last) ⊎ NewWord shape start (fanout d) i)
  beside_branched i o =
      sym ((stores_set linked (locate_at shape node) (with_bit 0 0) (reached_inside still_linked.view child_there 1 (omega arith))).old i
      (λ q. o (inr (record { child = child d f; low = low; from = omega arith; to = omega arith }))))
      ∙ beside_linked old_view x deep run i o

  pub through_branched : Through (Still shape t.own t.reels s.image) s.image
      (new_nodes shape (suc d) 64 (group start d) ∷ map (λ z. z ∷ []) ((next_at shape x.last, start + 1) ∷ (locate_at shape node, with_bit 0 0) ∷ []))
  through_branched = (
    λ im' y. still_made old_view x deep run y,
    through_each (Still shape t.own t.reels s.image) (made_image shape s.image d start)
        ((next_at shape x.last, start + 1) ∷ (locate_at shape node, with_bit 0 0) ∷ []) (still1 old_view x deep run)
        (still_linked, (still_on still_linked (rw locate_new at placed_there.still), tt)),
  )

  -- ---- the nodes

  nodes_marked : SameNodes linked last
  nodes_marked = quiet_set still_linked.view.header.geometry node 1 _ (omega arith) (omega arith) (omega arith)

  -- carried out, the group's nodes have come, and no other
  pub adds_branched : Adds s.image last 64 (InGroup slot (way_of d f) start)
  adds_branched = adds_on (adds old_view x deep run) nodes_marked

  -- every image that a crash leaves has the nodes as before, or as then
  through_nodes : Through (λ im. SameNodes s.image im ⊎ SameNodes last im) s.image
      (new_nodes shape (suc d) 64 (group start d) ∷ single ((next_at shape x.last, start + 1) ∷ (locate_at shape node, with_bit 0 0) ∷ []))
  through_nodes = (
    λ im' y. inl (nodes_made old_view x deep run y),
    through_each (λ im. SameNodes s.image im ⊎ SameNodes last im) (made_image shape s.image d start)
        ((next_at shape x.last, start + 1) ∷ (locate_at shape node, with_bit 0 0) ∷ [])
        (inl (nodes_made old_view x deep run (torn_whole s.image (new_nodes shape (suc d) 64 (group start d)))))
        (inr (nodes_back nodes_marked), (inr (nodes_itself last), tt)),
  )

  pub nodes_branched : {After : List ℕ → Type 0} → After last
      → Nodes s.image (new_nodes shape (suc d) 64 (group start d)
      ∷ single ((next_at shape x.last, start + 1) ∷ (locate_at shape node, with_bit 0 0) ∷ [])) After
  nodes_branched h =
      let ss : List Store = (next_at shape x.last, start + 1) ∷ (locate_at shape node, with_bit 0 0) ∷ [] in
      nodes_through (apply_first s.image (new_nodes shape (suc d) 64 (group start d)) (single ss) ∙ apply_single (made_image shape s.image d start) ss)
      h through_nodes
