-- Places left, by the image after the claim's script.
use mathlib.Core.Path.{◌≡◌, refl, sym, ◌∙◌, ap}
use mathlib.Core.Bool.{Bool, false, not}
use mathlib.Core.List.{List, [], ◌∷◌}
use Prim.Native.Nat.{ℕ, suc, ◌+◌, ◌-◌, ◌*◌, ◌^◌, ◌≤◌, ◌<◌}
use native.Mathlib.Omega.{arith}
use native.Mathlib.Decide.{ℕ_discrete}
use lib.ListN.{length, set, length-set}
use lib.Seq.{get_or-set_same, get_or-set_other}
use lib.Pow.{pow_mono}
use lib.Dec.{eqb}
use lib.Count.{ones, ones-le}
use borrow.Author.Tests.{eqb-false}
use Rattle.tree.specs.Memory.{Memory, reads, is_some, with_bit, stores, segmented, single, apply, Fit}
use Rattle.tree.specs.declared.layout.Geometry.{Geometry}
use Rattle.tree.specs.Layout.{bad_image, in_range, geometry_of, next_at, locate_at, size_at}
use Rattle.tree.specs.Path.{levels, fanout, child}
use Rattle.tree.specs.Slots.{slot_of}
use Rattle.tree.specs.Lookup.{path_from, free_run}
use Rattle.tree.specs.declared.path.Room.{Room}
use Rattle.tree.specs.declared.path.Room.TheVariants.{Clear, ScaleUp, BranchOut}
use Rattle.tree.specs.Room.{room_on, left_at, places_left, needs, at_level31}
use Rattle.tree.proofs.Lists.{range_has}
use Rattle.tree.proofs.Nodes.{some_size}
use Rattle.tree.proofs.Ones.{ones_clear}
use Rattle.tree.proofs.Memory.{apply_laws, bit_laws, apply_first, apply_single}
use Rattle.tree.proofs.PathNodes.{room_by}
use Rattle.tree.proofs.Laws.{child_laws}
use Rattle.tree.specs.Fingerprint.{has_own, bad_own}
use Rattle.book.specs.declared.HeadState.TheVariants.{Claimed}
use Rattle.book.specs.Heads.{head_count, head_at}
use Rattle.book.specs.State.{State, Operation, format, recover, open_reel, claim, fill, commit, abandon, remove, retire, tidy, query}
use Rattle.book.specs.Checks.{place_in, target_in, refusals}
use Rattle.book.specs.Perform.{group, locate_then, claim_script, granted, left_by, perform}
use Rattle.book.specs.Histories.{done}
use Rattle.book.specs.PlacesLeft.{LeftAfter, IsClaim, is_claim, PlacesLeft}
use Rattle.book.proofs.Refusals.{denied, passes}
use Rattle.book.proofs.Performed.{answer_is, left_granted, left_refused}
use Rattle.book.proofs.Done.{done_granted}
use Rattle.book.proofs.Heads.{head_written}
use Rattle.book.proofs.View.{Header}
use Rattle.book.proofs.Stored.{node_inside}
use Rattle.book.proofs.Inside.{RoomInside, path_room, run_inside}
use Rattle.book.proofs.NewNodes.{new_nodes, made}
use Rattle.book.proofs.StepClaim.{script_clear, script_scale, script_branch}

-- ---- the locate word of the room's node is below its size

module _ (g : Geometry) (m : Memory) where
  abbrev LocateFits : Room → Type 0
  LocateFits (Clear t) = (m (locate_at g t.node) < 2 ^ m (size_at g t.node)) × (t.place < m (size_at g t.node))
  LocateFits (ScaleUp n size) = (m (locate_at g n) < 2 ^ size) × (0 < size)
  LocateFits (BranchOut parent d) = Unit {0}

  path_fits : (s f : ℕ) → not (is_some (path_from g m s f)) ≡ false → LocateFits (room_on g m (path_from g m s f))
  path_fits = room_by g m LocateFits (λ t a l. (a.is.locate, l)) (λ n a l. (a.is.locate, some_size a.is)) (λ n d a l. tt)

-- ---- the image after the script

-- the size of the room's node by then
abbrev size_then : Geometry → Memory → Room → ℕ
size_then g m (Clear t) = m (size_at g t.node)
size_then g m (ScaleUp n size) = 2 * size
size_then g m (BranchOut parent d) = 64

-- the locate word and the size of a node, after
record After (m' : Memory) (g : Geometry) (n w size left : ℕ) : Type 0 where
  locate : m' (locate_at g n) ≡ w
  size_is : m' (size_at g n) ≡ size
  fits : w < 2 ^ size
  left_is : left ≡ size - ones w

module _ {g : Geometry} {o : Bool} {im : List ℕ} (hd : Header g o im) where
  abbrev m : Memory
  m = reads im

  after_room : (r : Room) (start f : ℕ) → RoomInside g m r → LocateFits g m r → at_level31 r ≡ false → (0 < needs r → start + needs r ≤ g.nodes)
      → let t = place_in r start f in
      After (reads (apply im (segmented (claim_script g m r start f)))) g t.node (with_bit (locate_then g m r t.node) t.place) (size_then g m r) (places_left g m r)
  unfolding places_left left_at
  after_room (Clear t) start f a b k run =
      let i = locate_at g t.node in
      let w = with_bit (m i) t.place in
      rw (script_clear g m start f t, apply_single im ((i, w) ∷ [])) (record {
        locate = get_or-set_same im i w 0 (omega (arith, node_inside t.node 1 hd a.node (omega arith)));
        size_is = get_or-set_other im i (size_at g t.node) w 0 (λ q. omega arith);
        fits = bit_laws.with_fits (m i) t.place _ b.1 b.0;
        left_is = refl;
      })
  after_room (ScaleUp n size) start f a b k run =
      let i = locate_at g n in
      let w = with_bit (m i) size in
      let im1 = set im (size_at g n) (2 * size) in
      rw (script_scale g m start f n size, apply_single im ((size_at g n, 2 * size) ∷ (i, w) ∷ [])) (record {
        locate = get_or-set_same im1 i w 0 (rw (length-set im (size_at g n) (2 * size)) (omega (arith, node_inside n 1 hd a.0 (omega arith))));
        size_is = get_or-set_other im1 i (size_at g n) w 0 (λ q. omega arith)
            ∙ get_or-set_same im (size_at g n) (2 * size) 0 (omega (arith, node_inside n 4 hd a.0 (omega arith)));
        fits = bit_laws.with_fits (m i) size _ (omega (arith, b.1)) (omega (arith, b.0, pow_mono {i = size} {j = 2 * size} (omega arith)));
        left_is = refl;
      })
  after_room (BranchOut parent d) start f a b k run =
      let n = start + child d f in
      let c = child_laws.below d f (deep d a.1 k) in
      let inside : n < g.nodes = omega (arith, c, run (omega (arith, c))) in
      let im1 = apply im (stores (new_nodes g (suc d) 64 (group start d))) in
      let im2 = set im1 (next_at g parent) (start + 1) in
      let new = made g (suc d) 64 (group start d) hd (range_has start (fanout d) {c = n} (omega arith) (omega arith)) inside in
      let words : length im2 ≡ length im = length-set im1 (next_at g parent) (start + 1) ∙ apply_laws.length_apply im (stores (new_nodes g (suc d) 64 (group start d))) in
      rw (
        script_branch g m start f parent d,
        apply_first im (new_nodes g (suc d) 64 (group start d)) (single ((next_at g parent, start + 1) ∷ (locate_at g n, with_bit 0 0) ∷ [])),
        apply_single im1 ((next_at g parent, start + 1) ∷ (locate_at g n, with_bit 0 0) ∷ []),
      ) (record {
        locate = get_or-set_same im2 (locate_at g n) (with_bit 0 0) 0 (rw words (omega (arith, node_inside n 1 hd inside (omega arith))));
        size_is = get_or-set_other im2 (locate_at g n) (size_at g n) (with_bit 0 0) 0 (λ q. omega arith)
            ∙ get_or-set_other im1 (next_at g parent) (size_at g n) (start + 1) 0 (λ q. omega arith) ∙ new.size_is;
        fits = bit_laws.with_fits 0 0 64 (omega arith) (omega arith);
        left_is = refl;
      })
    where
      deep : (d : ℕ) → d < levels → eqb d 31 ≡ false → d < 31
      deep d l e = omega (arith, eqb-false d 31 e)

-- ---- an answered claim

answered : (words script h reel f : ℕ) (s : State) → Fit s.image → length s.heads ≡ 5 * head_count → (perform (claim words script h reel f) s).answer ≡ 0
    → LeftAfter (claim words script h reel f) s h
unfolding refusals granted bad_image in_range
answered words script h reel f s fit hs e =
    let op = claim words script h reel f in
    let im = s.image in
    let mm = reads im in
    let g = geometry_of mm in
    let slot = slot_of g mm reel in
    let p = passes (refusals op s) (omega arith) (sym (answer_is op s) ∙ e) in
    let q = p.1.1.1.1 in
    let room = q.1.1.1 in
    let hd : Header g (has_own mm) im = record {
      fits = fit;
      edition = p.1.0;
      geometry = refl;
      in_range_lem = omega (arith, p.0);
      words = omega (arith, p.0);
      own = refl;
      good_table = denied (bad_own mm) p.1.1.1.0;
    } in
    let r = room_on g mm (path_from g mm slot f) in
    let start = free_run g (reads s.pool) (needs r) in
    let t = place_in r start f in
    let a = after_room hd r start f (path_room g mm slot f room.0.0) (path_fits g mm slot f room.0.0) room.0.1
    (run_inside g (reads s.pool) (needs r) room.1.1.1.0) in
    let w = with_bit (locate_then g mm r t.node) t.place in
    let few = ones-le (size_then g mm r) w a.fits in
    let d = done_granted op s e in
    let image : (done op s).image ≡ apply im (segmented (claim_script g mm r start f)) = ap (λ x. x.image) d in
    let left = left_granted op s e ∙ a.left_is in
    record {
      target = target_in slot r start f;
      claimed = ap (λ x. head_at x.heads h) d ∙ head_written s.heads h (Claimed (target_in slot r start f)) (omega (arith, q.0));
      locate = w;
      locate_is = ap (λ x. reads x (locate_at g t.node)) image ∙ a.locate;
      size = size_then g mm r;
      size_is = ap (λ x. reads x (size_at g t.node)) image ∙ a.size_is;
      taken = bit_laws.with_sets (locate_then g mm r t.node) t.place;
      by_ones = omega (arith, left, few);
      clear = omega (arith, left, ones_clear w (size_then g mm r) a.fits);
    }

-- ---- the others

none_left : (op : Operation) (s : State) → (IsClaim op → ⊥) → left_by op s ≡ 0
none_left (claim words script h reel f) s n = absurd (n is_claim)
none_left (format words table slots nodes) s n = refl
none_left (recover words) s n = refl
none_left (open_reel words script reel) s n = refl
none_left (fill script h) s n = refl
none_left (commit script h) s n = refl
none_left (abandon script h) s n = refl
none_left (remove script reel f) s n = refl
none_left (retire words scratch script reel) s n = refl
none_left (tidy words scratch script reel) s n = refl
none_left (query q) s n = refl

no_claim : (op : Operation) (s : State) → (IsClaim op → ⊥) → (perform op s).places_left_lem ≡ 0
no_claim op s n = elim (ℕ_discrete (perform op s).answer 0) [ yes h ↦ left_granted op s h ∙ none_left op s n | no h ↦ left_refused op s h ]

pub places_left_lem : PlacesLeft
places_left_lem = record { answered = answered; refused = left_refused; no_claim = no_claim }
