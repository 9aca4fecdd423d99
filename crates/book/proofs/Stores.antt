-- What each answered operation stores, over any state.
use mathlib.Core.Path.{◌≡◌, refl, sym, ◌∙◌, ap, subst}
use mathlib.Core.Bool.{Bool, true, false}
use mathlib.Core.Logic.{◌⊎◌, inl, inr, ◌↔◌}
use mathlib.Core.Option.{Option, none, some}
use mathlib.Core.List.Memᴰ
use mathlib.Core.List.{List, [], ◌∷◌, ◌++◌, Memᴰ}
use Prim.Native.Nat.{ℕ, zero, suc, ◌+◌, ◌*◌, ◌%◌, ◌≤◌, ◌<◌}
use native.Mathlib.Omega.{arith}
use lib.ListN.{length, get_elem?}
use borrow.Author.Tests.{eqb-false, not-false}
use Rattle.tree.specs.Memory.{Memory, reads, with_bit, without_bit, with_byte, is_some}
use Rattle.tree.specs.declared.layout.Geometry.{Geometry}
use Rattle.tree.specs.declared.path.Spot.{Spot}
use Rattle.tree.specs.Layout.{locate_at, set_at, fingerprints_at}
use Rattle.tree.specs.Path.{fanout, way_of}
use Rattle.tree.specs.Fingerprint.{Rule, fingerprint, rule_of}
use Rattle.tree.specs.Slots.{Filled, slot_of}
use Rattle.tree.specs.Reach.{Reaches}
use Rattle.tree.specs.declared.path.Room.{Room}
use Rattle.tree.specs.declared.path.Room.TheVariants.{Clear, ScaleUp, BranchOut}
use Rattle.tree.specs.Room.{room_on, needs, at_level31}
use Rattle.tree.specs.Lookup.{path_from, matches, found_at, lookup, find, free_run}
use Rattle.tree.specs.Laws.{FirstAt}
use Rattle.tree.specs.Subtree.{tree, nodes_of, held_places, frames_in, listing}
use Rattle.tree.specs.Lists.{range, up_to, keep}
use Rattle.tree.proofs.Memory.{bit_laws, byte_laws, first_laws}
use Rattle.tree.proofs.Cases.{test, true_not_false, seen, nothing, just}
use Rattle.tree.proofs.Lists.{in_range_lem, kept}
use Rattle.tree.proofs.Subtree.{held_places_lem}
use Rattle.tree.proofs.Lookup.{of_index, match_facts}
use Rattle.tree.proofs.Laws.{child_laws, path_laws, spot_laws, run_laws, pool_laws, tree_laws}
use Rattle.tree.proofs.Fingerprints.{fingerprint_laws}
use Rattle.book.specs.declared.Target.{Target}
use Rattle.book.specs.declared.HeadState.TheVariants as heads
use Rattle.book.specs.Heads.{head_count, head_at, words_of, with_head, target_of}
use Rattle.book.specs.State.{State, Operation, claim, fill, commit, abandon, remove, retire, tidy, query, has, list, memory, shape}
use Rattle.book.specs.Checks.{place_in, refusals}
use Rattle.book.specs.Perform.{claim_script, room_script, taken, fill_script, remove_script, found_spot, granted, perform}
use Rattle.book.specs.Ways.{Matches}
use Rattle.book.specs.Stores.{BitOn, BitOff, Recorded, no_target, FirstMatch, FillStores, CommitStores, AbandonStores, RemoveStores, RetireStores, TidyStores, HasSays, yes, no, ListGives, ClaimStores, at_clear_place, at_scale_up, at_branch_out, ClaimWrites}
use Rattle.book.proofs.Refusals.{passes}
use Rattle.book.proofs.Performed.{answer_is, work_granted}
use Rattle.book.proofs.Heads.{word_written, word_stays, claimed_is, filled_is, about_target}
use Rattle.book.proofs.DueWords.{reel_slot}
use Rattle.book.proofs.StepRetire.{tree_nodes}
use Rattle.book.proofs.TidyFound.{children_freed, tidy_found}
use Rattle.book.proofs.Rooms.{RoomIs, room_is, at_split, in_front}

-- ---- words and records

bit_on : (w p : ℕ) → BitOn w p (with_bit w p)
bit_on w p = record { on = bit_laws.with_sets w p; others = bit_laws.with_keeps w p }

bit_off : (w p : ℕ) → BitOff w p (without_bit w p)
bit_off w p = record { off = bit_laws.without_clears w p; others = bit_laws.without_keeps w p }

module _ (ws : List ℕ) (h : ℕ) (inside : 5 * h + 5 ≤ length ws) where
  zeroth : 5 * h + 0 ≡ 5 * h
  zeroth = omega arith

  record_claimed : (t : Target) → Recorded h 1 t ws (with_head ws h (heads.Claimed t))
  unfolding words_of
  record_claimed t = let w = word_written ws h (heads.Claimed t) inside in record {
    state_word = rw zeroth at (w 0 (omega arith));
    slot_word = w 1 (omega arith);
    node_word = w 2 (omega arith);
    place_word = w 3 (omega arith);
    frame_word = w 4 (omega arith);
    others = word_stays ws h (heads.Claimed t) inside;
  }

  record_filled : (t : Target) → Recorded h 2 t ws (with_head ws h (heads.Filled t))
  unfolding words_of
  record_filled t = let w = word_written ws h (heads.Filled t) inside in record {
    state_word = rw zeroth at (w 0 (omega arith));
    slot_word = w 1 (omega arith);
    node_word = w 2 (omega arith);
    place_word = w 3 (omega arith);
    frame_word = w 4 (omega arith);
    others = word_stays ws h (heads.Filled t) inside;
  }

  record_idle : Recorded h 0 no_target ws (with_head ws h heads.Idle)
  unfolding words_of
  record_idle = let w = word_written ws h heads.Idle inside in record {
    state_word = rw zeroth at (w 0 (omega arith));
    slot_word = w 1 (omega arith);
    node_word = w 2 (omega arith);
    place_word = w 3 (omega arith);
    frame_word = w 4 (omega arith);
    others = word_stays ws h heads.Idle inside;
  }

-- ---- slots and places

module _ (r : Rule) {g : Geometry} {m : Memory} {slot : ℕ} (f : ℕ) (ns : List ℕ) (open_slot : Filled g m slot) (is-path : path_from g m slot f ≡ some ns) where
  by_number : (d n : ℕ) → (get_elem? ns d ≡ some n) ↔ Reaches g m slot (way_of d f) n
  by_number = (path_laws f open_slot).nodes ns is-path

  matched : {d n p : ℕ} → Reaches g m slot (way_of d f) n → p < 64 → (matches r g m f n p ≡ true) ↔ Matches r g m slot f d n p
  matched {n = n} {p = p} x l = (
    λ e. let t = (match_facts r g m f n p).0 e in record { there = x; low = l; set_bit = t.0; of_frame = t.1.0; printed = t.1.1 },
    λ y. (match_facts r g m f n p).1 (y.set_bit, (y.of_frame, y.printed)),
  )

  first_at : (t : Spot) → FirstAt (found_at r g m f) (λ n. 64) ns t.node t.place → FirstMatch r g m slot f t.node t.place
  unfolding found_at
  first_at t a =
      let l = first_laws (matches r g m f t.node) 64 in
      let there : Reaches g m slot (way_of (length a.above) f) t.node =
      (by_number (length a.above) t.node).0 (rw a.split (at_split a.above a.below t.node)) in
      record {
        depth = length a.above;
        is = (matched there a.within).0 (rw a.is at (l.holds (omega (arith, a.is, a.within))));
        above = λ d n p k y.
            let q = a.none_above n (in_front a.above (t.node ∷ a.below) d k (rw a.split at ((by_number d n).1 y.there))) in
            true_not_false ((matched y.there y.low).1 y) ((first_laws (matches r g m f n) 64).none_before p (omega (arith, y.low)));
        lower = λ p k y. true_not_false ((matched there y.low).1 y) (l.none_before p (omega (arith, a.is)));
      }

  first_match : (t : Spot) → lookup r g m f ns ≡ some t → FirstMatch r g m slot f t.node t.place
  unfolding lookup
  first_match t e = first_at t (((spot_laws (found_at r g m f) (λ n. 64) ns).found t.node t.place).0 e)

  no_match : lookup r g m f ns ≡ none → (d n p : ℕ) → Matches r g m slot f d n p → ⊥
  unfolding lookup found_at
  no_match e d n p y =
      let q = (spot_laws (found_at r g m f) (λ n. 64) ns).nowhere.0 e n (of_index ns d ((by_number d n).1 y.there)) in
      true_not_false ((matched y.there y.low).1 y) ((first_laws (matches r g m f n) 64).none_before p (omega (arith, y.low)))

-- ---- the operations on a head's target

inside : (s : State) {h : ℕ} → length s.heads ≡ 5 * head_count → h < head_count → 5 * h + 5 ≤ length s.heads
inside s e l = omega (arith, e, l)

pub fills : (script h : ℕ) (s : State) → length s.heads ≡ 5 * head_count → (perform (fill script h) s).answer ≡ 0 → FillStores (fill script h) s h
unfolding refusals granted fill_script
fills script h s l e =
    let op = fill script h in
    let p = passes (refusals op s) (omega arith) (sym (answer_is op s) ∙ e) in
    let t = target_of (head_at s.heads h) in
    let q = claimed_is (head_at s.heads h) (not-false _ p.1.1.1.1.1.0) in
    let b = fingerprint_laws.rule_fits (memory s) t.frame in
    let i = fingerprints_at (shape s) t.node t.place in
    let w = work_granted op s e in
    record {
      target = t;
      claimed = q;
      prints = with_byte (memory s i) (t.place % 8) (fingerprint (rule_of (memory s)) t.frame);
      printed = byte_laws.with_puts (memory s i) (t.place % 8) _ b;
      kept = λ j d. byte_laws.with_keeps (memory s i) (t.place % 8) _ j b d;
      stores = ap (λ x. x.script) w;
      head = rw w (record_filled s.heads h (inside s l p.1.1.1.1.0) t);
    }

pub commits : (script h : ℕ) (s : State) → length s.heads ≡ 5 * head_count → (perform (commit script h) s).answer ≡ 0 → CommitStores (commit script h) s h
unfolding refusals granted
commits script h s l e =
    let op = commit script h in
    let p = passes (refusals op s) (omega arith) (sym (answer_is op s) ∙ e) in
    let t = target_of (head_at s.heads h) in
    let w = work_granted op s e in
    record {
      target = t;
      filled = filled_is (head_at s.heads h) (not-false _ p.1.1.1.1.1.0);
      word = with_bit (memory s (set_at (shape s) t.node)) t.place;
      bit = bit_on _ _;
      stores = ap (λ x. x.script) w;
      head = rw w (record_idle s.heads h (inside s l p.1.1.1.1.0));
    }

pub abandons : (script h : ℕ) (s : State) → length s.heads ≡ 5 * head_count → (perform (abandon script h) s).answer ≡ 0
    → AbandonStores (abandon script h) s h
unfolding refusals granted
abandons script h s l e =
    let op = abandon script h in
    let p = passes (refusals op s) (omega arith) (sym (answer_is op s) ∙ e) in
    let t = target_of (head_at s.heads h) in
    let w = work_granted op s e in
    record {
      target = t;
      about = about_target (head_at s.heads h) p.1.1.1.1.1.0;
      word = without_bit (memory s (locate_at (shape s) t.node)) t.place;
      bit = bit_off _ _;
      stores = ap (λ x. x.script) w;
      head = rw w (record_idle s.heads h (inside s l p.1.1.1.1.0));
    }

-- ---- the operations on a reel

-- a lookup that was made: the path is there
some_path : (r : Rule) (g : Geometry) (m : Memory) (slot f : ℕ) → is_some (path_from g m slot f) ≡ true
    → (ns : List ℕ) × (path_from g m slot f ≡ some ns) × (find r g m slot f ≡ lookup r g m f ns)
unfolding find
some_path r g m slot f h = elim (seen (path_from g m slot f)) [
  | just ns e ↦ (ns, e, rw e refl)
  | nothing e ↦ absurd (true_not_false (rw e at h) refl)
]

found_spot_lem : (x : Option Spot) → is_some x ≡ true → x ≡ some (found_spot x)
found_spot_lem none h = absurd (true_not_false h refl)
found_spot_lem (some t) h = refl

pub removes : (script reel f : ℕ) (s : State) → (perform (remove script reel f) s).answer ≡ 0 → RemoveStores (remove script reel f) s reel f
unfolding refusals granted remove_script
removes script reel f s e =
    let op = remove script reel f in
    let r = rule_of (memory s) in
    let g = shape s in
    let m = memory s in
    let slot = slot_of g m reel in
    let p = passes (refusals op s) (omega arith) (sym (answer_is op s) ∙ e) in
    let reel_there = reel_slot s reel p.1.1.1.1.0 in
    let path = some_path r g m slot f (not-false _ p.1.1.1.1.1.1.0) in
    let at = found_spot_lem (find r g m slot f) (not-false _ p.1.1.1.1.1.1.1.0) in
    let w = work_granted op s e in
    record {
      slot = slot;
      of_reel = reel_there;
      node = (found_spot (find r g m slot f)).node;
      place = (found_spot (find r g m slot f)).place;
      first = first_match r f path.0 reel_there.has.open_slot path.1 (found_spot (find r g m slot f)) (sym path.2 ∙ at);
      set_word = _;
      set_bit = bit_off _ _;
      locate_word = _;
      locate_bit = bit_off _ _;
      stores = ap (λ x. x.script) w;
    }

pub asks : (reel f : ℕ) (s : State) → (perform (query (has reel f)) s).answer ≡ 0 → HasSays s reel f (perform (query (has reel f)) s).work.handed.value
unfolding refusals granted
asks reel f s e =
    let op = query (has reel f) in
    let r = rule_of (memory s) in
    let g = shape s in
    let m = memory s in
    let slot = slot_of g m reel in
    let p = passes (refusals op s) (omega arith) (sym (answer_is op s) ∙ e) in
    let reel_there = reel_slot s reel p.1.1.1.1.0 in
    let path = some_path r g m slot f (not-false _ p.1.1.1.1.1.0) in
    let open_slot = reel_there.has.open_slot in
    rw (work_granted op s e) (elim (seen (find r g m slot f)) [
      | just t q ↦ rw q (yes reel_there (first_match r f path.0 open_slot path.1 t (sym path.2 ∙ q)).is)
      | nothing q ↦ rw q (no reel_there (no_match r f path.0 open_slot path.1 (sym path.2 ∙ q)))
    ])

pub retires : (words scratch script reel : ℕ) (s : State) → (perform (retire words scratch script reel) s).answer ≡ 0
    → RetireStores (retire words scratch script reel) s reel
unfolding refusals granted
retires words scratch script reel s e =
    let op = retire words scratch script reel in
    let g = shape s in
    let m = memory s in
    let slot = slot_of g m reel in
    let p = passes (refusals op s) (omega arith) (sym (answer_is op s) ∙ e) in
    let reel_there = reel_slot s reel p.1.1.1.1.0 in
    let nodes = tree_nodes reel_there.has.open_slot in
    let w = work_granted op s e in
    record {
      slot = slot;
      of_reel = reel_there;
      stores = ap (λ x. x.script) w;
      map_words_lem = ap (λ x. length x.after.pool) w ∙ pool_laws.length_unmark_all s.pool _;
      frees = λ n.
          let u = pool_laws.unmarks_all s.pool (nodes_of (tree g m slot)) n in
          rw w (
            λ x. ((u.0 x).0, λ v y. (u.0 x).1 ((nodes n).1 (v, y))),
            λ x. u.1 (x.0, λ y. let z = (nodes n).0 y in x.1 z.0 z.1),
          );
    }

pub tidies : (words scratch script reel : ℕ) (s : State) → (perform (tidy words scratch script reel) s).answer ≡ 0
    → TidyStores (tidy words scratch script reel) s reel
tidies words scratch script reel s e =
    let f = tidy_found s words scratch script reel e in
    let w = work_granted (tidy words scratch script reel) s e ∙ f.work in
    record {
      slot = slot_of (shape s) (memory s) reel;
      of_reel = f.of_reel;
      way = f.parent.way;
      node = f.parent.node;
      first = f.first;
      stores = ap (λ x. x.script) w;
      map_words_lem = ap (λ x. length x.after.pool) w ∙ pool_laws.length_unmark_all s.pool _;
      frees = λ n. rw w (children_freed (shape s) (memory s) f.parent s.pool n);
    }

-- ---- Claim

-- the room that was found, and the nodes that it takes from the map
module _ (s : State) (op : Operation) (slot f : ℕ) where
  abbrev g : Geometry
  g = shape s

  abbrev m : Memory
  m = memory s

  abbrev start_of : Room → ℕ
  start_of r = free_run g (reads s.pool) (needs r)

  by_room : (r : Room) → RoomIs g m slot f r → at_level31 r ≡ false → (needs r ≤ 0) ⊎ (start_of r < g.nodes)
      → ClaimStores op s slot f (claim_script g m r (start_of r) f) (place_in r (start_of r) f).node (place_in r (start_of r) f).place (taken r (start_of r))
  unfolding claim_script room_script
  by_room (Clear t) c low run = at_clear_place c.depth c.there c.above c.place c.clear_bit c.lower (bit_on _ _)
  by_room (ScaleUp n size) c low run = at_scale_up c.there c.ends (sym c.is) c.small c.full (bit_on _ _)
  by_room (BranchOut parent d) c low run =
      let map = reads s.pool in
      let deep : d < 31 = omega (arith, c.depth, eqb-false d 31 low) in
      let some : 0 < fanout d = omega (arith, child_laws.below d f deep) in
      let there : start_of (BranchOut parent d) < g.nodes = elim run [ inl k ↦ absurd (omega arith) | inr k ↦ k ] in
      let laws = run_laws g map (fanout d) in
      rw (← c.is) (at_branch_out c.path deep (laws.found there) (λ a y. (laws.lowest a some y).0) (bit_on _ _))

  -- the nodes taken are inside the pool
  taken_inside : (r : Room) → (needs r ≤ 0) ⊎ (start_of r < g.nodes) → (n : ℕ) → Memᴰ n (taken r (start_of r)) → n < g.nodes
  taken_inside (Clear t) run n x = absurd (Memᴰ.not-nil x)
  taken_inside (ScaleUp n' size) run n x = absurd (Memᴰ.not-nil x)
  taken_inside (BranchOut parent d) run n x =
      let i = in_range_lem (start_of (BranchOut parent d)) (fanout d) x in
      let there : start_of (BranchOut parent d) < g.nodes = elim run [ inl k ↦ absurd (omega arith) | inr k ↦ k ] in
      omega (arith, i, ((run_laws g (reads s.pool) (fanout d)).found there).inside)

pub claims : (words script h reel f : ℕ) (s : State) → length s.heads ≡ 5 * head_count → (perform (claim words script h reel f) s).answer ≡ 0
    → ClaimWrites (claim words script h reel f) s h reel f
unfolding refusals granted
claims words script h reel f s l e =
    let op = claim words script h reel f in
    let shape_of = shape s in
    let slot = slot_of shape_of (memory s) reel in
    let p = passes (refusals op s) (omega arith) (sym (answer_is op s) ∙ e) in
    let reel_there = reel_slot s reel p.1.1.1.1.1.1.0 in
    let open_slot = reel_there.has.open_slot in
    let path = some_path (rule_of (memory s)) shape_of (memory s) slot f (not-false _ p.1.1.1.1.1.1.1.0.0) in
    let room = room_on shape_of (memory s) (path_from shape_of (memory s) slot f) in
    let is : RoomIs shape_of (memory s) slot f room = rw path.1 (room_is f path.0 open_slot path.1) in
    let w = work_granted op s e in
    let place = place_in room (start_of s op slot f room) f in
    let nodes = taken room (start_of s op slot f room) in
    let run = p.1.1.1.1.1.1.1.1.1.1.0 in
    record {
      slot = slot;
      of_reel = reel_there;
      node = place.node;
      place = place.place;
      taken = nodes;
      stores = subst (λ x. ClaimStores op s slot f x place.node place.place nodes) (sym (ap (λ x. x.script) w)) (by_room s op slot f room is p.1.1.1.1.1.1.1.0.1 run);
      head = rw w (record_claimed s.heads h (inside s l p.1.1.1.1.0) (record { slot = slot; node = place.node; place = place.place; frame = f }));
      map_words_lem = rw w (pool_laws.length_mark_all s.pool nodes);
      marks = λ q n. rw w (pool_laws.marks_all s.pool nodes n (λ k x. rw q (pool_laws.inside shape_of k (taken_inside s op slot f room run k x))));
    }

-- ---- List

-- each below all that come after it
abbrev Rising : List ℕ → Type 0
Rising [] = Unit {0}
Rising (p ∷ ps) = ((q : ℕ) → Memᴰ q ps → p < q) × Rising ps

rising_range : (from n : ℕ) → Rising (range from n)
unfolding range
rising_range from zero = tt
rising_range from (suc n) = (λ q x. let r = in_range_lem (suc from) n x in omega arith, rising_range (suc from) n)

rising_keep : (p : ℕ → Bool) (xs : List ℕ) → Rising xs → Rising (keep p xs)
unfolding keep
rising_keep p [] a = tt
rising_keep p (x ∷ xs) a = elim (test (p x)) [
  | inl e ↦ rw e (λ q y. a.0 q (kept p xs y).0, rising_keep p xs a.1)
  | inr e ↦ rw e (rising_keep p xs a.1)
]

above_it : (xs ys : List ℕ) (p : ℕ) → Rising (xs ++ p ∷ ys) → (q : ℕ) → Memᴰ q ys → p < q
above_it [] ys p a = a.0
above_it (x ∷ xs) ys p a = above_it xs ys p a.1

places_rise : (g : Geometry) (m : Memory) (n : ℕ) → Rising (held_places g m n)
unfolding held_places up_to
places_rise g m n = rising_keep _ (range 0 64) (rising_range 0 64)

pub lists : (scratch room reel : ℕ) (s : State) → (perform (query (list scratch room reel)) s).answer ≡ 0
    → ListGives s reel (perform (query (list scratch room reel)) s).work.handed.value (perform (query (list scratch room reel)) s).work.handed.listing
unfolding refusals granted listing frames_in
lists scratch room reel s e =
    let op = query (list scratch room reel) in
    let g = shape s in
    let m = memory s in
    let slot = slot_of g m reel in
    let p = passes (refusals op s) (omega arith) (sym (answer_is op s) ∙ e) in
    let reel_there = reel_slot s reel p.1.1.1.1.0 in
    let l = tree_laws reel_there.has.open_slot in
    rw (work_granted op s e) (record {
      slot = slot;
      of_reel = reel_there;
      visits = tree g m slot;
      reached = l.visited;
      in_order = l.in_order;
      places = held_places g m;
      held = held_places_lem g m;
      rising = λ n lower higher q is. above_it lower higher q (rw is at (places_rise g m n));
      are = refl;
      counted = refl;
    })
