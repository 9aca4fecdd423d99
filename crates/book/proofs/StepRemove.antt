-- The step of Remove: the set bit goes, and with it the frame from its reel; then the locate bit goes.
use mathlib.Core.Path.{◌≡◌, refl, sym, ◌∙◌, ap}
use mathlib.Core.Bool.{Bool, true, false}
use mathlib.Core.Logic.{inl, inr}
use mathlib.Core.Option.{Option}
use mathlib.Core.List.{List, [], ◌∷◌}
use Prim.Native.Nat.{ℕ, ◌<◌}
use native.Mathlib.Omega.{arith}
use native.Mathlib.Decide.{dec_lt}
use lib.ListN.{length, set}
use borrow.Author.Tests.{not-false}
use Rattle.tree.specs.Memory.{Memory, reads, is_set, without_bit, Store, is_some, Fit, single}
use Rattle.tree.specs.declared.layout.Geometry.{Geometry}
use Rattle.tree.specs.Layout.{geometry_of, reel_at, locate_at, set_at, size_at}
use Rattle.tree.specs.Fingerprint.{rule_of}
use Rattle.tree.specs.Node.{held}
use Rattle.tree.specs.Slots.{slot_of}
use Rattle.tree.specs.Reach.{Holds}
use Rattle.tree.specs.declared.path.Spot.{Spot}
use Rattle.tree.specs.Lookup.{find}
use Rattle.tree.specs.Same.{Stores}
use Rattle.tree.specs.Laws.{WellFormed}
use Rattle.tree.specs.Changes.{Removes}
use Rattle.tree.proofs.Cases.{true_not_false, seen, nothing, just}
use Rattle.tree.proofs.Memory.{bit_laws}
use Rattle.tree.proofs.Nodes.{well_formed_facts}
use Rattle.tree.proofs.Same.{reaches_on}
use Rattle.tree.proofs.Laws.{slot_laws, lookup_rule, change_laws}
use Rattle.book.specs.declared.Target.{Target}
use Rattle.book.specs.State.{State, remove, arguments}
use Rattle.book.specs.Checks.{refusals}
use Rattle.book.specs.Perform.{remove_script, found_spot, granted, writing, perform}
use Rattle.book.specs.Table.{Table, Reel, with_reels, change_frames, without, table_work}
use Rattle.book.specs.Agrees.{Reached, Claims, ClaimsPlace, Agrees}
use Rattle.book.proofs.Refusals.{passes}
use Rattle.book.proofs.Performed.{answer_is}
use Rattle.book.proofs.View.{View}
use Rattle.book.proofs.Step.{Step}
use Rattle.book.proofs.Stored.{same_rule, stores_set, header_set, node_inside}
use Rattle.book.proofs.Reels.{same_reached}
use Rattle.book.proofs.Views.{view_removed}
use Rattle.book.proofs.Sames.{view_locate}
use Rattle.book.proofs.Showing.{shows_view}
use Rattle.book.proofs.Claims.{head_on, about_claim, AgreesBy}
use Rattle.book.proofs.Keeps.{Within, within_on, within_frames, within_keeping}
use Rattle.book.proofs.OnePlace.{OnePlace, place_within, one_after_other, set_place, locate_place, locate_within}
use Rattle.book.proofs.Replaced.{beside_claim, Located, located_on, same_place?}
use Rattle.book.proofs.Single.{agrees_by, left_new, agrees_new, step_of}

-- ---- what it does

-- two stores
abbrev removing : Geometry → Memory → Spot → List Store
removing g m t =
    (set_at g t.node, without_bit (m (set_at g t.node)) t.place)
    ∷ (locate_at g t.node, without_bit (m (locate_at g t.node)) t.place) ∷ []

module _ (script reel f : ℕ) (s : State) where
  abbrev found : Option Spot
  found = find (rule_of (reads s.image)) (geometry_of (reads s.image)) (reads s.image) (slot_of (geometry_of (reads s.image)) (reads s.image) reel) f

  remove_passes : (perform (remove script reel f) s).answer ≡ 0
      → (slot_of (geometry_of (reads s.image)) (reads s.image) reel < (geometry_of (reads s.image)).slots) × (is_some found ≡ true)
  unfolding refusals
  remove_passes e =
      let p = passes (refusals (remove script reel f) s) (omega arith) (sym (answer_is (remove script reel f) s) ∙ e) in
      (p.1.1.1.1.0, not-false _ p.1.1.1.1.1.1.1.0)

  remove_granted : granted (remove script reel f) s ≡ writing (single (removing (geometry_of (reads s.image)) (reads s.image) (found_spot found)))
      (record { image = s.image; pool = s.pool; heads = s.heads })
  unfolding granted remove_script
  remove_granted = refl

remove_table : (script reel f : ℕ) (t : Table) → (table_work (remove script reel f) t).after ≡ with_reels t (change_frames reel (without f) t.reels)
unfolding table_work
remove_table script reel f t = refl

-- ---- the images after each store

module _ {g : Geometry} {o : Bool} {im : List ℕ} {rs : List Reel} {slot f : ℕ} {w : List ℕ} (v : View g o im rs) (x : Spot)
    (y : Holds g (reads im) slot w x.node x.place f) where
  formed : WellFormed g (reads im) (length w) x.node
  formed = (well_formed_facts g (reads im) (length w) x.node).0 (v.sound.well_formed_lem y.there)

  -- a place held is inside its node
  low : x.place < reads im (size_at g x.node)
  low = elim (dec_lt x.place (reads im (size_at g x.node))) [
    | yes l ↦ l
    | no l ↦ absurd (true_not_false y.set (bit_laws.none_above _ (reads im (size_at g x.node)) x.place formed.set (omega arith)))
  ]

  -- held no more
  abbrev unset : List ℕ
  unset = set im (set_at g x.node) (without_bit (reads im (set_at g x.node)) x.place)

  inside : set_at g x.node < length im
  inside = node_inside x.node 2 v.header formed.inside (omega arith)

  unset_stores : Stores (reads im) (set_at g x.node) (without_bit (reads im (set_at g x.node)) x.place) (reads unset)
  unset_stores = stores_set im _ _ inside

  removes : Removes g (reads im) slot w x.node x.place (without_bit (reads im (set_at g x.node)) x.place)
  removes = record {
    there = y.there;
    bits = record { others = λ q d. sym (bit_laws.without_keeps _ x.place q d); fits = bit_laws.without_fits _ _ _ formed.set };
    off = bit_laws.without_clears _ x.place;
  }

  unset_view : View g o unset (change_frames (reads im (reel_at slot)) (without f) rs)
  unset_view = view_removed v
      (header_set _ _ v.header (omega arith) inside (bit_laws.without_fits _ x.place 64 (v.header.fits _))) y removes unset_stores

  unset_place : OnePlace g (reads im) (reads unset) x.node x.place
  unset_place = set_place x.node x.place unset_stores (λ q d. sym (bit_laws.without_keeps _ x.place q d))

  unset_within : Within g (reads im) (reads unset)
  unset_within = place_within unset_place (λ s w n p f z. (((change_laws (reads unset) v.sound).removed removes unset_stores).holds.0 z).0)

  -- and located no more
  abbrev cleared : List ℕ
  cleared = set unset (locate_at g x.node) (without_bit (reads im (locate_at g x.node)) x.place)

  stored : Stores (reads unset) (locate_at g x.node) (without_bit (reads im (locate_at g x.node)) x.place) (reads cleared)
  stored = stores_set unset _ _ (node_inside x.node 1 unset_view.header formed.inside (omega arith))

  view : View g o cleared (change_frames (reads im (reel_at slot)) (without f) rs)
  view = view_locate unset_view (reaches_on unset_place.links y.there) _
      (rw (← unset_place.sizes x.node) (bit_laws.without_fits _ x.place _ formed.locate))

  place : OnePlace g (reads im) (reads cleared) x.node x.place
  place = one_after_other unset_place (locate_place x.node x.place stored (λ q d.
      ap (λ w. is_set w q) (sym (unset_stores.old (locate_at g x.node) (λ z. omega arith))) ∙ sym (bit_laws.without_keeps _ x.place q d)))

  within : Within g (reads im) (reads cleared)
  within = within_on unset_within (locate_within x.node x.place stored)

  not_located : is_set (reads cleared (locate_at g x.node)) x.place ≡ false
  not_located = ap (λ w. is_set w x.place) stored.new ∙ bit_laws.without_clears _ x.place

  not_held : held g (reads cleared) x.node x.place ≡ false
  not_held = ap (λ w. is_set w x.place) (sym (stored.old (set_at g x.node) (λ q. omega arith)) ∙ unset_stores.new) ∙ bit_laws.without_clears _ x.place

-- ---- agreement after them: no claim is of a place that was held

module _ {g : Geometry} {o : Bool} {s : State} {t : Table} {rs : List Reel} {slot f : ℕ} {w : List ℕ} (v : View g o s.image rs) (a : AgreesBy g s t) (x : Spot)
    (y : Holds g (reads s.image) slot w x.node x.place f) where
  other_place : {b : Target} {reel f' : ℕ} → Claims g (reads s.image) b reel f' → (b.node ≡ x.node) × (b.place ≡ x.place) → ⊥
  other_place c q = true_not_false y.set (rw (q.0, q.1) at c.not_set)

  unclaimed : (n p h : ℕ) → ClaimsPlace s.heads h n p → (n ≡ x.node) × (p ≡ x.place) → ⊥
  unclaimed n p h c q = other_place (about_claim (a.heads h c.low) c.about).2 (c.node ∙ q.0, c.place ∙ q.1)

  locates : (n p : ℕ) → Reached g (reads s.image) n → p < 64 → Located g (reads (cleared v x y)) s.heads n p
  locates n p c l = elim (same_place? x.node x.place n p) [
    | inl q ↦ (
      λ z. absurd (true_not_false (rw (q.0, q.1) at z) (not_located v x y)),
      λ z. elim z [ inl z ↦ absurd (true_not_false (rw (q.0, q.1) at z) (not_held v x y)) | inr z ↦ absurd (unclaimed n p z.0 z.1 q) ],
    )
    | inr q ↦
        let u = (place v x y).beside l q in
        located_on g (reads s.image) (reads (cleared v x y)) u.locate u.set (λ h z. z) (λ h z. z) (a.locates n p c l)
  ]

  agrees : (rs' : List Reel) → AgreesBy g (record { image = cleared v x y; pool = s.pool; heads = s.heads }) (with_reels t rs')
  agrees rs' = record {
    map_words_lem = a.map_words_lem;
    marks = λ n. (λ q. (same_reached (place v x y).links).0 ((a.marks n).0 q), λ c. (a.marks n).1 ((same_reached (place v x y).links).1 c));
    head_words = a.head_words;
    table_heads = a.table_heads;
    heads = λ h l. head_on (same_rule _ _ (place v x y).header) (λ b reel f' z c.
        beside_claim v.sound (place v x y) c (other_place c) (within_frames (within v x y))) (a.heads h l);
    apart = a.apart;
    locates = λ n p c. locates n p ((same_reached (place v x y).links).1 c);
  }

pub step_remove : {s : State} {t : Table} → Agrees s t → (script reel f : ℕ) → Fit (arguments (remove script reel f))
    → (perform (remove script reel f) s).answer ≡ 0 → Step (remove script reel f) s t
step_remove {s} {t} a script reel f fits e =
    let p = remove_passes script reel f s e in
    elim (seen (found script reel f s)) [
      | nothing q ↦ absurd (true_not_false p.1 (ap is_some q))
      | just x q ↦
          let v = shows_view a.shows in
          let b = (slot_laws (geometry_of (reads s.image)) (reads s.image)).reel reel p.0 in
          let y = (((lookup_rule (rule_of (reads s.image)) (geometry_of (reads s.image)) (reads s.image) v.sound b.0).at f x.node x.place).0 q).1 in
          step_of (removing (geometry_of (reads s.image)) (reads s.image) x) s.pool s.heads
          (with_reels t (change_frames reel (without f) t.reels)) a.shows
          (remove_granted script reel f s ∙ ap (λ o. writing (single (removing (geometry_of (reads s.image)) (reads s.image) (found_spot o)))
          (record { image = s.image; pool = s.pool; heads = s.heads })) q)
          (remove_table script reel f t) (
            left_new a.shows (rw b.1 at (unset_view v x y)) refl refl (within_keeping (unset_within v x y)),
            (left_new a.shows (rw b.1 at (view v x y)) refl refl (within_keeping (within v x y)), tt),
          )
          (agrees_new a.shows (rw b.1 at (view v x y)) refl refl (agrees v (agrees_by a) x y (change_frames reel (without f) t.reels)))
    ]
