-- The step of Fill: the frame and its fingerprint are put in the head's place, and the head is filled.
use mathlib.Core.Path.{◌≡◌, refl, sym, ◌∙◌, ap, ap₂, subst}
use mathlib.Core.Bool.{Bool, true}
use mathlib.Core.List.{List, [], ◌∷◌}
use Prim.Native.Nat.{ℕ, ◌+◌, ◌/◌, ◌%◌, ◌<◌}
use native.Mathlib.Omega.{arith}
use lib.ListN.{set}
use borrow.Author.Tests.{not-false}
use Rattle.tree.specs.Memory.{Memory, reads, is_set, byte, with_byte, Store, Fit, single}
use Rattle.tree.specs.declared.layout.Geometry.{Geometry}
use Rattle.tree.specs.Layout.{geometry_of, locate_at, set_at, fingerprints_at, frame_at}
use Rattle.tree.specs.Fingerprint.{fingerprint, rule_of}
use Rattle.tree.specs.Node.{held}
use Rattle.tree.specs.Same.{Stores}
use Rattle.tree.proofs.Cases.{true_not_false}
use Rattle.tree.proofs.Memory.{byte_laws}
use Rattle.tree.proofs.Same.{filled_on, reaches_on}
use Rattle.tree.proofs.Fingerprints.{fingerprint_laws}
use Rattle.book.specs.declared.Target.{Target}
use Rattle.book.specs.declared.HeadState.{HeadState}
use Rattle.book.specs.declared.HeadState.TheVariants as heads
use Rattle.book.specs.Heads.{head_count, head_at, is_claimed, target_of, with_head}
use Rattle.book.specs.State.{State, fill, arguments}
use Rattle.book.specs.Checks.{refusals}
use Rattle.book.specs.Perform.{fill_script, granted, writing, perform}
use Rattle.book.specs.Table.{Table, TableHead, Reel, table_head, filled, reel_of, frame_of, table_work}
use Rattle.book.specs.Agrees.{Claims, Written, HeadAgrees, both_idle, both_claimed, both_filled, About, by_claim, Agrees}
use Rattle.book.proofs.Refusals.{passes}
use Rattle.book.proofs.Performed.{answer_is}
use Rattle.book.proofs.View.{View}
use Rattle.book.proofs.Step.{Step}
use Rattle.book.proofs.Stored.{same_rule, stores_set, node_inside}
use Rattle.book.proofs.Sames.{view_frame, view_fingerprint}
use Rattle.book.proofs.Showing.{shows_view}
use Rattle.book.proofs.Keeps.{Within, within_on, within_frames, within_keeping}
use Rattle.book.proofs.OnePlace.{OnePlace, one_after_other, frame_place, frame_within, fingerprint_place, fingerprint_within}
use Rattle.book.proofs.Replaced.{claim_formed, claim_low, retabled, filled_in}
use Rattle.book.proofs.Single.{agrees_by, left_old, agrees_new, step_of}

-- ---- what it does

-- the fingerprint word to come
abbrev printed : Geometry → Memory → Target → ℕ
printed g m x = with_byte (m (fingerprints_at g x.node x.place)) (x.place % 8) (fingerprint (rule_of m) x.frame)

-- two stores
abbrev filling : Geometry → Memory → Target → List Store
filling g m x = (frame_at g x.node x.place, x.frame) ∷ (fingerprints_at g x.node x.place, printed g m x) ∷ []

module _ (script h : ℕ) (s : State) where
  fill_passes : (perform (fill script h) s).answer ≡ 0 → (h < head_count) × (is_claimed (head_at s.heads h) ≡ true)
  unfolding refusals
  fill_passes e =
      let p = passes (refusals (fill script h) s) (omega arith) (sym (answer_is (fill script h) s) ∙ e) in
      (p.1.1.1.1.0, not-false _ p.1.1.1.1.1.0)

  fill_granted : granted (fill script h) s ≡ writing (single (filling (geometry_of (reads s.image)) (reads s.image) (target_of (head_at s.heads h))))
      (record { image = s.image; pool = s.pool; heads = with_head s.heads h (heads.Filled (target_of (head_at s.heads h))) })
  unfolding granted fill_script
  fill_granted = refl

fill_table : (script h : ℕ) (t : Table)
    → (table_work (fill script h) t).after ≡ retabled t t.reels h (filled (reel_of (table_head t h)) (frame_of (table_head t h)))
unfolding table_work
fill_table script h t = refl

-- a claimed head's claim
record Claiming (g : Geometry) (m : Memory) (x : HeadState) (reel f : ℕ) : Type 0 where
  about : About (target_of x) x
  claim : Claims g m (target_of x) reel f

claiming : {g : Geometry} {m : Memory} {x : HeadState} {y : TableHead} → HeadAgrees g m x y → is_claimed x ≡ true → Claiming g m x (reel_of y) (frame_of y)
claiming both_idle h = absurd (true_not_false h refl)
claiming (both_claimed c) h = record { about = by_claim; claim = c }
claiming (both_filled c w) h = absurd (true_not_false h refl)

-- ---- the images after each store

module _ {g : Geometry} {o : Bool} {im : List ℕ} {rs : List Reel} {x : Target} {reel f : ℕ} (v : View g o im rs) (c : Claims g (reads im) x reel f) where
  low : x.place < 64
  low = claim_low v.sound c

  -- the frame
  abbrev framed : List ℕ
  framed = set im (frame_at g x.node x.place) x.frame

  framed_stores : Stores (reads im) (frame_at g x.node x.place) x.frame (reads framed)
  framed_stores = stores_set im _ _
      (omega (arith, low, node_inside x.node (16 + x.place) v.header (claim_formed v.sound c).inside (omega (arith, low))))

  framed_view : View g o framed rs
  framed_view = view_frame v c.on_path_lem x.place x.frame low c.not_set (rw c.of_frame c.word)

  framed_place : OnePlace g (reads im) (reads framed) x.node x.place
  framed_place = frame_place x.node x.place low framed_stores

  framed_within : Within g (reads im) (reads framed)
  framed_within = frame_within x.node x.place low c.not_set framed_stores

  same_prints : reads im (fingerprints_at g x.node x.place) ≡ reads framed (fingerprints_at g x.node x.place)
  same_prints = framed_stores.old (fingerprints_at g x.node x.place) (λ q. omega (arith, low))

  -- and the fingerprint
  abbrev written : List ℕ
  written = set framed (fingerprints_at g x.node x.place) (printed g (reads im) x)

  stored : Stores (reads framed) (fingerprints_at g x.node x.place) (printed g (reads im) x) (reads written)
  stored = stores_set framed _ _
      (omega (arith, low, node_inside x.node (8 + x.place / 8) framed_view.header (claim_formed v.sound c).inside (omega (arith, low))))

  view : View g o written rs
  view =
      subst (λ w. View g o (set framed (fingerprints_at g x.node x.place) (with_byte w (x.place % 8) (fingerprint (rule_of (reads im)) x.frame))) rs)
      (sym same_prints)
      (view_fingerprint framed_view (reaches_on framed_place.links c.on_path_lem) x.place (fingerprint (rule_of (reads im)) x.frame) low
      (ap (λ w. is_set w x.place) (sym (framed_stores.old (set_at g x.node) (λ q. omega arith))) ∙ c.not_set) (fingerprint_laws.rule_fits (reads im) x.frame))

  place : OnePlace g (reads im) (reads written) x.node x.place
  place = one_after_other framed_place (fingerprint_place x.node x.place low stored (λ j d.
      byte_laws.with_keeps _ (x.place % 8) _ j (fingerprint_laws.rule_fits (reads im) x.frame) d ∙ ap (λ w. byte w j) same_prints))

  within : Within g (reads im) (reads written)
  within = within_on framed_within (fingerprint_within x.node x.place low stored)

  -- its two bits are as before
  same_locate : is_set (reads im (locate_at g x.node)) x.place ≡ is_set (reads written (locate_at g x.node)) x.place
  same_locate = ap (λ w. is_set w x.place)
      (framed_stores.old (locate_at g x.node) (λ q. omega arith) ∙ stored.old (locate_at g x.node) (λ q. omega arith))

  same_set : held g (reads im) x.node x.place ≡ held g (reads written) x.node x.place
  same_set = ap (λ w. is_set w x.place)
      (framed_stores.old (set_at g x.node) (λ q. omega arith) ∙ stored.old (set_at g x.node) (λ q. omega arith))

  -- the claim stays, and what it is filled with is there
  claim_stays : Claims g (reads written) x reel f
  claim_stays = record {
    open_slot = filled_on place.links c.open_slot;
    of_reel = sym (place.reels c.open_slot) ∙ c.of_reel;
    of_frame = c.of_frame;
    word = c.word;
    depth = c.depth;
    on_path_lem = reaches_on place.links c.on_path_lem;
    place = omega (arith, c.place, place.sizes x.node);
    located = sym same_locate ∙ c.located;
    not_set = sym same_set ∙ c.not_set;
    not_held = λ y. c.not_held (within_frames within y);
  }

  filled_there : Written g (reads written) x f
  filled_there = record {
    frame_there = sym (stored.old (frame_at g x.node x.place) (λ q. omega (arith, low))) ∙ framed_stores.new ∙ c.of_frame;
    fingerprint_there =
        ap (λ w. byte w (x.place % 8)) stored.new
        ∙ byte_laws.with_puts _ (x.place % 8) _ (fingerprint_laws.rule_fits (reads im) x.frame)
        ∙ ap₂ fingerprint (same_rule (reads im) (reads written) place.header) c.of_frame;
  }

pub step_fill : {s : State} {t : Table} → Agrees s t → (script h : ℕ) → Fit (arguments (fill script h))
    → (perform (fill script h) s).answer ≡ 0 → Step (fill script h) s t
step_fill {s} {t} a script h fits e =
    let p = fill_passes script h s e in
    let y = claiming (a.heads h p.0) p.1 in
    let c = y.claim in
    let v = shows_view a.shows in
    let x = target_of (head_at s.heads h) in
    step_of (filling (geometry_of (reads s.image)) (reads s.image) x) s.pool (with_head s.heads h (heads.Filled x))
    (retabled t t.reels h (filled (reel_of (table_head t h)) (frame_of (table_head t h)))) a.shows (fill_granted script h s) (fill_table script h t) (
      left_old a.shows (framed_view v c) (within_keeping (framed_within v c)),
      (left_old a.shows (view v c) (within_keeping (within v c)), tt),
    )
    (agrees_new a.shows (view v c) refl refl (filled_in (agrees_by a) p.0 y.about (written v c) v.sound (place v c)
    (λ slot f z. within_frames (within v c)) (both_filled (claim_stays v c) (filled_there v c))
    (same_locate v c) (same_set v c)))
