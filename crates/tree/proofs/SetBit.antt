-- A set bit put on or off: the same is reached, and one place is held more or less.
use mathlib.Core.Path.{◌≡◌, refl, sym, ◌∙◌, ap}
use mathlib.Core.Bool.{true}
use mathlib.Core.Logic.{◌⊎◌, inl, inr}
use mathlib.Core.List.{List}
use Prim.Native.Nat.{ℕ, ◌%◌, ◌<◌}
use native.Mathlib.Omega.{arith}
use native.Mathlib.Decide.{ℕ_discrete}
use lib.ListN.{length}
use Rattle.memory.specs.Words.{Memory, is_set, byte}
use Rattle.tree.specs.declared.layout.Geometry.{Geometry}
use Rattle.tree.specs.Layout.{reel_at, root_at, next_at, locate_at, set_at, level_at, size_at, frame_at, fingerprints_at}
use Rattle.tree.specs.Fingerprint.{Rule}
use Rattle.tree.specs.Node.{well_formed, held, frame, stored_fingerprint}
use Rattle.tree.specs.Slots.{Filled}
use Rattle.tree.specs.Reach.{Reaches, Holds}
use Rattle.tree.specs.Sound.{Sound}
use Rattle.tree.specs.Same.{SameLinks, Stores}
use Rattle.tree.specs.Changes.{OtherBits, Commits, HeldNow, Committed, Removes, Removed}
use Rattle.tree.specs.Laws.{WellFormed}
use Rattle.tree.proofs.Cases.{true_not_false}
use Rattle.tree.proofs.Nodes.{well_formed_facts}
use Rattle.tree.proofs.Same.{filled_back, reaches_on, reaches_back, sound_part}
use Rattle.tree.proofs.Words.{same_formed, beside_node, beside_slots}

-- one place of one node, or another
this_place : (n p k q : ℕ) → ((k ≡ n) × (q ≡ p)) ⊎ ((k ≡ n) × (q ≡ p) → ⊥)
this_place n p k q = elim (ℕ_discrete k n) [ yes e ↦ elim (ℕ_discrete q p) [ yes z ↦ inl (e, z) | no z ↦ inr (λ a. z a.1) ] | no e ↦ inr (λ a. e a.0) ]

module _ {g : Geometry} {m m' : Memory} {n p v : ℕ} (b : OtherBits g m n p v) (t : Stores m (set_at g n) v m') where
  links : SameLinks g m m'
  links = record {
    roots = λ s h. beside_slots g t (root_at s) n (omega arith) (omega arith);
    next = λ {n = k} x. t.old (next_at g k) (λ q. omega arith);
  }

  same_reel : {s : ℕ} → Filled g m s → m (reel_at s) ≡ m' (reel_at s)
  same_reel {s} c = beside_slots g t (reel_at s) n (omega (arith, c.inside)) (omega arith)

  same_frame : (k q : ℕ) → q < 64 → frame g m k q ≡ frame g m' k q
  same_frame k q h = t.old (frame_at g k q) (λ e. omega arith)

  same_fingerprint : (k q : ℕ) → q < 64 → stored_fingerprint g m k q ≡ stored_fingerprint g m' k q
  same_fingerprint k q h = ap (λ w. byte w (q % 8)) (t.old (fingerprints_at g k q) (λ e. omega arith))

  -- every other place is held as before
  same_held : (k q : ℕ) → ((k ≡ n) × (q ≡ p) → ⊥) → held g m k q ≡ held g m' k q
  same_held k q h = elim (ℕ_discrete k n) [
    | yes e ↦ rw (e, t.new) (b.others q (λ z. h (e, z)))
    | no e ↦ ap (λ w. is_set w q) (t.old (set_at g k) (λ z. e (omega arith)))
  ]

  node_formed : {e : ℕ} → WellFormed g m e n → WellFormed g m' e n
  node_formed a =
      let size = t.old (size_at g n) (λ q. omega arith) in
      record {
        inside = a.inside;
        level = sym (t.old (level_at g n) (λ q. omega arith)) ∙ a.level;
        size = rw (← size) a.size;
        locate = rw (← size, ← t.old (locate_at g n) (λ q. omega arith)) a.locate;
        set = rw (← size, t.new) b.fits;
        next = rw (← size, ← t.old (next_at g n) (λ q. omega arith)) a.next;
      }

  formed : {r : Rule} {s : ℕ} {w : List ℕ} {k : ℕ} → Sound r g m → Reaches g m s w k → well_formed g m' (length w) k ≡ true
  formed {w = w} {k = k} d x = elim (ℕ_discrete k n) [
    | yes q ↦ rw q ((well_formed_facts g m' (length w) n).1 (node_formed ((well_formed_facts g m (length w) n).0 (rw q at (d.well_formed_lem x)))))
    | no q ↦ sym (same_formed (beside_node g t n k 2 q (omega arith) refl) (length w)) ∙ d.well_formed_lem x
  ]

  holds_back : {s : ℕ} {w : List ℕ} {k q f : ℕ} → ((k ≡ n) × (q ≡ p) → ⊥) → Holds g m' s w k q f → Holds g m s w k q f
  holds_back {k = k} {q = q} h x =
      record { there = reaches_back links x.there; place = x.place; set = same_held k q h ∙ x.set; is = same_frame k q x.place ∙ x.is }

  holds_on : {s : ℕ} {w : List ℕ} {k q f : ℕ} → ((k ≡ n) × (q ≡ p) → ⊥) → Holds g m s w k q f → Holds g m' s w k q f
  holds_on {k = k} {q = q} h x =
      record { there = reaches_on links x.there; place = x.place; set = sym (same_held k q h) ∙ x.set; is = sym (same_frame k q x.place) ∙ x.is }

-- ---- off

module _ {r : Rule} {g : Geometry} {m m' : Memory} {s : ℕ} {w : List ℕ} {n p v : ℕ}
    (d : Sound r g m) (o : Removes g m s w n p v) (t : Stores m (set_at g n) v m') where
  same_links : SameLinks g m m'
  same_links = links o.bits t

  not_here : {s' : ℕ} {w' : List ℕ} {k q f : ℕ} → Holds g m' s' w' k q f → (k ≡ n) × (q ≡ p) → ⊥
  not_here x e = true_not_false (rw (e.0, e.1, t.new) at x.set) o.off

  back : {s' : ℕ} {w' : List ℕ} {k q f : ℕ} → Holds g m' s' w' k q f → Holds g m s' w' k q f
  back x = holds_back o.bits t (not_here x) x

  pub removed : Removed r g m m' n p
  removed = record {
    reaches = (reaches_back same_links, reaches_on same_links);
    holds = (λ x. (back x, not_here x), λ x. holds_on o.bits t x.1 x.0);
    sound = sound_part d (record {
      filled = filled_back same_links;
      reels = λ c. same_reel o.bits t (filled_back same_links c);
      reaches = reaches_back same_links;
      formed = λ x. formed o.bits t d (reaches_back same_links x);
      holds = back;
      fingerprints = λ {n = k} {p = q} x e. sym (same_fingerprint o.bits t k q x.place) ∙ e;
    });
  }

-- ---- on

module _ {r : Rule} {g : Geometry} {m m' : Memory} {s : ℕ} {w : List ℕ} {n p f v : ℕ}
    (d : Sound r g m) (o : Commits r g m s w n p f v) (t : Stores m (set_at g n) v m') where
  the_links : SameLinks g m m'
  the_links = links o.bits t

  -- what is held is as before, or this
  was_held : {s' : ℕ} {w' : List ℕ} {k q f' : ℕ} → Holds g m' s' w' k q f' → Holds g m s' w' k q f' ⊎ HeldNow s w n p f s' w' k q f'
  was_held {k = k} {q = q} x = elim (this_place n p k q) [
    | inl e ↦
        let a = d.once (rw e.0 at (reaches_back the_links x.there)) o.there in
        let c : frame g m n p ≡ frame g m' n p = same_frame o.bits t n p o.place in
        inr (record { slot = a.0; way = a.1; node = e.0; place = e.1; is = sym (rw (e.0, e.1) at x.is) ∙ sym c ∙ o.is })
    | inr e ↦ inl (holds_back o.bits t e x)
  ]

  now_held : {s' : ℕ} {w' : List ℕ} {k q f' : ℕ} → Holds g m s' w' k q f' ⊎ HeldNow s w n p f s' w' k q f' → Holds g m' s' w' k q f'
  now_held {w' = w'} {k = k} {q = q} (inl x) = holds_on o.bits t (λ e.
      let a = d.once (rw e.0 at x.there) o.there in
      let c = sym (rw (e.0, e.1) at x.is) ∙ o.is in
      o.new_frame_lem (record { way = w'; node = k; place = q; holds = rw (a.0, c) at x })) x
  now_held (inr e) = rw (e.slot, e.way, e.node, e.place, e.is) (record {
    there = reaches_on the_links o.there;
    place = o.place;
    set = rw t.new o.on;
    is = sym (same_frame o.bits t n p o.place) ∙ o.is;
  })

  -- a frame held before is not this one's
  not_this : {s' : ℕ} {w' w'' : List ℕ} {k k' q q' f' : ℕ} → Holds g m s' w' k q f' → HeldNow s w n p f s' w'' k' q' f' → ⊥
  not_this {w' = w'} {k = k} {q = q} x e = o.new_frame_lem (record { way = w'; node = k; place = q; holds = rw (e.slot, e.is) at x })

  frame_once : {s' : ℕ} {w' w'' : List ℕ} {k k' q q' f' : ℕ} → Holds g m s' w' k q f' ⊎ HeldNow s w n p f s' w' k q f'
      → Holds g m s' w'' k' q' f' ⊎ HeldNow s w n p f s' w'' k' q' f' → (w' ≡ w'') × (q ≡ q')
  frame_once (inl x) (inl y) = d.frame_once x y
  frame_once (inl x) (inr y) = absurd (not_this x y)
  frame_once (inr x) (inl y) = absurd (not_this y x)
  frame_once (inr x) (inr y) = (x.way ∙ sym y.way, x.place ∙ sym y.place)

  pub committed : Committed r g m m' s w n p f
  committed = record {
    reaches = (reaches_back the_links, reaches_on the_links);
    holds = (was_held, now_held);
    sound = record {
      well_formed_lem = λ x. formed o.bits t d (reaches_back the_links x);
      once = λ x y. d.once (reaches_back the_links x) (reaches_back the_links y);
      reels = λ c c' q.
          let a = filled_back the_links c in
          let a' = filled_back the_links c' in
          d.reels a a' (same_reel o.bits t a ∙ q ∙ sym (same_reel o.bits t a'));
      on_path_lem = λ {w = w'} {f = f'} x. elim (was_held x) [ inl y ↦ d.on_path_lem y | inr y ↦ rw (y.way, y.is) o.on_path_lem ];
      frame_once = λ x y. frame_once (was_held x) (was_held y);
      fingerprints = λ {n = k} {p = q} x. elim (was_held x) [
        | inl y ↦ sym (same_fingerprint o.bits t k q x.place) ∙ d.fingerprints y
        | inr y ↦ rw (y.node, y.place, y.is) (sym (same_fingerprint o.bits t n p o.place) ∙ o.fingerprinted)
      ];
    };
  }
