-- The reels that a memory shows, through the changes of what is reached or held.
use mathlib.Core.Path.{◌≡◌, refl, sym, ◌∙◌, ap, subst}
use mathlib.Core.Bool.{not}
use mathlib.Core.Logic.{inl, inr, ◌↔◌, ◌≢◌}
use mathlib.Core.List.Memᴰ
use mathlib.Core.List.{List, [], ◌∷◌, Memᴰ}
use Prim.Native.Nat.{ℕ, suc, ◌+◌, ◌*◌, ◌≤◌, ◌<◌}
use native.Mathlib.Omega.{arith}
use native.Mathlib.Decide.{ℕ_discrete}
use lib.Dec.{eqb}
use borrow.Author.Tests.{eq-eqb, ne_eqb}
use Rattle.tree.specs.Memory.{Memory}
use Rattle.tree.specs.Lists.{keep}
use Rattle.tree.specs.declared.layout.Geometry.{Geometry}
use Rattle.tree.specs.Layout.{reel_at, root_at, node_at}
use Rattle.tree.specs.Fingerprint.{Rule}
use Rattle.tree.specs.Slots.{Filled}
use Rattle.tree.specs.Reach.{Holds, FrameOf}
use Rattle.tree.specs.Sound.{Sound}
use Rattle.tree.specs.Same.{SameLinks, Stores}
use Rattle.tree.specs.Changes.{Opens, NewRoot, Grown, Retired}
use Rattle.tree.proofs.Reach.{slot_filled}
use Rattle.tree.proofs.Same.{reaches_on, reaches_back}
use Rattle.tree.proofs.Laws.{change_laws}
use Rattle.tree.proofs.Words.{beside_slots}
use Rattle.book.specs.Table.{Reel, change_reel, change_frames}
use Rattle.book.specs.Agrees.{Reached}
use Rattle.book.specs.Ways.{SlotHas}
use Rattle.book.proofs.View.{SameReels}
use Rattle.book.proofs.ReelLists.{others_members, was_reel, is_reel}

-- ---- slots and frames, from what is held

-- the same slots are filled, with the same reels
pub record SameSlots (g : Geometry) (m m' : Memory) : Type 0 where
  pub filled : {s : ℕ} → Filled g m s ↔ Filled g m' s
  pub reels : {s : ℕ} → Filled g m s → m (reel_at s) ≡ m' (reel_at s)

-- what is held in the one is held in the other
pub frames_to : {g : Geometry} {m m' : Memory} {s f : ℕ} → ((w : List ℕ) (n p : ℕ) → Holds g m s w n p f → Holds g m' s w n p f)
    → FrameOf g m s f → FrameOf g m' s f
frames_to h x = record { way = x.way; node = x.node; place = x.place; holds = h x.way x.node x.place x.holds }

-- the same nodes are reached by the same links
pub same_reached : {g : Geometry} {m m' : Memory} {n : ℕ} → SameLinks g m m' → Reached g m n ↔ Reached g m' n
same_reached a = (
  λ r. record { slot = r.slot; way = r.way; there = reaches_on a r.there },
  λ r. record { slot = r.slot; way = r.way; there = reaches_back a r.there },
)

-- an empty slot has no frame
empty_slot : {g : Geometry} {m : Memory} {s f : ℕ} → m (root_at s) ≡ 0 → FrameOf g m s f → ⊥
empty_slot e x = let b = slot_filled x.holds.there in omega (arith, b.linked)

module _ {g : Geometry} {m m' : Memory} (a : SameSlots g m m') where
  slot_has : {reel s : ℕ} → SlotHas g m reel s ↔ SlotHas g m' reel s
  slot_has = (
    λ x. record { open_slot = a.filled.0 x.open_slot; number = sym (a.reels x.open_slot) ∙ x.number },
    λ x. let b = a.filled.1 x.open_slot in record { open_slot = b; number = a.reels b ∙ x.number },
  )

  -- the same frames
  pub reels_same : {rs : List Reel} → ((s f : ℕ) → FrameOf g m s f ↔ FrameOf g m' s f) → SameReels g m rs → SameReels g m' rs
  reels_same h v = record {
    present = λ reel. (λ x. (v.present reel).0 (x.0, slot_has.1 x.1), λ x. let t = (v.present reel).1 x in (t.0, slot_has.0 t.1));
    frames = λ {s} b x q f.
        let b' = a.filled.1 b in
        let t = v.frames b' x (a.reels b' ∙ q) f in
        (λ y. t.0 ((h s f).1 y), λ y. (h s f).0 (t.1 y));
  }

  -- the frames of one slot's reel changed
  pub reels_changed : {r : Rule} {rs : List Reel} {s : ℕ} (change : List ℕ → List ℕ) → Sound r g m → Filled g m s
      → ((s' f : ℕ) → s' ≢ s → FrameOf g m s' f ↔ FrameOf g m' s' f)
      → ((fs : List ℕ) (f : ℕ) → (FrameOf g m s f ↔ Memᴰ f fs) → FrameOf g m' s f ↔ Memᴰ f (change fs))
      → SameReels g m rs → SameReels g m' (change_frames (m (reel_at s)) change rs)
  reels_changed {rs = rs} {s = s} change d c h k v = record {
    present = λ reel. (
      λ x. let t = (v.present reel).0 (x.0, slot_has.1 x.1) in (change_reel (m (reel_at s)) change t.0, is_reel (m (reel_at s)) change t.1, t.2),
      λ x.
          let r = was_reel (m (reel_at s)) change rs x.1 in
          let t = (v.present reel).1 (r.0, r.1, ap (λ r. r.number) r.2 ∙ x.2) in
          (t.0, slot_has.0 t.1),
    );
    frames = λ {s = s'} b x q f. let t = was_reel (m (reel_at s)) change rs x in let b' = a.filled.1 b in
        subst (λ r. FrameOf g m' s' f ↔ Memᴰ f r.frames) t.2 (frames_of s' t.0 f b' t.1 (a.reels b' ∙ q ∙ sym (ap (λ r. r.number) t.2)));
  }
    where
      frames_of : (s' : ℕ) (r' : Reel) (f : ℕ) → Filled g m s' → Memᴰ r' rs → m (reel_at s') ≡ r'.number
          → FrameOf g m' s' f ↔ Memᴰ f (change_reel (m (reel_at s)) change r').frames
      frames_of s' r' f b x q = elim (ℕ_discrete s' s) [
        | yes e ↦ rw (eq-eqb r'.number (m (reel_at s)) (sym q ∙ ap (λ x. m (reel_at x)) e)) (rw e (k r'.frames f (rw e at (v.frames b x q f))))
        | no e ↦
            let t = v.frames b x q f in let u = h s' f e in
            rw (ne_eqb r'.number (m (reel_at s)) (λ z. e (d.reels b c (q ∙ z)))) (λ y. t.0 (u.1 y), λ y. u.0 (t.1 y))
      ]

-- a store to a node leaves the slots
pub node_slots : {g : Geometry} {m m' : Memory} {i v : ℕ} (n : ℕ) → node_at g n ≤ i → Stores m i v m' → SameSlots g m m'
node_slots {g} {m} {m'} n l t = record {
  filled = λ {s}. (
    λ b. record { inside = b.inside; linked = omega (arith, b.linked, same (root_at s) (omega (arith, b.inside))) },
    λ b. record { inside = b.inside; linked = omega (arith, b.linked, same (root_at s) (omega (arith, b.inside))) },
  );
  reels = λ {s} b. same (reel_at s) (omega (arith, b.inside));
}
  where
    same : (j : ℕ) → j < 64 + 2 * g.slots → m j ≡ m' j
    same j h = beside_slots g t j n h l

-- a store to a root leaves all reel numbers and the other slots
module _ {m m' : Memory} (s : ℕ) {v : ℕ} (t : Stores m (root_at s) v m') where
  root_reel : (s' : ℕ) → m (reel_at s') ≡ m' (reel_at s')
  root_reel s' = t.old (reel_at s') (λ q. omega arith)

  other_on : {g : Geometry} {s' : ℕ} → s' ≢ s → Filled g m s' → Filled g m' s'
  other_on {s' = s'} d b = let e = t.old (root_at s') (λ q. d (omega arith)) in record { inside = b.inside; linked = omega (arith, b.linked) }

  other_back : {g : Geometry} {s' : ℕ} → s' ≢ s → Filled g m' s' → Filled g m s'
  other_back {s' = s'} d b = let e = t.old (root_at s') (λ q. d (omega arith)) in record { inside = b.inside; linked = omega (arith, b.linked) }

-- no reel of the list has the number of the slot to be opened
pub new_number : {g : Geometry} {m : Memory} {rs : List Reel} {s n : ℕ} → SameReels g m rs → Opens g m s n → (r : Reel) → Memᴰ r rs
    → r.number ≢ m (reel_at s)
new_number v a r x q = let t = (v.present r.number).1 (r, x, refl) in a.new_reel t.1.open_slot (t.1.number ∙ q)

module _ {r : Rule} {g : Geometry} {m m' : Memory} {rs : List Reel} (d : Sound r g m) (v : SameReels g m rs) where
  pub reels_opened : {s n : ℕ} → Opens g m s n → Stores m (root_at s) (suc n) m' → SameReels g m' (record { number = m (reel_at s); frames = [] } ∷ rs)
  reels_opened {s} {n} a t = record {
    present = λ reel. (
      λ x. elim (ℕ_discrete x.0 s) [
        | yes e ↦ (_, Memᴰ.head refl, root_reel s t s ∙ sym (ap (λ x. m' (reel_at x)) e) ∙ x.1.number)
        | no e ↦
            let y = (v.present reel).0 (x.0, record { open_slot = other_back s t e x.1.open_slot; number = root_reel s t x.0 ∙ x.1.number }) in
            (y.0, Memᴰ.tail y.1, y.2)
      ],
      λ x. elim (Memᴰ.cases_cons x.1) [
        | inl e ↦ (s, record { open_slot = filled_now; number = sym (root_reel s t s) ∙ sym (ap (λ r. r.number) e) ∙ x.2 })
        | inr z ↦
            let y = (v.present reel).1 (x.0, z, x.2) in
            let ne : y.0 ≢ s = λ e. new_number v a x.0 z (x.2 ∙ sym y.1.number ∙ ap (λ x. m (reel_at x)) e) in
            (y.0, record { open_slot = other_on s t ne y.1.open_slot; number = sym (root_reel s t y.0) ∙ y.1.number })
      ],
    );
    frames = λ {s = s'} b x q f. elim (Memᴰ.cases_cons x) [
      | inl e ↦
          let same : s' ≡ s = this_slot s' b (root_reel s t s' ∙ q ∙ ap (λ r. r.number) e) in
          rw e (λ y. absurd (empty_slot (rw same a.empty) (back s' f y)), λ y. absurd (Memᴰ.not-nil y))
      | inr z ↦
          let ne : s' ≢ s = λ e. new_number v a _ z (sym q ∙ sym (root_reel s t s') ∙ ap (λ x. m (reel_at x)) e) in
          let u = v.frames (other_back s t ne b) z (root_reel s t s' ∙ q) f in
          (λ y. u.0 (back s' f y), λ y. frames_to (λ w n p h. c.holds.1 h) (u.1 y))
    ];
  }
    where
      c : Grown r g m m' (NewRoot s n)
      c = (change_laws m' d).opened a t

      back : (s' f : ℕ) → FrameOf g m' s' f → FrameOf g m s' f
      back s' f = frames_to (λ w n p h. c.holds.0 h)

      filled_now : Filled g m' s
      filled_now = record { inside = a.inside; linked = omega (arith, t.new) }

      this_slot : (s' : ℕ) → Filled g m' s' → m (reel_at s') ≡ m (reel_at s) → s' ≡ s
      this_slot s' b q = elim (ℕ_discrete s' s) [ yes e ↦ e | no e ↦ absurd (a.new_reel (other_back s t e b) q) ]

  pub reels_retired : {s : ℕ} → Filled g m s → Stores m (root_at s) 0 m' → SameReels g m' (keep (λ r. not (eqb r.number (m (reel_at s)))) rs)
  reels_retired {s} a t = record {
    present = λ reel. (
      λ x.
          let b = x.1.open_slot in let o = other x.0 b in
          let y = (v.present reel).0 (x.0, record { open_slot = other_back s t o b; number = root_reel s t x.0 ∙ x.1.number }) in
          let ne : y.0.number ≢ m (reel_at s) = λ q. o (d.reels (other_back s t o b) a (root_reel s t x.0 ∙ x.1.number ∙ sym y.2 ∙ q)) in
          (y.0, (others_members (m (reel_at s)) rs).1 (y.1, ne), y.2),
      λ x.
          let z = (others_members (m (reel_at s)) rs).0 x.1 in
          let y = (v.present reel).1 (x.0, z.0, x.2) in
          let o : y.0 ≢ s = λ e. z.1 (x.2 ∙ sym y.1.number ∙ ap (λ x. m (reel_at x)) e) in
          (y.0, record { open_slot = other_on s t o y.1.open_slot; number = sym (root_reel s t y.0) ∙ y.1.number }),
    );
    frames = λ {s = s'} b x q f.
        let o = other s' b in
        let u = v.frames (other_back s t o b) ((others_members (m (reel_at s)) rs).0 x).0 (root_reel s t s' ∙ q) f in
        (λ y. u.0 (frames_to (λ w n p h. (c.holds.0 h).0) y), λ y. frames_to (λ w n p h. c.holds.1 (h, o)) (u.1 y));
  }
    where
      c : Retired r g m m' s
      c = (change_laws m' d).retired a t

      other : (s' : ℕ) → Filled g m' s' → s' ≢ s
      other s' b e = omega (arith, b.linked, t.new, ap (λ x. m' (root_at x)) e)
