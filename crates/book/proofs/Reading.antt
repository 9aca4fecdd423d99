-- What a book reads of its image and its heads, where it agrees with a table: what the table reads of itself.
use mathlib.Core.Path.{◌≡◌, refl, sym, ◌∙◌, ap, ap₂}
use mathlib.Core.Bool.{Bool, true, false, cond}
use mathlib.Core.Logic.{◌⊎◌, inl, inr, ◌↔◌}
use mathlib.Core.Option.{some}
use mathlib.Core.List.Memᴰ
use mathlib.Core.List.{List, [], ◌∷◌, map, Memᴰ}
use Prim.Native.Nat.{ℕ, suc, ◌≤◌, ◌<◌}
use native.Mathlib.Omega.{arith}
use native.Mathlib.Decide.{dec_lt}
use lib.ListN.{length, get_or, length-map}
use lib.Dec.{eqb}
use borrow.Author.Tests.{eqb-true, eq-eqb}
use Rattle.tree.specs.Memory.{Memory, reads, is_some}
use Rattle.tree.specs.Test.{holds}
use Rattle.tree.specs.Lists.{Distinct, onto}
use Rattle.tree.specs.declared.layout.Geometry.{Geometry}
use Rattle.tree.specs.Layout.{bad_image, in_range, geometry_of, reel_at, root_at, bad_edition}
use Rattle.tree.specs.Path.{way_of}
use Rattle.tree.specs.Fingerprint.{rule_of}
use Rattle.tree.specs.Slots.{Filled, filled_slots, reels_present, slot_of, empty_slot}
use Rattle.tree.specs.Lookup.{path_from, find}
use Rattle.tree.specs.Subtree.{listing}
use Rattle.tree.specs.Check.{is_sound_tree, is_sound}
use Rattle.tree.proofs.Cases.{test, true_not_false, same_test, seen, nothing, just}
use Rattle.tree.proofs.Distinct.{distinct_by, distinct_up_to}
use Rattle.tree.proofs.Lists.{up_to_members}
use Rattle.tree.proofs.Pigeon.{pigeon, length_up_to}
use Rattle.tree.proofs.Nodes.{size_most}
use Rattle.tree.proofs.Lookup.{sound_tree}
use Rattle.tree.proofs.Laws.{child_laws, node_laws, slot_laws, path_laws, lookup_rule, tree_laws, sound_laws}
use Rattle.book.specs.declared.Target.{Target}
use Rattle.book.specs.declared.HeadState.{HeadState}
use Rattle.book.specs.Heads as book
use Rattle.book.specs.Heads.{head_count, head_at, target_of, names, any_head, busy}
use Rattle.book.specs.State.{State}
use Rattle.book.specs.Table as table
use Rattle.book.specs.Table.{Table, TableHead, Reel, geometry, frames_in, or_empty, is_present, frames_of, is_held, table_head, any_table_head, is_about, is_busy}
use Rattle.book.specs.Agrees.{EachOnce, Shows, Claims, HeadAgrees, both_idle, both_claimed, both_filled, Agrees}
use Rattle.book.specs.Ways.{SlotHas}
use Rattle.book.proofs.Refusals.{denied}
use Rattle.book.proofs.Heads.{any_head_lem, any_table_head_lem}
use Rattle.book.proofs.ReelLists.{has_member}
use Rattle.book.proofs.Showing.{present_slot}

-- ---- lists in which each number occurs once

-- where a number is in a list
position : ℕ → List ℕ → ℕ
position x [] = 0
position x (y ∷ ys) = cond (eqb y x) 0 (suc (position x ys))

at_position : {x : ℕ} {ys : List ℕ} → Memᴰ x ys → (position x ys < length ys) × (get_or ys (position x ys) 0 ≡ x)
unfolding position
at_position {x} (Memᴰ.head {x = y} {xs = ys} q) = rw (eq-eqb y x (sym q)) (omega arith, sym q)
at_position {x} (Memᴰ.tail {x = y} {xs = ys} z) = elim (test (eqb y x)) [
  | inl e ↦ rw e (omega arith, eqb-true y x e)
  | inr e ↦ let t = at_position z in rw e (omega arith, t.1)
]

-- a list that has each of its numbers once, and all of them in another, is no longer than that one
pub no_longer : {xs ys : List ℕ} → Distinct (λ x. x) xs → ((x : ℕ) → Memᴰ x xs → Memᴰ x ys) → length xs ≤ length ys
no_longer {xs} {ys} d h =
    pigeon (λ x. position x ys) (length ys) xs
    (distinct_by (λ x. position x ys) d (λ x y p q e. sym (at_position (h x p)).1 ∙ ap (λ i. get_or ys i 0) e ∙ (at_position (h y q)).1))
    (λ x p. (at_position (h x p)).0)

pub same_length : {xs ys : List ℕ} → EachOnce xs ys → length xs ≡ length ys
same_length e =
    let le = no_longer e.once (λ x. (e.same x).0) in
    let ge = no_longer e.once_too (λ x. (e.same x).1) in
    omega arith

-- ---- the table's reels

-- a reel of the table by its number
pub record ReelOf (t : Table) (reel : ℕ) : Type 0 where
  pub entry : Reel
  pub member : Memᴰ entry t.reels
  pub number : entry.number ≡ reel
  pub frames : frames_of t reel ≡ entry.frames

reel_in : (reel : ℕ) (rs : List Reel) → is_some (frames_in reel rs) ≡ true
    → (r : Reel) × Memᴰ r rs × (r.number ≡ reel) × (or_empty (frames_in reel rs) ≡ r.frames)
unfolding frames_in
reel_in reel [] h = absurd (true_not_false h refl)
reel_in reel (r ∷ rs) h = go (test (eqb r.number reel)) (reel_in reel rs)
  where
    go : (eqb r.number reel ≡ true) ⊎ (eqb r.number reel ≡ false)
        → (is_some (frames_in reel rs) ≡ true → (r : Reel) × Memᴰ r rs × (r.number ≡ reel) × (or_empty (frames_in reel rs) ≡ r.frames))
        → (x : Reel) × Memᴰ x (r ∷ rs) × (x.number ≡ reel) × (or_empty (frames_in reel (r ∷ rs)) ≡ x.frames)
    go (inl e) ih = (r, Memᴰ.head refl, eqb-true r.number reel e, rw e)
    go (inr e) ih = let x = ih (rw e at h) in (x.0, Memᴰ.tail x.1, x.2, rw e x.3)

in_reels : {reel : ℕ} (rs : List Reel) → Memᴰ reel (map (λ r. r.number) rs) → is_some (frames_in reel rs) ≡ true
unfolding frames_in
in_reels [] x = absurd (Memᴰ.not-nil x)
in_reels {reel} (r ∷ rs) (Memᴰ.head q) = rw (eq-eqb r.number reel (sym q))
in_reels {reel} (r ∷ rs) (Memᴰ.tail x) = elim (test (eqb r.number reel)) [ inl e ↦ rw e | inr e ↦ rw e (in_reels rs x) ]

pub table_reel : (t : Table) (reel : ℕ) → is_present t reel ≡ true → ReelOf t reel
unfolding is_present frames_of
table_reel t reel h = let x = reel_in reel t.reels h in record { entry = x.0; member = x.1; number = x.2; frames = x.3 }

pub table_present : (t : Table) (reel : ℕ) → (is_present t reel ≡ true) ↔ Memᴰ reel (map (λ r. r.number) t.reels)
unfolding is_present
table_present t reel = (λ h. let x = reel_in reel t.reels h in Memᴰ.cast (sym x.2) (Memᴰ.map (λ r. r.number) x.1), in_reels t.reels)

-- ---- the image

abbrev pub sizes_of : List ℕ → Geometry
sizes_of image = geometry_of (reads image)

-- no slot is empty exactly if as many are filled as there are
full_slots : (g : Geometry) (m : Memory) → (g.slots ≤ empty_slot g m) ↔ (g.slots ≤ length (filled_slots g m))
full_slots g m = (all, none_empty)
  where
    all : g.slots ≤ empty_slot g m → g.slots ≤ length (filled_slots g m)
    all h =
        let few = no_longer (distinct_up_to g.slots) (λ s x. (slot_laws g m).listed.1 (record {
          inside = (up_to_members g.slots).0 x;
          linked = elim (dec_lt 0 (m (root_at s))) [
            | yes l ↦ l
            | no l ↦ absurd (omega (arith, (up_to_members g.slots).0 x, (slot_laws g m).lowest_empty s ((up_to_members g.slots).0 x) (omega arith)))
          ];
        })) in
        omega (arith, length_up_to g.slots)

    none_empty : g.slots ≤ length (filled_slots g m) → g.slots ≤ empty_slot g m
    none_empty h = elim (dec_lt (empty_slot g m) g.slots) [
      | yes l ↦
          let z = (slot_laws g m).empty l in
          let few = pigeon (λ s. s) g.slots (empty_slot g m ∷ filled_slots g m)
          (onto (λ y x q. let b = (slot_laws g m).listed.0 x in omega (arith, b.linked, ap (λ s. m (root_at s)) q)) (slot_laws g m).listed_once)
          (λ y x. elim (Memᴰ.cases_cons x) [ inl q ↦ omega arith | inr x' ↦ ((slot_laws g m).listed.0 x').inside ]) in
          absurd (omega arith)
      | no l ↦ omega arith
    ]

present_length : (g : Geometry) (m : Memory) → length (reels_present g m) ≡ length (filled_slots g m)
unfolding reels_present
present_length g m = length-map (filled_slots g m) (λ s. m (reel_at s))

module _ {image : List ℕ} {t : Table} (v : Shows image t) where
  -- tests 1 and 2 never hold
  pub image_right : holds (bad_image (length image) (sizes_of image)) ≡ false
  unfolding bad_image in_range
  image_right = denied (bad_image (length image) (sizes_of image)) (v.in_range_lem, v.words)

  pub edition_right : holds (bad_edition (reads image)) ≡ false
  edition_right = denied (bad_edition (reads image)) v.edition

  pub same_geometry : sizes_of image ≡ geometry t
  same_geometry = ap₂ (λ a b. record { slots = a; nodes = b }) v.slots v.nodes

  pub is_sound_lem : is_sound (rule_of (reads image)) (sizes_of image) (reads image) ≡ true
  is_sound_lem = (sound_laws (rule_of (reads image)) (sizes_of image) (reads image)).image.1 v.sound

  -- a reel's slot
  pub one_slot : {reel slot slot' : ℕ} → SlotHas (sizes_of image) (reads image) reel slot → SlotHas (sizes_of image) (reads image) reel slot' → slot ≡ slot'
  one_slot x y = v.sound.reels x.open_slot y.open_slot (x.number ∙ sym y.number)

  pub slot_is : {reel slot : ℕ} → SlotHas (sizes_of image) (reads image) reel slot → slot_of (sizes_of image) (reads image) reel ≡ slot
  slot_is x = ap (slot_of (sizes_of image) (reads image)) (sym x.number) ∙ (sound_laws _ (sizes_of image) (reads image)).own_slot v.sound x.open_slot

  pub has_present : {reel slot : ℕ} → SlotHas (sizes_of image) (reads image) reel slot → is_present t reel ≡ true
  has_present {reel} {slot} x = (table_present t reel).1 ((v.reels.same reel).0 ((present_slot (sizes_of image) (reads image)).1 (slot, x)))

  pub slot_has : (reel : ℕ) → is_present t reel ≡ true → SlotHas (sizes_of image) (reads image) reel (slot_of (sizes_of image) (reads image) reel)
  slot_has reel h =
      let x = (present_slot (sizes_of image) (reads image)).0 ((v.reels.same reel).1 ((table_present t reel).0 h)) in
      rw (slot_is x.1) x.1

  pub slot_below : (reel : ℕ) → (slot_of (sizes_of image) (reads image) reel < (sizes_of image).slots) ↔ (is_present t reel ≡ true)
  slot_below reel = (
    λ h.
        let x = (slot_laws (sizes_of image) (reads image)).reel reel h in
        let y : SlotHas (sizes_of image) (reads image) reel (slot_of (sizes_of image) (reads image) reel) = record { open_slot = x.0; number = x.1 } in
        has_present y,
    λ h. (slot_has reel h).open_slot.inside,
  )

  -- a filled slot's paths and tree are well formed
  pub path_there : {slot : ℕ} → Filled (sizes_of image) (reads image) slot → (f : ℕ) → (ns : List ℕ) × (path_from (sizes_of image) (reads image) slot f ≡ some ns)
  path_there {slot} b f = elim (seen (path_from (sizes_of image) (reads image) slot f)) [
    | nothing q ↦
        let x = (path_laws f b).malformed.0 q in
        absurd (true_not_false (rw child_laws.length_way at (v.sound.well_formed_lem x.there)) x.is)
    | just ns q ↦ (ns, q)
  ]

  pub tree_right : {slot : ℕ} → Filled (sizes_of image) (reads image) slot → is_sound_tree (sizes_of image) (reads image) slot ≡ true
  tree_right b = ((sound_laws (rule_of (reads image)) (sizes_of image) (reads image)).tree b).1 (sound_tree (rule_of (reads image)) _ _ v.sound)

  -- a reel's frames
  pub same_frames : {reel slot : ℕ} → SlotHas (sizes_of image) (reads image) reel slot → EachOnce (listing (sizes_of image) (reads image) slot) (frames_of t reel)
  same_frames {reel} {slot} x =
      let r = table_reel t reel (has_present x) in
      rw r.frames (v.frames slot r.entry x.open_slot r.member (x.number ∙ sym r.number))

  pub same_held : {reel slot : ℕ} → SlotHas (sizes_of image) (reads image) reel slot → (f : ℕ)
      → is_some (find (rule_of (reads image)) (sizes_of image) (reads image) slot f) ≡ is_held t reel f
  unfolding is_held
  same_held {reel} {slot} x f =
      let yes = (lookup_rule (rule_of (reads image)) (sizes_of image) (reads image) v.sound x.open_slot).yes f in
      let listed = (tree_laws x.open_slot).listed f in
      same_test (
        λ h. (has_member f (frames_of t reel)).1 (((same_frames x).same f).0 (listed.1 (yes.0 h))),
        λ h. yes.1 (listed.0 (((same_frames x).same f).1 ((has_member f (frames_of t reel)).0 h))),
      )

  -- every slot is filled exactly if the table has as many reels
  pub all_filled : ((sizes_of image).slots ≤ empty_slot (sizes_of image) (reads image)) ↔ (t.slots ≤ length t.reels)
  all_filled =
      let full = full_slots (sizes_of image) (reads image) in
      let count : length (filled_slots (sizes_of image) (reads image)) ≡ length t.reels =
      sym (present_length (sizes_of image) (reads image)) ∙ same_length v.reels ∙ length-map t.reels (λ r. r.number) in
      (λ h. omega (arith, full.0 h, v.slots), λ h. full.1 (omega (arith, v.slots)))

-- ---- the heads

module _ {g : Geometry} {m : Memory} where
  pub same_idle : {x : HeadState} {y : TableHead} → HeadAgrees g m x y → book.is_idle x ≡ table.is_idle y
  same_idle both_idle = refl
  same_idle (both_claimed c) = refl
  same_idle (both_filled c w) = refl

  pub same_claimed : {x : HeadState} {y : TableHead} → HeadAgrees g m x y → book.is_claimed x ≡ table.is_claimed y
  same_claimed both_idle = refl
  same_claimed (both_claimed c) = refl
  same_claimed (both_filled c w) = refl

  pub same_filled : {x : HeadState} {y : TableHead} → HeadAgrees g m x y → book.is_filled x ≡ table.is_filled y
  same_filled both_idle = refl
  same_filled (both_claimed c) = refl
  same_filled (both_filled c w) = refl

  -- a head that is not idle has a claim
  pub claim_of : {x : HeadState} {y : TableHead} → HeadAgrees g m x y → book.is_idle x ≡ false → Claims g m (target_of x) (table.reel_of y) (table.frame_of y)
  claim_of both_idle h = absurd (true_not_false refl h)
  claim_of (both_claimed c) h = c
  claim_of (both_filled c w) h = c

module _ {image : List ℕ} {t : Table} (v : Shows image t) {x : Target} {r f : ℕ} (c : Claims (sizes_of image) (reads image) x r f) where
  -- a claim's node is inside the pool, its place inside a node
  pub claim_inside : (x.node < (sizes_of image).nodes) × (x.place < 64)
  claim_inside =
      let w = ((node_laws (sizes_of image) (reads image)).facts (length (way_of c.depth f)) x.node).0 (v.sound.well_formed_lem c.on_path_lem) in
      (w.inside, omega (arith, c.place, size_most w))

  pub claim_slot : SlotHas (sizes_of image) (reads image) r x.slot
  claim_slot = record { open_slot = c.open_slot; number = c.of_reel }

  claim_names : {reel slot : ℕ} → SlotHas (sizes_of image) (reads image) reel slot → eqb x.slot slot ≡ eqb r reel
  claim_names {reel} {slot} h = same_test (
    λ e. eq-eqb r reel (sym c.of_reel ∙ ap (λ i. reads image (reel_at i)) (eqb-true x.slot slot e) ∙ h.number),
    λ e. eq-eqb x.slot slot (one_slot v claim_slot (rw (sym (eqb-true r reel e)) at h)),
  )

-- a head names a reel's slot exactly if the table's is about the reel
pub same_names : {image : List ℕ} {t : Table} {reel slot : ℕ} {x : HeadState} {y : TableHead} → Shows image t → SlotHas (sizes_of image) (reads image) reel slot
    → HeadAgrees (sizes_of image) (reads image) x y → names slot x ≡ is_about reel y
same_names v h both_idle = refl
same_names v h (both_claimed c) = claim_names v c h
same_names v h (both_filled c w) = claim_names v c h

-- a test of the book's heads and one of the table's that agree head by head agree
pub same_any : {s : State} {t : Table} → Agrees s t → (passes : HeadState → Bool) (told : TableHead → Bool)
    → ((h : ℕ) → h < head_count → passes (head_at s.heads h) ≡ told (table_head t h)) → any_head passes s.heads ≡ any_table_head told t
same_any {s} {t} a passes told e =
    let b = any_head_lem passes s.heads in
    let c = any_table_head_lem told t in
    same_test (
      λ h. let k = b.0 h in c.1 (k.0, rw a.table_heads k.1, sym (e k.0 k.1) ∙ k.2),
      λ h. let k = c.0 h in let l = rw a.table_heads at k.1 in b.1 (k.0, l, e k.0 l ∙ k.2),
    )

pub same_busy : {s : State} {t : Table} {reel slot : ℕ} → Agrees s t → SlotHas (sizes_of s.image) (reads s.image) reel slot
    → busy s.heads slot ≡ is_busy t reel
same_busy {reel = reel} {slot = slot} a x = same_any a (names slot) (is_about reel) (λ h l. same_names a.shows x (a.heads h l))
