-- Tests of a reel's tree, on any image, each with what it means by ways.
use mathlib.Core.Path.{◌≡◌, refl, sym, ◌∙◌, ap, subst}
use mathlib.Core.Bool.{true, not}
use mathlib.Core.Logic.{◌⊎◌, inl, inr, ◌↔◌, ◌≢◌}
use mathlib.Core.List.Memᴰ
use mathlib.Core.List.{List, [], ◌∷◌, map, flat_map, map-map, List-discrete}
use mathlib.Core.List.{Memᴰ}
use Prim.Native.Nat.{ℕ, ◌<◌}
use native.Mathlib.Omega.{arith}
use native.Mathlib.Decide.{ℕ_discrete}
use lib.ListN.{length, length-map}
use borrow.Author.Tests.{not-true}
use Rattle.tree.specs.Memory.{is_some}
use Rattle.tree.specs.Test.{lt, is, holds}
use Rattle.tree.specs.Lists.{Distinct}
use Rattle.tree.specs.Layout.{frame_at}
use Rattle.tree.specs.Fingerprint.{rule_of}
use Rattle.tree.specs.Node.{well_formed, held, frame}
use Rattle.tree.specs.Slots.{Filled}
use Rattle.tree.specs.Reach.{Reaches, Holds}
use Rattle.tree.specs.Sound.{SoundTree}
use Rattle.tree.specs.declared.path.Spot.{Spot}
use Rattle.tree.specs.Lookup.{spot}
use Rattle.tree.specs.Subtree.{Visit, visit, tree, held_places, frames_in, listing}
use Rattle.tree.specs.Check.{is_sound_tree}
use Rattle.tree.specs.Groups.{first_group, NoGroup}
use Rattle.tree.proofs.Cases.{test, true_not_false, not-false, seen, nothing, just}
use Rattle.tree.proofs.Lists.{within, together, map_flat_map, flat_map_cong}
use Rattle.tree.proofs.Distinct.{distinct_by, distinct_keep, distinct_made, distinct_map, distinct_parts, distinct_up_to}
use Rattle.tree.proofs.Subtree.{held_places_lem}
use Rattle.tree.proofs.Laws.{tree_laws, group_laws, sound_laws}
use Rattle.book.specs.State.{State, memory, shape}
use Rattle.book.specs.Due.{BadTree, malformed, twice, MoreFrames}
use Rattle.book.proofs.Refusals.{decided}
use Rattle.book.proofs.Reading.{no_longer}

-- all elements of a list are so, or one is otherwise
all_or_one : {A : Type 0} {P Q : A → Type 0} → ((a : A) → P a ⊎ Q a) → (xs : List A) → ((a : A) → Memᴰ a xs → P a) ⊎ ((a : A) × Memᴰ a xs × Q a)
all_or_one d [] = inl (λ a x. absurd (Memᴰ.not-nil x))
all_or_one {P = P} {Q = Q} d (x ∷ xs) = elim (d x) [
  | inr q ↦ inr (x, Memᴰ.head refl, q)
  | inl p ↦ elim (all_or_one {P = P} {Q = Q} d xs) [
    | inr t ↦ inr (t.0, Memᴰ.tail t.1, t.2)
    | inl all ↦ inl (λ a y. elim (Memᴰ.cases_cons y) [ inl e ↦ subst P (sym e) p | inr z ↦ all a z ])
  ]
]

module _ (s : State) {slot : ℕ} (open_slot : Filled (shape s) (memory s) slot) where
  -- two visits are of two nodes or go one way, or they come to one node by two ways
  abbrev OneWay : Visit → Visit → Type 0
  OneWay v v' = v.node ≡ v'.node → v.way ≡ v'.way

  abbrev TwoWays : Visit → Visit → Type 0
  TwoWays v v' = (v.node ≡ v'.node) × (v.way ≢ v'.way)

  ways : (v v' : Visit) → OneWay v v' ⊎ TwoWays v v'
  ways v v' = elim (ℕ_discrete v.node v'.node) [
    | no d ↦ inl (λ e. absurd (d e))
    | yes e ↦ elim (List-discrete ℕ_discrete v.way v'.way) [ yes q ↦ inl (λ x. q) | no d ↦ inr (e, d) ]
  ]

  abbrev visits : List Visit
  visits = tree (shape s) (memory s) slot

  reached : (v : Visit) → Memᴰ v visits → Reaches (shape s) (memory s) slot v.way v.node
  reached v x = ((tree_laws open_slot).visited v.way v.node).0 x

  listed : {w : List ℕ} {n : ℕ} → Reaches (shape s) (memory s) slot w n → Memᴰ (visit w n) visits
  listed {w} {n} r = ((tree_laws open_slot).visited w n).1 r

  sound_or_bad : SoundTree (shape s) (memory s) slot ⊎ BadTree s slot
  sound_or_bad = elim (all_or_one (λ v. test (well_formed (shape s) (memory s) (length v.way) v.node)) visits) [
    | inr t ↦ inr (malformed (reached t.0 t.1) t.2)
    | inl formed ↦ elim (all_or_one (λ v. all_or_one (ways v) visits) visits) [
      | inr t ↦
          let u = t.2 in
          inr (twice (reached t.0 t.1) (subst (Reaches (shape s) (memory s) slot u.0.way) (sym u.2.0) (reached u.0 u.1)) u.2.1)
      | inl once ↦ inl (record {
        well_formed_lem = λ {w} {n} r. formed (visit w n) (listed r);
        once = λ {w} {w'} {n} r r'. once (visit w n) (listed r) (visit w' n) (listed r') refl;
      })
    ]
  ]

  not_both : SoundTree (shape s) (memory s) slot → BadTree s slot → ⊥
  not_both a (malformed r e) = true_not_false (a.well_formed_lem r) e
  not_both a (twice r r' d) = d (a.once r r')

  -- 4 in List, Retire and Tidy
  pub tree_test : (holds (is (not (is_sound_tree (shape s) (memory s) slot))) ≡ true) ↔ BadTree s slot
  tree_test =
      let l = (sound_laws (rule_of (memory s)) (shape s) (memory s)).tree open_slot in
      elim sound_or_bad [
        | inl a ↦ (λ e. absurd (true_not_false (l.1 a) (not-true (is_sound_tree (shape s) (memory s) slot) e)), λ b. absurd (not_both a b))
        | inr b ↦ (λ e. b, λ x. ap not (not-false (λ e. not_both (l.0 e) b)))
      ]

  -- past it the tree is sound
  pub tree_sound : (BadTree s slot → ⊥) → SoundTree (shape s) (memory s) slot
  tree_sound past = elim sound_or_bad [ inl a ↦ a | inr b ↦ absurd (past b) ]

  -- 18
  pub group_test : (not (is_some (first_group (shape s) (memory s) slot)) ≡ true) ↔ NoGroup (shape s) (memory s) slot
  group_test = let n = (group_laws open_slot).nowhere in elim (seen (first_group (shape s) (memory s) slot)) [
    | nothing q ↦ (λ e. n.0 q, λ x. ap (λ o. not (is_some o)) q)
    | just v q ↦ (λ e. absurd (true_not_false e (ap (λ o. not (is_some o)) q)), λ x. ap (λ o. not (is_some o)) (n.1 x))
  ]

  -- ---- a reel's frames, by their places

  abbrev word_of : Spot → ℕ
  word_of t = frame_at (shape s) t.node t.place

  abbrev frame_in : Spot → ℕ
  frame_in t = frame (shape s) (memory s) t.node t.place

  places_in : Visit → List Spot
  places_in v = map (spot v.node) (held_places (shape s) (memory s) v.node)

  all_places : List Spot
  all_places = flat_map places_in visits

  record PlaceIn (v : Visit) (t : Spot) : Type 0 where
    at_node : t.node ≡ v.node
    low : t.place < 64
    set : held (shape s) (memory s) t.node t.place ≡ true

  place_in : (v : Visit) {t : Spot} → Memᴰ t (places_in v) → PlaceIn v t
  unfolding places_in
  place_in v {t} x =
      let y = Memᴰ.of_map (spot v.node) (held_places (shape s) (memory s) v.node) x in
      let h = (held_places_lem (shape s) (memory s) v.node y.0).0 y.1 in
      rw (← y.2) (record { at_node = refl; low = h.0; set = h.1 })

  -- they are listed
  listed_places : map frame_in all_places ≡ listing (shape s) (memory s) slot
  unfolding all_places places_in listing frames_in
  listed_places =
      map_flat_map frame_in places_in visits
      ∙ flat_map_cong _ _ visits (λ v x. map-map frame_in (spot v.node) (held_places (shape s) (memory s) v.node))

  held_listed : {w : List ℕ} {t : Spot} → Holds (shape s) (memory s) slot w t.node t.place (frame_in t) → Memᴰ t all_places
  unfolding all_places places_in
  held_listed {w} {t} h =
      together places_in (listed h.there)
      (Memᴰ.map (spot t.node) ((held_places_lem (shape s) (memory s) t.node t.place).1 (h.place, h.set)))

  listed_held : {t : Spot} → Memᴰ t all_places → (w : List ℕ) × Holds (shape s) (memory s) slot w t.node t.place (frame_in t)
  unfolding all_places
  listed_held {t} x =
      let y = within places_in visits x in
      let p = place_in y.from y.inside in
      let r = subst (Reaches (shape s) (memory s) slot y.from.way) (sym p.at_node) (reached y.from y.member) in
      (y.from.way, record { there = r; place = p.low; set = p.set; is = refl })

  in_node : (v : Visit) → Distinct word_of (places_in v)
  unfolding places_in held_places
  in_node v =
      distinct_made (spot v.node) word_of
      (distinct_by (λ p. frame_at (shape s) v.node p) (distinct_keep (held (shape s) (memory s) v.node) (distinct_up_to 64)) (λ p q x y e. omega arith))

  places_once : SoundTree (shape s) (memory s) slot → Distinct word_of all_places
  unfolding all_places
  places_once sound =
      distinct_parts places_in ((tree_laws open_slot).visited_once sound) (λ v x. in_node v)
      (λ v v' t t' x x' y y' e. omega (arith, place_in v y, place_in v' y'))

  -- 14
  pub frames_test : (room : ℕ) → SoundTree (shape s) (memory s) slot
      → (holds (lt room (length (listing (shape s) (memory s) slot))) ≡ true) ↔ MoreFrames s room slot
  frames_test room sound = decided (lt room (length (listing (shape s) (memory s) slot))) (there, back)
    where
      many : length all_places ≡ length (listing (shape s) (memory s) slot)
      many = sym (length-map all_places frame_in) ∙ ap length listed_places

      there : room < length (listing (shape s) (memory s) slot) → MoreFrames s room slot
      there l = record {
        places = all_places;
        once = places_once sound;
        each = λ t x. listed_held x;
        more = omega (arith, many);
      }

      back : MoreFrames s room slot → room < length (listing (shape s) (memory s) slot)
      back x =
          let few = no_longer {ys = map word_of all_places} (distinct_map x.once) (λ i y.
          let t = Memᴰ.of_map word_of x.places y in
          rw (← t.2) (Memᴰ.map word_of (held_listed (x.each t.0 t.1).1))) in
          omega (arith, many, x.more, length-map x.places word_of, length-map all_places word_of)
