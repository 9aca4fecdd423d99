-- The computed test of an image decides soundness.
use mathlib.Core.Path.{◌≡◌, refl, sym, ◌∙◌, ap, ap₂}
use mathlib.Core.Bool.{true, ◌&&◌}
use mathlib.Core.Logic.{◌↔◌}
use mathlib.Core.Option.{Option, none, some}
use mathlib.Core.List.{List}
use Prim.Native.Nat.{ℕ, ◌<◌}
use native.Mathlib.Omega.{arith}
use lib.ListN.{length}
use Rattle.memory.specs.Words.{Memory}
use Rattle.tree.specs.Test.{eq, ◌and◌}
use Rattle.tree.specs.Lists.{every, distinct, Distinct}
use Rattle.tree.specs.declared.layout.Geometry.{Geometry}
use Rattle.tree.specs.Layout.{reel_at, root_at}
use Rattle.tree.specs.Path.{way_of}
use Rattle.tree.specs.Fingerprint.{Rule}
use Rattle.tree.specs.Node.{frame}
use Rattle.tree.specs.Slots.{Filled, filled_slots}
use Rattle.tree.specs.Reach.{Holds}
use Rattle.tree.specs.Sound.{Sound}
use Rattle.tree.specs.declared.path.Spot.{Spot}
use Rattle.tree.specs.Lookup.{spot, find}
use Rattle.tree.specs.Subtree.{tree, all_trees, held_places}
use Rattle.tree.specs.Check.{is_at, walkable, in_place, is_sound}
use Rattle.tree.specs.Laws.{SoundLaws}
use Rattle.tree.proofs.Cases.{and-true, true_and, true_not_false, some_inj}
use Rattle.tree.proofs.Tests.{says, said}
use Rattle.tree.proofs.Lists.{every_at, at_every}
use Rattle.tree.proofs.Distinct.{distinct_says, distinct_said, same_element, distinct_by}
use Rattle.tree.proofs.Ways.{length_way}
use Rattle.tree.proofs.Slots.{filled_slots_lem, distinct_slots, own_slot}
use Rattle.tree.proofs.Reach.{slot_filled}
use Rattle.tree.proofs.Subtree.{visited, held_places_lem}
use Rattle.tree.proofs.Paths.{sound_path}
use Rattle.tree.proofs.Lookup.{find_holds, sound_tree, lookup_rule}
use Rattle.tree.proofs.Trees.{SoundTrees, decides_tree, decides_trees}

is_at_lem : (n p : ℕ) (o : Option Spot) → is_at n p o ≡ true → o ≡ some (spot n p)
is_at_lem n p none h = absurd (true_not_false h refl)
is_at_lem n p (some t) h = let a = says (eq t.node n and eq t.place p) h in ap₂ (λ a b. some (spot a b)) a.0 a.1

at_is : (n p : ℕ) (o : Option Spot) → o ≡ some (spot n p) → is_at n p o ≡ true
at_is n p o q = rw q (said (eq n n and eq p p) (refl, refl))

module _ (r : Rule) (g : Geometry) (m : Memory) where
  -- each frame held in a slot's tree is where the lookup finds it
  pub record Placed (s : ℕ) : Type 0 where
    pub at : {w : List ℕ} {n p f : ℕ} → Holds g m s w n p f → find r g m s f ≡ some (spot n p)

  pub placed : {s : ℕ} → Filled g m s → (every (in_place r g m s) (tree g m s) ≡ true) ↔ Placed s
  unfolding in_place
  placed {s} b = (
    λ h. record {
      at = λ {w} {n} {p} {f} x.
          let e = every_at _ (every_at _ h ((visited g m b w n).1 x.there)) ((held_places_lem g m n p).1 (x.place, x.set)) in
          is_at_lem n p (find r g m s f) (rw x.is at e);
    },
    λ a. at_every _ (tree g m s) (λ v y. at_every _ (held_places g m v.node) (λ p z.
        let k = (held_places_lem g m v.node p).0 z in
        at_is v.node p (find r g m s (frame g m v.node p))
        (a.at (record { there = (visited g m b v.way v.node).0 y; place = k.0; set = k.1; is = refl })))),
  )

  sound : is_sound r g m ≡ true → Sound r g m
  unfolding is_sound
  sound h =
      let k = and-true (walkable g m (all_trees g m) && distinct (λ s. m (reel_at s)) (filled_slots g m)) _ h in
      let t = and-true (walkable g m (all_trees g m)) _ k.0 in
      made ((decides_trees g m).0 t.0) (distinct_says (λ s. m (reel_at s)) (filled_slots g m) t.1)
      (λ s b. (placed b).0 (every_at _ k.1 ((filled_slots_lem g m).1 b)))
    where
      made : SoundTrees g m → Distinct (λ s. m (reel_at s)) (filled_slots g m) → ((s : ℕ) → Filled g m s → Placed s) → Sound r g m
      made a d l = record {
        well_formed_lem = λ x. a.well_formed_lem x;
        once = λ x y. a.once x y;
        reels = λ b b' q. same_element d ((filled_slots_lem g m).1 b) ((filled_slots_lem g m).1 b') q;
        on_path_lem = λ {s} {w} {n} {p} {f} x.
            let b = slot_filled x.there in
            let t = find_holds r g m b f n p ((l s b).at x) in
            let e : w ≡ way_of t.0 f = (a.once x.there t.1.there).1 in
            e ∙ ap (λ d. way_of d f) (sym (ap length e ∙ length_way t.0 f));
        frame_once = λ {s} x x'.
            let here = l s (slot_filled x.there) in
            let q = some_inj (sym (here.at x) ∙ here.at x') in
            ((a.once x.there (rw (sym (ap (λ t. t.node) q)) at x'.there)).1, ap (λ t. t.place) q);
        fingerprints = λ {s} {w} {n} {p} {f} x. let b = slot_filled x.there in (find_holds r g m b f n p ((l s b).at x)).2;
      }

  was_sound : Sound r g m → is_sound r g m ≡ true
  unfolding is_sound
  was_sound d =
      true_and
      (true_and ((decides_trees g m).1 (record { well_formed_lem = λ x. d.well_formed_lem x; once = λ x y. d.once x y }))
      (distinct_said (λ s. m (reel_at s)) (distinct_by (λ s. m (reel_at s)) (distinct_slots g m) (λ s s' x y q.
      d.reels ((filled_slots_lem g m).0 x) ((filled_slots_lem g m).0 y) q))))
      (at_every _ (filled_slots g m) (λ s x.
      let b = (filled_slots_lem g m).0 x in
      (placed b).1 (record { at = λ {w} {n} {p} {f} y. ((lookup_rule r g m d b).at f n p).1 (w, y) })))

  formatted : ((s : ℕ) → s < g.slots → m (root_at s) ≡ 0) → Sound r g m
  formatted h = record {
    well_formed_lem = λ x. absurd (unfilled (slot_filled x));
    once = λ x y. absurd (unfilled (slot_filled x));
    reels = λ b b' q. absurd (unfilled b);
    on_path_lem = λ x. absurd (unfilled (slot_filled x.there));
    frame_once = λ x y. absurd (unfilled (slot_filled x.there));
    fingerprints = λ x. absurd (unfilled (slot_filled x.there));
  }
    where
      unfilled : {s : ℕ} → Filled g m s → ⊥
      unfilled {s} b = omega (arith, b.linked, h s b.inside)

  pub sound_laws : SoundLaws r g m
  sound_laws = record {
    tree = λ b. decides_tree g m b;
    image = (sound, was_sound);
    formatted = formatted;
    path = λ d b f. sound_path (sound_tree r g m d) b f;
    trees = λ d. sound_tree r g m d;
    own_slot = λ d b. own_slot (λ s' b' q. d.reels b' b q) b;
  }
