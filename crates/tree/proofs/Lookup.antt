-- The lookup, on any image and on a sound one.
use mathlib.Core.Path.{◌≡◌, refl, sym, ◌∙◌, ap, ap₂, subst}
use mathlib.Core.Bool.{true}
use mathlib.Core.Logic.{◌↔◌}
use mathlib.Core.Option.{Option, none, some}
use mathlib.Core.List.Memᴰ
use mathlib.Core.List.{List, [], ◌∷◌, Memᴰ}
use Prim.Native.Nat.{ℕ, zero, suc, ◌<◌}
use native.Mathlib.Omega.{arith}
use lib.ListN.{length, get_elem?}
use Rattle.memory.specs.Words.{Memory}
use Rattle.memory.specs.Apply.{is_some}
use Rattle.tree.specs.Test.{Test, is, eq, ◌and◌}
use Rattle.tree.specs.declared.layout.Geometry.{Geometry}
use Rattle.tree.specs.Path.{way_of}
use Rattle.tree.specs.Fingerprint.{Rule, fingerprint}
use Rattle.tree.specs.Node.{held, frame, stored_fingerprint}
use Rattle.tree.specs.Slots.{Filled}
use Rattle.tree.specs.Reach.{Reaches, Holds}
use Rattle.tree.specs.Sound.{Sound, SoundTree}
use Rattle.tree.specs.declared.path.Spot.{Spot}
use Rattle.tree.specs.Lookup.{spot, path_from, matches, found_at, lookup, lookup_on, find}
use Rattle.tree.specs.Laws.{Match, LookupSays, LookupRule}
use Rattle.tree.proofs.Cases.{true_not_false, seen, nothing, just, some_inj, none_some}
use Rattle.tree.proofs.Tests.{says, said}
use Rattle.memory.proofs.Laws.{first_laws}
use Rattle.tree.proofs.Reach.{one_node, slot_filled}
use Rattle.tree.proofs.Paths.{path_laws, sound_path}
use Rattle.tree.proofs.Spots.{spot_laws}

-- an element's number in its list
index_of : {n : ℕ} {ns : List ℕ} → Memᴰ n ns → (i : ℕ) × (get_elem? ns i ≡ some n)
index_of (Memᴰ.head q) = (0, ap some (sym q))
index_of (Memᴰ.tail z) = let t = index_of z in (suc t.0, t.1)

pub of_index : (ns : List ℕ) (i : ℕ) {n : ℕ} → get_elem? ns i ≡ some n → Memᴰ n ns
of_index [] i h = none_some h
of_index (x ∷ ns) zero h = Memᴰ.head (sym (some_inj h))
of_index (x ∷ ns) (suc i) h = Memᴰ.tail (of_index ns i h)

some_is : {A : Type 0} {o : Option A} {a : A} → o ≡ some a → is_some o ≡ true
some_is q = rw q

module _ (r : Rule) (g : Geometry) (m : Memory) where
  pub match_facts : (f n p : ℕ) → (matches r g m f n p ≡ true) ↔ ((held g m n p ≡ true) × ((frame g m n p ≡ f) × (stored_fingerprint g m n p ≡ fingerprint r f)))
  unfolding matches
  match_facts f n p =
      let t : Test = is (held g m n p) and eq (frame g m n p) f and eq (stored_fingerprint g m n p) (fingerprint r f) in
      (says t, said t)

  lookup_match : (f : ℕ) (ns : List ℕ) (n p : ℕ) → lookup r g m f ns ≡ some (spot n p) → Memᴰ n ns × (p < 64) × (matches r g m f n p ≡ true)
  unfolding lookup found_at
  lookup_match f ns n p h =
      let t = ((spot_laws (found_at r g m f) (λ n. 64) ns).found n p).0 h in (
        rw t.split (Memᴰ.append_right t.above (Memᴰ.head refl)),
        t.within,
        rw t.is at ((first_laws (matches r g m f n) 64).holds (rw t.is t.within)),
      )

  match_lookup : (f : ℕ) (ns : List ℕ) → Match r g m f ns → lookup r g m f ns ≡ none → ⊥
  unfolding lookup found_at
  match_lookup f ns t h =
      let a = (spot_laws (found_at r g m f) (λ n. 64) ns).nowhere.0 h t.node t.member in
      let b = (first_laws (matches r g m f t.node) 64).least t.place t.low t.is in
      omega (arith, t.low)

  pub lookup_says : LookupSays r g m
  lookup_says = record {
    yes = λ f ns. elim (seen (lookup r g m f ns)) [
      | nothing q ↦ (λ h. absurd (true_not_false h (ap is_some q)), λ t. absurd (match_lookup f ns t q))
      | just a q ↦
          let t = lookup_match f ns a.node a.place q in
          (λ h. record { node = a.node; place = a.place; member = t.0; low = t.1; is = t.2 }, λ t. some_is q)
    ];
  }

  -- what the lookup from a slot finds is held there, on any image
  pub find_holds : {s : ℕ} → Filled g m s → (f n p : ℕ) → find r g m s f ≡ some (spot n p)
      → (d : ℕ) × Holds g m s (way_of d f) n p f × (stored_fingerprint g m n p ≡ fingerprint r f)
  unfolding find
  find_holds {s} b f n p h = elim (seen (path_from g m s f)) [
    | nothing q ↦ none_some (sym (ap (lookup_on r g m f) q) ∙ h)
    | just ns q ↦
        let t = lookup_match f ns n p (sym (ap (lookup_on r g m f) q) ∙ h) in
        let i = index_of t.0 in
        let a = (match_facts f n p).0 t.2 in
        (i.0, record { there = ((path_laws f b).nodes ns q i.0 n).0 i.1; place = t.1; set = a.0; is = a.1.0 }, a.1.1)
  ]

  -- where no node is malformed, a frame held on its path with its fingerprint is found, if not there then elsewhere
  pub holds_found : {s : ℕ} → SoundTree g m s → (d : ℕ) {n p f : ℕ} → Holds g m s (way_of d f) n p f
      → stored_fingerprint g m n p ≡ fingerprint r f → (t : Spot) × (find r g m s f ≡ some t)
  unfolding find
  holds_found {s} a d {n} {p} {f} x e =
      let b = slot_filled x.there in
      let h = sound_path a b f in
      let on = of_index h.0 d (((path_laws f b).nodes h.0 h.1 d n).1 x.there) in
      let k : Match r g m f h.0 = record { node = n; place = p; member = on; low = x.place; is = (match_facts f n p).1 (x.set, (x.is, e)) } in
      elim (seen (lookup r g m f h.0)) [
        | nothing z ↦ absurd (match_lookup f h.0 k z)
        | just t z ↦ (t, ap (lookup_on r g m f) h.1 ∙ z)
      ]

  pub sound_tree : {s : ℕ} → Sound r g m → SoundTree g m s
  sound_tree d = record { well_formed_lem = λ x. d.well_formed_lem x; once = λ x y. (d.once x y).1 }

  pub lookup_rule : {s : ℕ} (d : Sound r g m) (b : Filled g m s) → LookupRule r g m s d b
  lookup_rule {s} d b = record {
    at = λ f n p. (λ h. let t = find_holds b f n p h in (way_of t.0 f, t.1), λ t. held_at f n p t.0 t.1);
    yes = λ f. (
      λ h. elim (seen (find r g m s f)) [
        | nothing q ↦ absurd (true_not_false h (ap is_some q))
        | just t q ↦ let x = find_holds b f t.node t.place q in record { way = way_of x.0 f; node = t.node; place = t.place; holds = x.1 }
      ],
      λ t. some_is (held_at f t.node t.place t.way t.holds),
    );
  }
    where
      held_at : (f n p : ℕ) (w : List ℕ) → Holds g m s w n p f → find r g m s f ≡ some (spot n p)
      held_at f n p w x =
          let q = d.on_path_lem x in
          let t = holds_found (sound_tree d) (length w) (subst (λ v. Holds g m s v n p f) q x) (d.fingerprints x) in
          let y = find_holds b f t.0.node t.0.place t.1 in
          let o = d.frame_once x y.1 in
          let k : n ≡ t.0.node = one_node (subst (λ v. Reaches g m s v n) o.0 x.there) y.1.there in
          t.1 ∙ ap₂ (λ a b. some (spot a b)) (sym k) (sym o.1)
