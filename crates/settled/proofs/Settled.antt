-- In a tree of which no node is malformed or met twice, the lookup finds each frame where it is held exactly if each is settled.
use mathlib.Core.Path.{◌≡◌, refl, sym, ◌∙◌, ap, ap₂, subst}
use mathlib.Core.Bool.{Bool, true, ◌&&◌}
use mathlib.Core.Logic.{inl, inr, ◌↔◌}
use mathlib.Core.Option.{some}
use mathlib.Core.List.{List, [], ◌∷◌}
use Prim.Native.Nat.{ℕ, zero, suc, ◌+◌, ◌-◌, ◌%◌, ◌^◌, ◌≤◌, ◌<◌}
use native.Mathlib.Omega.{arith}
use native.Mathlib.Decide.{dec_lt, ℕ_discrete}
use lib.ListN.{length}
use lib.Dec.{eqb, leb}
use borrow.Author.Tests.{eqb-true, leb-true, le-leb}
use Rattle.memory.specs.Words.{Memory}
use Rattle.memory.specs.Search.{first}
use Rattle.memory.proofs.Laws.{first_laws}
use Rattle.tree.specs.Test.{Test, is, eq, ◌and◌}
use Rattle.tree.specs.Lists.{up_to, every}
use Rattle.tree.specs.declared.layout.Geometry.{Geometry}
use Rattle.tree.specs.Layout.{next_at}
use Rattle.tree.specs.Path.{levels, child, way_of, bits_to}
use Rattle.tree.specs.Fingerprint.{fingerprint, rule_of}
use Rattle.tree.specs.Node.{child_of, held, frame, stored_fingerprint}
use Rattle.tree.specs.Slots.{Filled, root_of}
use Rattle.tree.specs.Reach.{Reaches, Holds}
use Rattle.tree.specs.Sound.{SoundTree}
use Rattle.tree.specs.Lookup.{spot, path_from, matches, found_at, lookup, lookup_on, find}
use Rattle.tree.specs.Subtree.{Visit, children, subtree, tree, held_places}
use Rattle.tree.specs.Check.{is_sound_tree, in_place}
use Rattle.tree.proofs.Cases.{test, not-false, same_test, and-true, true_and, nonzero, seen, nothing, just, some_inj, none_some, less, same, more, compared}
use Rattle.tree.proofs.Tests.{says, said}
use Rattle.tree.proofs.Lists.{every_at, at_every, every_cong, every_flat_map}
use Rattle.tree.proofs.Nodes.{linked_depth}
use Rattle.tree.proofs.Paths.{way_down, way_above}
use Rattle.tree.proofs.Lookup.{match_facts, find_holds, holds_found}
use Rattle.tree.proofs.Subtree.{visited, held_places_lem}
use Rattle.tree.proofs.Decide.{Placed, placed}
use Rattle.tree.proofs.Laws.{child_laws, reach_laws, spot_laws, sound_laws}
use Rattle.settled.specs.Settled.{absent_below, holds_at, settled_at, settled_node, settled_tree}
use Rattle.settled.proofs.Suffixes.{suffix_of, on_way}
use Rattle.settled.proofs.Held.{hold_facts, none_lower}

-- ---- what is settled, by ways

module _ {g : Geometry} {m : Memory} {s : ℕ} (a : SoundTree g m s) (b : Filled g m s) where
  -- the lookup finds a frame in no node of its path below a level
  abbrev Absent : (f d : ℕ) → Type 0
  Absent f d = (k x : ℕ) → d < k → Reaches g m s (way_of k f) x → 64 ≤ found_at (rule_of m) g m f x

  absent_below_lem : (f left d n : ℕ) → left + d ≡ levels → Reaches g m s (way_of d f) n → (absent_below g m left d n f ≡ true) ↔ Absent f d
  unfolding absent_below
  absent_below_lem f zero d n h r = absurd (omega (arith, child_laws.length_way d f, (reach_laws g m).depth r))
  absent_below_lem f (suc left) d n h r = elim (test (eqb (m (next_at g n)) 0)) [
    | inl z ↦ rw z (
      λ t k x l y.
          let u = way_above g m s f d k l y in
          absurd (omega (arith, u.linked, ap (λ (i : ℕ). m (next_at g i)) ((reach_laws g m).one_node r u.there), eqb-true (m (next_at g n)) 0 z)),
      λ t. refl,
    )
    | inr z ↦
        let c = child_of g m n (child d f) in
        let linked = nonzero (m (next_at g n)) z in
        let r' = way_down g m s f d r (linked_depth g m d n (rw (child_laws.length_way d f) at (a.well_formed_lem r)) linked) linked in
        let deeper = absent_below_lem f left (suc d) c (omega arith) r' in
        rw z (
          λ t k x l y.
              let u = and-true (leb 64 (found_at (rule_of m) g m f c)) (absent_below g m left (suc d) c f) t in
              elim (ℕ_discrete k (suc d)) [
                | yes q ↦ rw ((reach_laws g m).one_node (rw q at y) r') (leb-true 64 (found_at (rule_of m) g m f c) u.0)
                | no q ↦ deeper.0 u.1 k x (omega arith) y
              ],
          λ t. true_and (le-leb 64 (found_at (rule_of m) g m f c) (t (suc d) c (omega arith) r')) (deeper.1 (λ k x l y. t k x (omega arith) y)),
        )
  ]

  -- a frame that the lookup finds at a node is held there
  found_holds : (f k x : ℕ) → Reaches g m s (way_of k f) x → found_at (rule_of m) g m f x < 64
      → Holds g m s (way_of k f) x (found_at (rule_of m) g m f x) f × (stored_fingerprint g m x (found_at (rule_of m) g m f x) ≡ fingerprint (rule_of m) f)
  unfolding found_at
  found_holds f k x r l =
      let t = (match_facts (rule_of m) g m f x (found_at (rule_of m) g m f x)).0 ((first_laws (matches (rule_of m) g m f x) 64).holds l) in
      (record { there = r; place = l; set = t.0; is = t.1.0 }, t.1.1)

  -- the lookup finds the lowest place of a node
  find_lowest : (f n p : ℕ) → find (rule_of m) g m s f ≡ some (spot n p) → found_at (rule_of m) g m f n ≡ p
  unfolding find lookup
  find_lowest f n p h = elim (seen (path_from g m s f)) [
    | nothing q ↦ none_some (sym (ap (lookup_on (rule_of m) g m f) q) ∙ h)
    | just ns q ↦ (((spot_laws (found_at (rule_of m) g m f) (λ n. 64) ns).found n p).0 (sym (ap (lookup_on (rule_of m) g m f) q) ∙ h)).is
  ]

  -- where no lower place holds a frame, the lookup finds none of them
  lowest_here : (f n p : ℕ) → p < 64 → (held g m n p ≡ true) × ((frame g m n p ≡ f) × (stored_fingerprint g m n p ≡ fingerprint (rule_of m) f))
      → first (holds_at g m n f) p ≡ p → found_at (rule_of m) g m f n ≡ p
  unfolding found_at
  lowest_here f n p l e o =
      sym ((first_laws (matches (rule_of m) g m f n) 64).stops p (omega arith) (λ q k. not-false (λ y.
      let t = (match_facts (rule_of m) g m f n q).0 y in
      omega (arith, o, (first_laws (holds_at g m n f) p).least q k ((hold_facts g m n f q).1 (t.0, t.1.0)))))
      (λ k. (match_facts (rule_of m) g m f n p).1 e))

  -- a frame held at a way: it goes that way, the place is the lowest of its node, and it is in no node below
  record Settled (w : List ℕ) (n p f : ℕ) : Type 0 where
    on_path_lem : w ≡ way_of (length w) f
    lowest : found_at (rule_of m) g m f n ≡ p
    absent : Absent f (length w)

  -- where a place holds its frame: it is settled if the test holds, and the test holds if each place of the node that holds the
  -- frame is settled
  settled_at_lem : (left : ℕ) {w : List ℕ} {n p : ℕ} → left + length w ≡ levels → Holds g m s w n p (frame g m n p)
      → (settled_at g m left (length w) n (suffix_of w) p ≡ true → Settled w n p (frame g m n p))
      × (((q : ℕ) → Holds g m s w n q (frame g m n p) → Settled w n q (frame g m n p)) → settled_at g m left (length w) n (suffix_of w) p ≡ true)
  unfolding settled_at
  settled_at_lem left {w} {n} {p} h x =
      let f = frame g m n p in
      let t : Test =
      eq (f % 2 ^ bits_to (length w)) (suffix_of w)
      and eq (stored_fingerprint g m n p) (fingerprint (rule_of m) f)
      and eq (first (holds_at g m n f) p) p
      and is (absent_below g m left (length w) n f) in
      let way = on_way x.there f in
      let below : w ≡ way_of (length w) f → (absent_below g m left (length w) n f ≡ true) ↔ Absent f (length w) =
      λ q. absent_below_lem f left (length w) n h (subst (λ v. Reaches g m s v n) q x.there) in (
        λ y. let k = says t y in
            let q = way.0 k.0 in
            record { on_path_lem = q; lowest = lowest_here f n p x.place (x.set, (refl, k.1.0)) k.1.1.0; absent = (below q).0 k.1.1.1 },
        λ l. let i = l p x in
            let r = subst (λ v. Reaches g m s v n) i.on_path_lem x.there in
            let own = (found_holds f (length w) n r (rw i.lowest x.place)).1 in
            let lone : first (holds_at g m n f) p ≡ p =
            none_lower g m n f p (λ q k o e.
            let z = (l q (record { there = x.there; place = omega (arith, x.place); set = o; is = e })).lowest in
            omega (arith, z, i.lowest)) in
            said t (way.1 i.on_path_lem, (rw i.lowest at own, (lone, (below i.on_path_lem).1 i.absent))),
      )

  -- where the lookup finds each frame where it is held, each is settled
  placed_settled : Placed (rule_of m) g m s → {w : List ℕ} {n p f : ℕ} → Holds g m s w n p f → Settled w n p f
  placed_settled l {w} {n} {p} {f} x =
      let t = find_holds (rule_of m) g m b f n p (l.at x) in
      let e : w ≡ way_of t.0 f = a.once x.there t.1.there in
      let d : length w ≡ t.0 = ap length e ∙ child_laws.length_way t.0 f in
      record {
        on_path_lem = e ∙ ap (λ k. way_of k f) (sym d);
        lowest = find_lowest f n p (l.at x);
        absent = λ k y h r. elim (dec_lt (found_at (rule_of m) g m f y) 64) [
          | yes u ↦
              let q = some_inj (sym (l.at (found_holds f k y r u).0) ∙ l.at x) in
              let z = a.once r (rw (sym (ap (λ t. t.node) q)) at x.there) in
              absurd (omega (arith, sym (child_laws.length_way k f) ∙ ap length z))
          | no u ↦ omega arith
        ];
      }

  -- and back: what the lookup finds first is above or below neither
  settled_placed : ((w : List ℕ) (n p f : ℕ) → Holds g m s w n p f → Settled w n p f) → Placed (rule_of m) g m s
  settled_placed l = record {
    at = λ {w} {n} {p} {f} x.
        let i = l w n p f x in
        let d = length w in
        let low : found_at (rule_of m) g m f n < 64 = rw i.lowest x.place in
        let r = subst (λ v. Reaches g m s v n) i.on_path_lem x.there in
        let h = found_holds f d n r low in
        let t = holds_found (rule_of m) g m a d h.0 h.1 in
        let y = find_holds (rule_of m) g m b f t.0.node t.0.place t.1 in
        let first = find_lowest f t.0.node t.0.place t.1 in
        elim (compared y.0 d) [
          | less k ↦ absurd (omega (arith, low, (l _ _ _ _ y.1).absent d n (rw (child_laws.length_way y.0 f) k) r))
          | same q ↦
              let e = (reach_laws g m).one_node (subst (λ k. Reaches g m s (way_of k f) t.0.node) q y.1.there) r in
              t.1 ∙ ap₂ (λ a b. some (spot a b)) e (sym first ∙ ap (found_at (rule_of m) g m f) e ∙ i.lowest)
          | more k ↦ absurd (omega (arith, first, y.1.place, i.absent y.0 t.0.node k y.1.there))
        ];
  }

-- ---- the test of a tree

module _ (g : Geometry) (m : Memory) where
  abbrev is_settled : Visit → Bool
  is_settled v = settled_node g m (levels - length v.way) (length v.way) v.node (suffix_of v.way)

  settled_subtree : (left : ℕ) (w : List ℕ) (n : ℕ) → left + length w ≡ levels
      → settled_tree g m left (length w) n (suffix_of w) ≡ every is_settled (subtree g m left w n)
  unfolding settled_tree subtree every suffix_of
  settled_subtree zero w n h = refl
  settled_subtree (suc left) w n h =
      let e : suc left ≡ levels - length w = omega arith in
      let below : ℕ → List Visit = λ c. subtree g m left (c ∷ w) (child_of g m n c) in
      ap₂ ◌&&◌ (ap (λ k. settled_node g m k (length w) n (suffix_of w)) e)
      (every_cong _ _ (up_to (children g m (length w) n)) (λ c. settled_subtree left (c ∷ w) (child_of g m n c) (omega arith))
      ∙ sym (every_flat_map is_settled below (up_to (children g m (length w) n))))

  pub settled_tree_lem : (s : ℕ) → Filled g m s → is_sound_tree g m s ≡ true
      → settled_tree g m levels 0 (root_of m s) 0 ≡ every (in_place (rule_of m) g m s) (tree g m s)
  unfolding tree suffix_of settled_node
  settled_tree_lem s b h =
      let a = ((sound_laws (rule_of m) g m).tree b).0 h in
      settled_subtree levels [] (root_of m s) (omega arith) ∙ same_test (
        λ k. (placed (rule_of m) g m b).1 (settled_placed a b (λ w n p f x.
            let e = every_at _ (every_at is_settled k ((visited g m b w n).1 x.there)) ((held_places_lem g m n p).1 (x.place, x.set)) in
            let own : Holds g m s w n p (frame g m n p) = record { there = x.there; place = x.place; set = x.set; is = refl } in
            rw x.is at ((settled_at_lem a b (levels - length w) (omega (arith, (reach_laws g m).depth x.there)) own).0 e))),
        λ k. at_every is_settled _ (λ v y. at_every _ (held_places g m v.node) (λ p z.
            let i = (held_places_lem g m v.node p).0 z in
            let r = (visited g m b v.way v.node).0 y in
            (settled_at_lem a b (levels - length v.way) (omega (arith, (reach_laws g m).depth r)) (record { there = r; place = i.0; set = i.1; is = refl })).1
            (λ q. placed_settled a b ((placed (rule_of m) g m b).0 k)))),
      )
