-- The search for an empty group: what it finds, by ways, and that it goes by the tree's outline.
use mathlib.Core.Path.{◌≡◌, refl, sym, ◌∙◌, ap}
use mathlib.Core.Bool.{Bool, true, false, not}
use mathlib.Core.Logic.{◌⊎◌, inl, inr, ◌↔◌}
use mathlib.Core.Option.{none, some}
use mathlib.Core.List.{List, [], ◌∷◌, ◌++◌, map}
use mathlib.Core.List.{Memᴰ}
use Prim.Native.Nat.{ℕ, ◌+◌, ◌-◌, ◌<◌}
use native.Mathlib.Omega.{arith}
use lib.ListN.{length}
use lib.Dec.{eqb}
use borrow.Author.Tests.{not-true, not-false, eqb-true, eqb-false, eq-eqb, ne_eqb}
use Rattle.memory.specs.Words.{Memory}
use Rattle.tree.specs.Test.{eq, ◌and◌}
use Rattle.tree.specs.Lists.{up_to, every, first_that}
use Rattle.tree.specs.declared.layout.Geometry.{Geometry}
use Rattle.tree.specs.Layout.{next_at, locate_at, set_at}
use Rattle.tree.specs.Path.{fanout}
use Rattle.tree.specs.Node.{child_of}
use Rattle.tree.specs.Slots.{Filled}
use Rattle.tree.specs.Reach.{Reaches, down}
use Rattle.tree.specs.Subtree.{Visit, visit, Before, tree}
use Rattle.tree.specs.Outline.{Sight, sight, outline}
use Rattle.tree.specs.Groups.{is_empty, all_empty, has_empty_group, first_group, Empty, EmptyGroup, NoGroup, FirstGroup, found_way}
use Rattle.tree.specs.Laws.{GroupLaws}
use Rattle.tree.proofs.Cases.{test, and-true, true_and, true_not_false, same_test, none_some, some_inj}
use Rattle.tree.proofs.Tests.{says, said}
use Rattle.tree.proofs.Lists.{every_at, at_every, up_to_members}
use Rattle.tree.proofs.Reach.{one_node}
use Rattle.tree.proofs.Subtree.{visited}
use Rattle.tree.proofs.Order.{in_order}

-- ---- the first element at which a test holds

-- an element at which a test holds, and none before it
record First {A : Type 0} (p : A → Bool) (xs : List A) (x : A) : Type 0 where
  holds : p x ≡ true
  earlier : List A
  later : List A
  order : xs ≡ earlier ++ x ∷ later
  none_earlier : (y : A) → Memᴰ y earlier → p y ≡ false

module _ {A : Type 0} (p : A → Bool) where
  first_that_lem : (xs : List A) {x : A} → first_that p xs ≡ some x → First p xs x
  unfolding first_that
  first_that_lem [] q = none_some q
  first_that_lem (y ∷ xs) {x} q = go (test (p y)) (λ z. first_that_lem xs z)
    where
      go : (p y ≡ true) ⊎ (p y ≡ false) → (first_that p xs ≡ some x → First p xs x) → First p (y ∷ xs) x
      go (inl e) ih =
          let same : y ≡ x = some_inj (rw e at q) in
          record { holds = ap p (sym same) ∙ e; earlier = []; later = xs; order = ap (λ u. u ∷ xs) same; none_earlier = λ u m. absurd (mathlib.Core.List.Memᴰ.not-nil m) }
      go (inr e) ih =
          let f = ih (rw e at q) in
          record {
            holds = f.holds;
            earlier = y ∷ f.earlier;
            later = f.later;
            order = ap (λ l. y ∷ l) f.order;
            none_earlier = λ u m. elim (mathlib.Core.List.Memᴰ.cases_cons m) [ inl s ↦ ap p s ∙ e | inr t ↦ f.none_earlier u t ];
          }

  none_that : (xs : List A) → (first_that p xs ≡ none) ↔ ((x : A) → Memᴰ x xs → p x ≡ false)
  unfolding first_that
  none_that [] = (λ q x m. absurd (mathlib.Core.List.Memᴰ.not-nil m), λ h. refl)
  none_that (y ∷ xs) = elim (test (p y)) [
    | inl e ↦ rw e (λ q. none_some (sym q), λ h. absurd (true_not_false e (h y (mathlib.Core.List.Memᴰ.head refl))))
    | inr e ↦ rw e (
      λ q x m. elim (mathlib.Core.List.Memᴰ.cases_cons m) [ inl s ↦ ap p s ∙ e | inr t ↦ (none_that xs).0 q x t ],
      λ h. (none_that xs).1 (λ x m. h x (mathlib.Core.List.Memᴰ.tail m)),
    )
  ]

-- ---- an empty group, by words

module _ (g : Geometry) (m : Memory) where
  empty_says : (n : ℕ) → (is_empty g m n ≡ true) ↔ Empty g m n
  unfolding is_empty
  empty_says n = (
    λ e.
        let f = says (eq (m (next_at g n)) 0 and eq (m (locate_at g n)) 0 and eq (m (set_at g n)) 0) e in
        record { childless = f.0; unlocated = f.1.0; unset = f.1.1 },
    λ b. said (eq (m (next_at g n)) 0 and eq (m (locate_at g n)) 0 and eq (m (set_at g n)) 0) (b.childless, (b.unlocated, b.unset)),
  )

  group_says : (d n : ℕ) → (has_empty_group g m d n ≡ true) ↔ ((0 < m (next_at g n)) × ((c : ℕ) → c < fanout d → Empty g m (child_of g m n c)))
  unfolding has_empty_group all_empty
  group_says d n = (
    λ e.
        let a = and-true (not (eqb (m (next_at g n)) 0)) (every (λ c. is_empty g m (m (next_at g n) - 1 + c)) (up_to (fanout d))) e in
        (omega (arith, eqb-false (m (next_at g n)) 0 (not-true _ a.0)), λ c l. (empty_says _).0 (every_at _ a.1 ((up_to_members (fanout d)).1 l))),
    λ h.
        true_and (ap not (ne_eqb (m (next_at g n)) 0 (λ q. omega (arith, h.0))))
        (at_every _ _ (λ c x. (empty_says _).1 (h.1 c ((up_to_members (fanout d)).0 x)))),
  )

  abbrev tested : Visit → Bool
  tested v = has_empty_group g m (length v.way) v.node

  group_there : {s : ℕ} {w : List ℕ} {n : ℕ} → Reaches g m s w n → has_empty_group g m (length w) n ≡ true → EmptyGroup g m s w n
  group_there {w = w} {n} r e = let f = (group_says (length w) n).0 e in record { there = r; linked = f.0; empty = f.1 }

  group_test : {s : ℕ} {w : List ℕ} {n : ℕ} → EmptyGroup g m s w n → has_empty_group g m (length w) n ≡ true
  group_test {w = w} {n} x = (group_says (length w) n).1 (x.linked, x.empty)

-- ---- the search, by ways

module _ {g : Geometry} {m : Memory} {s : ℕ} (b : Filled g m s) where
  found : (v : Visit) → first_group g m s ≡ some v → FirstGroup g m s v.way v.node
  unfolding first_group
  found v q =
      let f = first_that_lem (tested g m) (tree g m s) q in
      let there : Memᴰ v (tree g m s) = rw f.order (mathlib.Core.List.Memᴰ.append_right f.earlier (mathlib.Core.List.Memᴰ.head refl)) in
      record {
        is = group_there g m ((visited g m b v.way v.node).0 there) f.holds;
        first = λ w n x. placed f w n x (mathlib.Core.List.Memᴰ.append_cases f.earlier (rw f.order at ((visited g m b w n).1 x.there)));
      }
    where
      placed : (f : First (tested g m) (tree g m s) v) (w : List ℕ) (n : ℕ) → EmptyGroup g m s w n
          → Memᴰ (visit w n) f.earlier ⊎ Memᴰ (visit w n) (v ∷ f.later) → (w ≡ v.way) ⊎ Before v.way w
      placed f w n x (inl y) = absurd (true_not_false (group_test g m x) (f.none_earlier (visit w n) y))
      placed f w n x (inr y) = elim (mathlib.Core.List.Memᴰ.cases_cons y) [
        | inl e ↦ inl (ap (λ u. u.way) e)
        | inr z ↦ inr (in_order g m b f.earlier f.later v f.order (visit w n) z)
      ]

  nowhere : (first_group g m s ≡ none) ↔ NoGroup g m s
  unfolding first_group
  nowhere =
      let t = none_that (tested g m) (tree g m s) in (
        λ q w n x. true_not_false (group_test g m x) (t.0 q (visit w n) ((visited g m b w n).1 x.there)),
        λ h. t.1 (λ v x. elim (test (tested g m v)) [
          | inl e ↦ absurd (h v.way v.node (group_there g m ((visited g m b v.way v.node).0 x) e))
          | inr e ↦ e
        ]),
      )

-- ---- the search, by the outline

module _ (g g' : Geometry) (m m' : Memory) (u u' : Visit) (e : sight g m u ≡ sight g' m' u') where
  -- a node that looks like an empty one is empty
  empty_like : Empty g m u.node → Empty g' m' u'.node
  unfolding sight
  empty_like x = record {
    childless = eqb-true _ 0 (not-false _ (ap (λ y. y.branched) (sym e) ∙ ap not (eq-eqb (m (next_at g u.node)) 0 x.childless)));
    unlocated = ap (λ y. y.locate) (sym e) ∙ x.unlocated;
    unset = ap (λ y. y.set) (sym e) ∙ x.unset;
  }

  same_way : u.way ≡ u'.way
  unfolding sight
  same_way = ap (λ y. y.way) e

  same_linked : 0 < m (next_at g u.node) → 0 < m' (next_at g' u'.node)
  unfolding sight
  same_linked l =
      omega (
        arith,
        eqb-false (m' (next_at g' u'.node)) 0
            (not-true _ (ap (λ y. y.branched) (sym e) ∙ ap not (ne_eqb (m (next_at g u.node)) 0 (λ q. omega arith)))),
      )

-- of two trees with one outline, nodes that look alike both have empty groups
module _ {g g' : Geometry} {m m' : Memory} {s s' : ℕ} (b : Filled g m s) (b' : Filled g' m' s') (same : outline g m s ≡ outline g' m' s') where
  seen_too : (u' : Visit) → Memᴰ u' (tree g' m' s') → (u : Visit) × Memᴰ u (tree g m s) × (sight g m u ≡ sight g' m' u')
  unfolding outline
  seen_too u' x = mathlib.Core.List.Memᴰ.of_map (sight g m) (tree g m s) (rw same (mathlib.Core.List.Memᴰ.map (sight g' m') x))

  group_too : (v v' : Visit) → Memᴰ v (tree g m s) → Memᴰ v' (tree g' m' s') → sight g m v ≡ sight g' m' v'
      → tested g m v ≡ true → tested g' m' v' ≡ true
  group_too v v' x x' e h =
      let t = (group_says g m (length v.way) v.node).0 h in
      let linked = same_linked g g' m m' v v' e t.0 in
      (group_says g' m' (length v'.way) v'.node).1 (
        linked,
        λ c l.
            let r' = down ((visited g' m' b' v'.way v'.node).0 x') linked l refl in
            let u' = visit (c ∷ v'.way) (child_of g' m' v'.node c) in
            let u = seen_too u' ((visited g' m' b' _ _).1 r') in
            let way-is = same_way g g' m m' v v' e in
            let low : c < fanout (length v.way) = rw way-is l in
            let way : u.0.way ≡ c ∷ v.way = same_way g g' m m' u.0 u' u.2 ∙ ap (λ w. c ∷ w) (sym way-is) in
            let r = (visited g m b u.0.way u.0.node).0 u.1 in
            let is : u.0.node ≡ child_of g m v.node c = one_node (rw way at r) (down ((visited g m b v.way v.node).0 x) t.0 low refl) in
            empty_like g g' m m' u.0 u' u.2 (rw is (t.1 c low)),
      )

-- the first in two lists that look alike, by tests that agree where nodes look alike
same_first : (f f' : Visit → Sight) (p p' : Visit → Bool) → ((v v' : Visit) → f v ≡ f' v' → v.way ≡ v'.way) → (xs ys : List Visit)
    → map f xs ≡ map f' ys → ((v v' : Visit) → Memᴰ v xs → Memᴰ v' ys → f v ≡ f' v' → p v ≡ p' v')
    → found_way (first_that p xs) ≡ found_way (first_that p' ys)
unfolding first_that
same_first f f' p p' ways [] [] q h = refl
same_first f f' p p' ways [] (y ∷ ys) q h = let z : ◌≡◌ {A = ℕ} 0 1 = cc in absurd (omega arith)
same_first f f' p p' ways (x ∷ xs) [] q h = let z : ◌≡◌ {A = ℕ} 0 1 = cc in absurd (omega arith)
same_first f f' p p' ways (x ∷ xs) (y ∷ ys) q h =
    let e : f x ≡ f' y = cc in
    let r : map f xs ≡ map f' ys = cc in
    let ih = same_first f f' p p' ways xs ys r (λ v v' i i'. h v v' (mathlib.Core.List.Memᴰ.tail i) (mathlib.Core.List.Memᴰ.tail i')) in
    let o = h x y (mathlib.Core.List.Memᴰ.head refl) (mathlib.Core.List.Memᴰ.head refl) e in
    elim (test (p' y)) [ inl t ↦ rw (o, t) (ap some (ways x y e)) | inr t ↦ rw (o, t) ih ]

by_outline : {g g' : Geometry} {m m' : Memory} {s s' : ℕ} → Filled g m s → Filled g' m' s' → outline g m s ≡ outline g' m' s'
    → found_way (first_group g m s) ≡ found_way (first_group g' m' s')
unfolding first_group outline
by_outline {g} {g'} {m} {m'} {s} {s'} b b' q =
    same_first (sight g m) (sight g' m') (tested g m) (tested g' m') (λ v v' e. same_way g g' m m' v v' e) (tree g m s) (tree g' m' s') q
    (λ v v' x x' e. same_test (group_too b b' q v v' x x' e, group_too b' b (sym q) v' v x' x (sym e)))

pub group_laws : {g : Geometry} {m : Memory} {s : ℕ} (b : Filled g m s) → GroupLaws g m s b
group_laws b = record { found = found b; nowhere = nowhere b; by_outline = λ g' m' s' b'. by_outline b b' }
