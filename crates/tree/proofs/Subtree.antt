-- The nodes of a slot's tree are exactly those that the slot reaches.
use mathlib.Core.Path.{◌≡◌, refl, sym, ◌∙◌, ap}
use mathlib.Core.Bool.{true}
use mathlib.Core.Logic.{◌⊎◌, inl, inr, ◌↔◌}
use mathlib.Core.List.{List, [], ◌∷◌, ◌++◌, append_assoc, flat_map}
use mathlib.Core.List.Memᴰ
use mathlib.Core.List.{Memᴰ}
use Prim.Native.Nat.{ℕ, zero, suc, ◌+◌, ◌<◌}
use native.Mathlib.Omega.{arith}
use lib.ListN.{length}
use lib.Dec.{eqb}
use borrow.Author.Tests.{eqb-true}
use Rattle.memory.specs.Words.{Memory}
use Rattle.tree.specs.Lists.{up_to}
use Rattle.tree.specs.declared.layout.Geometry.{Geometry}
use Rattle.tree.specs.Layout.{next_at}
use Rattle.tree.specs.Path.{levels, fanout}
use Rattle.tree.specs.Node.{child_of, held, frame}
use Rattle.tree.specs.Slots.{Filled, root_of}
use Rattle.tree.specs.Reach.{Reaches, root, down, FrameOf}
use Rattle.tree.specs.Subtree.{Visit, visit, children, subtree, tree, held_places, frames_in, listing}
use Rattle.tree.proofs.Cases.{test, nonzero}
use Rattle.tree.proofs.Lists.{within, together, up_to_members, kept, keeps}
use Rattle.tree.proofs.Reach.{depth}

module _ (g : Geometry) (m : Memory) where
  pub children_lt : (d n c : ℕ) → (c < children g m d n) ↔ ((0 < m (next_at g n)) × (c < fanout d))
  unfolding children
  children_lt d n c = elim (test (eqb (m (next_at g n)) 0)) [
    | inl e ↦ rw e (λ h. absurd (omega arith), λ h. absurd (omega (arith, eqb-true (m (next_at g n)) 0 e)))
    | inr e ↦ rw e (λ h. (nonzero (m (next_at g n)) e, h), λ h. h.1)
  ]

  -- below a node: a way on from it
  pub record Below (s : ℕ) (w : List ℕ) (v : Visit) : Type 0 where
    pub more : List ℕ
    pub is : v.way ≡ more ++ w
    pub there : Reaches g m s v.way v.node

  pub subtree_below : (s left : ℕ) {w : List ℕ} {n : ℕ} → Reaches g m s w n → (v : Visit) → Memᴰ v (subtree g m left w n) → Below s w v
  unfolding subtree
  subtree_below s zero r v x = absurd (Memᴰ.not-nil x)
  subtree_below s (suc left) {w} {n} r v x = go (Memᴰ.cases_cons x) (λ c l k y. subtree_below s left (down r k l refl) v y)
    where
      go : (v ≡ visit w n) ⊎ Memᴰ v (flat_map (λ c. subtree g m left (c ∷ w) (child_of g m n c)) (up_to (children g m (length w) n)))
          → ((c : ℕ) → c < fanout (length w) → 0 < m (next_at g n) → Memᴰ v (subtree g m left (c ∷ w) (child_of g m n c)) → Below s (c ∷ w) v) → Below s w v
      go (inl q) ih = record { more = []; is = ap (λ t. t.way) q; there = rw q r }
      go (inr y) ih =
          let t = within (λ c. subtree g m left (c ∷ w) (child_of g m n c)) (up_to (children g m (length w) n)) y in
          let k = (children_lt (length w) n t.from).0 ((up_to_members _).0 t.member) in
          let b = ih t.from k.1 k.0 t.inside in
          record { more = b.more ++ (t.from ∷ []); is = b.is ∙ sym (append_assoc b.more (t.from ∷ []) w); there = b.there }

  subtree_head : (left : ℕ) (w : List ℕ) (n : ℕ) → 0 < left → Memᴰ (visit w n) (subtree g m left w n)
  unfolding subtree
  subtree_head zero w n h = absurd (omega arith)
  subtree_head (suc left) w n h = Memᴰ.head refl

  -- with a node, its children
  subtree_step : (left : ℕ) (w : List ℕ) (n : ℕ) (v : List ℕ) (x c : ℕ) → Memᴰ (visit v x) (subtree g m left w n) → suc (length v) < length w + left
      → c < children g m (length v) x → Memᴰ (visit (c ∷ v) (child_of g m x c)) (subtree g m left w n)
  unfolding subtree
  subtree_step zero w n v x c y h l = absurd (Memᴰ.not-nil y)
  subtree_step (suc left) w n v x c y h l = go (Memᴰ.cases_cons y) (λ b z. subtree_step left (b ∷ w) (child_of g m n b) v x c z (omega arith) l)
    where
      below : ℕ → List Visit
      below b = subtree g m left (b ∷ w) (child_of g m n b)

      go : (visit v x ≡ visit w n) ⊎ Memᴰ (visit v x) (flat_map below (up_to (children g m (length w) n)))
          → ((b : ℕ) → Memᴰ (visit v x) (below b) → Memᴰ (visit (c ∷ v) (child_of g m x c)) (below b))
          → Memᴰ (visit (c ∷ v) (child_of g m x c)) (visit w n ∷ flat_map below (up_to (children g m (length w) n)))
      go (inl q) ih =
          let qw : v ≡ w = ap (λ t. t.way) q in
          let qn : x ≡ n = ap (λ t. t.node) q in
          let k : c < children g m (length w) n = rw (← qw, ← qn) l in
          Memᴰ.tail (together below ((up_to_members _).1 k) (rw (qw, qn) (subtree_head left (c ∷ w) (child_of g m n c) (omega (arith, ap length qw)))))
      go (inr z) ih = let t = within below (up_to (children g m (length w) n)) z in Memᴰ.tail (together below t.member (ih t.from t.inside))

  in_tree : {s : ℕ} {w : List ℕ} {n : ℕ} → Reaches g m s w n → Memᴰ (visit w n) (tree g m s)
  unfolding tree
  in_tree {s} (root f e) = rw e (subtree_head levels [] (root_of m s) (omega arith))
  in_tree {s} (down {w} {c} {p} r k l e) =
      let h = depth (down r k l e) in
      rw e (subtree_step levels [] (root_of m s) w p c (in_tree r) (omega (arith, h)) ((children_lt (length w) p c).1 (k, l)))

  pub visited : {s : ℕ} → Filled g m s → (w : List ℕ) (n : ℕ) → Memᴰ (visit w n) (tree g m s) ↔ Reaches g m s w n
  unfolding tree
  visited {s} f w n = (λ x. (subtree_below s levels (root f refl) (visit w n) x).there, in_tree)

  -- ---- the frames

  pub held_places_lem : (n p : ℕ) → Memᴰ p (held_places g m n) ↔ ((p < 64) × (held g m n p ≡ true))
  unfolding held_places
  held_places_lem n p = (
    λ x. let t = kept (held g m n) (up_to 64) x in ((up_to_members 64).0 t.0, t.1),
    λ h. keeps (held g m n) ((up_to_members 64).1 h.0) h.1,
  )

  pub listed : {s : ℕ} → Filled g m s → (f : ℕ) → Memᴰ f (listing g m s) ↔ FrameOf g m s f
  unfolding listing frames_in
  listed {s} b f = (
    λ x.
        let t = within (λ v. frames_in g m v.node) (tree g m s) x in
        let q = Memᴰ.of_map (frame g m t.from.node) (held_places g m t.from.node) t.inside in
        let h = (held_places_lem t.from.node q.0).0 q.1 in
        let r = (visited b t.from.way t.from.node).0 t.member in
        record { way = t.from.way; node = t.from.node; place = q.0; holds = record { there = r; place = h.0; set = h.1; is = q.2 } },
    λ o.
        let h = o.holds in
        together (λ v. frames_in g m v.node) ((visited b o.way o.node).1 h.there)
        (rw (← h.is) (Memᴰ.map (frame g m o.node) ((held_places_lem o.node o.place).1 (h.place, h.set)))),
  )
