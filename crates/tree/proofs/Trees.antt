-- The test of a reel's tree, and of all trees together, decides that no node is malformed or reached twice.
use mathlib.Core.Path.{◌≡◌, refl, sym, ◌∙◌, ap}
use mathlib.Core.Bool.{true}
use mathlib.Core.Logic.{◌↔◌}
use mathlib.Core.List.{List, ◌∷◌, ◌++◌, flat_map, Memᴰ}
use Prim.Native.Nat.{ℕ, zero, suc}
use native.Mathlib.Omega.{arith}
use lib.ListN.{length, length-append, drop}
use lib.Seq.{drop-append_seam}
use Rattle.memory.specs.Words.{Memory}
use Rattle.tree.specs.Lists.{up_to, every, distinct, Distinct, empty, onto}
use Rattle.tree.specs.declared.layout.Geometry.{Geometry}
use Rattle.tree.specs.Path.{levels}
use Rattle.tree.specs.Node.{child_of, well_formed}
use Rattle.tree.specs.Slots.{Filled, filled_slots}
use Rattle.tree.specs.Reach.{Reaches, root, down}
use Rattle.tree.specs.Sound.{SoundTree}
use Rattle.tree.specs.Subtree.{Visit, visit, children, subtree, tree, all_trees}
use Rattle.tree.specs.Check.{walkable, is_sound_tree}
use Rattle.tree.proofs.Cases.{and-true, true_and}
use Rattle.tree.proofs.Lists.{within, together, up_to_members, every_at, at_every}
use Rattle.tree.proofs.Distinct.{distinct_says, distinct_said, same_element, distinct_part, same_part, distinct_parts, distinct_up_to}
use Rattle.tree.proofs.Slots.{filled_slots_lem, distinct_slots}
use Rattle.tree.proofs.Reach.{slot_filled}
use Rattle.tree.proofs.Subtree.{children_lt, Below, subtree_below, visited}

-- equal lists with equally long ends have equal ends
same_end : (v v' x x' : List ℕ) → length x ≡ length x' → v ++ x ≡ v' ++ x' → x ≡ x'
same_end v v' x x' l e =
    let k : length v ≡ length v' = omega (arith, sym (length-append v x) ∙ ap length e ∙ length-append v' x') in
    sym (drop-append_seam v x) ∙ ap (drop (length v)) e ∙ ap (λ n. drop n (v' ++ x')) k ∙ drop-append_seam v' x'

module _ (g : Geometry) (m : Memory) where
  -- a tree in which no node is reached twice lists none twice
  distinct_subtree : {s : ℕ} → SoundTree g m s → (left : ℕ) {w : List ℕ} {n : ℕ} → Reaches g m s w n → Distinct (λ v. v.node) (subtree g m left w n)
  unfolding subtree
  distinct_subtree a zero r = empty
  distinct_subtree {s} a (suc left) {w} {n} r =
      onto {x = visit w n} (λ y z q.
      let t = within below (up_to (children g m (length w) n)) z in
      let b = under t.from t.member y t.inside in
      let k = a.once b.there (rw (sym q) at r) in
      omega (arith, sym (length-append b.more (t.from ∷ w)) ∙ ap length (sym b.is ∙ k)))
      (distinct_parts below (distinct_up_to (children g m (length w) n)) (λ c x. distinct_subtree a left (step c x)) (λ c c' v v' x x' z z' q.
      let b = under c x v z in
      let b' = under c' x' v' z' in
      let e = sym b.is ∙ a.once b.there (rw (sym q) at b'.there) ∙ b'.is in
      let k = same_end b.more b'.more (c ∷ w) (c' ∷ w) refl e in
      cc))
    where
      below : ℕ → List Visit
      below c = subtree g m left (c ∷ w) (child_of g m n c)

      step : (c : ℕ) → Memᴰ c (up_to (children g m (length w) n)) → Reaches g m s (c ∷ w) (child_of g m n c)
      step c x = let k = (children_lt g m (length w) n c).0 ((up_to_members _).0 x) in down r k.0 k.1 refl

      under : (c : ℕ) → Memᴰ c (up_to (children g m (length w) n)) → (v : Visit) → Memᴰ v (below c) → Below g m s (c ∷ w) v
      under c x v z = subtree_below g m s left (step c x) v z

  pub distinct_tree : {s : ℕ} → SoundTree g m s → Filled g m s → Distinct (λ v. v.node) (tree g m s)
  unfolding tree
  distinct_tree a b = distinct_subtree a levels (root b refl)

  -- ---- the tests

  -- every node is well formed at its depth, as a test of a list
  pub formed_at : {vs : List Visit} {w : List ℕ} {n : ℕ} → walkable g m vs ≡ true → Memᴰ (visit w n) vs → well_formed g m (length w) n ≡ true
  unfolding walkable
  formed_at {vs} h x = every_at _ (and-true _ (distinct (λ v. v.node) vs) h).0 x

  pub walked_once : {vs : List Visit} → walkable g m vs ≡ true → Distinct (λ v. v.node) vs
  unfolding walkable
  walked_once {vs} h = distinct_says (λ v. v.node) vs (and-true (every (λ v. well_formed g m (length v.way) v.node) vs) _ h).1

  walks : (vs : List Visit) → ((v : Visit) → Memᴰ v vs → well_formed g m (length v.way) v.node ≡ true) → Distinct (λ v. v.node) vs
      → walkable g m vs ≡ true
  unfolding walkable
  walks vs h d = true_and (at_every (λ v. well_formed g m (length v.way) v.node) vs h) (distinct_said (λ v. v.node) d)

  pub decides_tree : {s : ℕ} → Filled g m s → (is_sound_tree g m s ≡ true) ↔ SoundTree g m s
  unfolding is_sound_tree
  decides_tree {s} b = (
    λ h. record {
      well_formed_lem = λ r. formed_at h ((visited g m b _ _).1 r);
      once = λ r r'. ap (λ v. v.way) (same_element (walked_once h) ((visited g m b _ _).1 r) ((visited g m b _ _).1 r') refl);
    },
    λ a. walks (tree g m s) (λ v x. a.well_formed_lem ((visited g m b v.way v.node).0 x)) (distinct_tree a b),
  )

  -- the nodes of all trees are those that some slot reaches
  pub in_trees : {s : ℕ} {w : List ℕ} {n : ℕ} → Reaches g m s w n → Memᴰ (visit w n) (all_trees g m)
  unfolding all_trees
  in_trees {w = w} {n = n} r = let b = slot_filled r in together (tree g m) ((filled_slots_lem g m).1 b) ((visited g m b w n).1 r)

  pub trees_reach : {v : Visit} → Memᴰ v (all_trees g m) → (s : ℕ) × Reaches g m s v.way v.node
  unfolding all_trees
  trees_reach {v} x =
      let t = within (tree g m) (filled_slots g m) x in
      (t.from, (visited g m ((filled_slots_lem g m).0 t.member) v.way v.node).0 t.inside)

  -- all trees together: the first two clauses of soundness
  pub record SoundTrees : Type 0 where
    pub well_formed_lem : {s : ℕ} {w : List ℕ} {n : ℕ} → Reaches g m s w n → well_formed g m (length w) n ≡ true
    pub once : {s s' : ℕ} {w w' : List ℕ} {n : ℕ} → Reaches g m s w n → Reaches g m s' w' n → (s ≡ s') × (w ≡ w')

  pub of_trees : {s : ℕ} → SoundTrees → SoundTree g m s
  of_trees a = record { well_formed_lem = λ r. a.well_formed_lem r; once = λ r r'. (a.once r r').1 }

  -- no node is met twice in them
  pub distinct_trees : SoundTrees → Distinct (λ v. v.node) (all_trees g m)
  unfolding all_trees
  distinct_trees a =
      distinct_parts (tree g m) (distinct_slots g m) (λ s x. distinct_tree (of_trees a) ((filled_slots_lem g m).0 x)) (λ s s' v v' x x' z z' q.
      let r = (visited g m ((filled_slots_lem g m).0 x) v.way v.node).0 z in
      let r' = (visited g m ((filled_slots_lem g m).0 x') v'.way v'.node).0 z' in
      (a.once r (rw (sym q) at r')).0)

  pub decides_trees : (walkable g m (all_trees g m) ≡ true) ↔ SoundTrees
  unfolding all_trees
  decides_trees = (
    λ h. record {
      well_formed_lem = λ r. formed_at h (in_trees r);
      once = λ {s} {s'} {w} {w'} {n} r r'. same s s' w w' n h r r' (same_part (tree g m) (walked_once h) (slot r) (here r) (slot r') (here r') refl);
    },
    λ a. walks (all_trees g m) (λ v x. a.well_formed_lem (trees_reach x).1) (distinct_trees a),
  )
    where
      slot : {s : ℕ} {w : List ℕ} {n : ℕ} → Reaches g m s w n → Memᴰ s (filled_slots g m)
      slot r = (filled_slots_lem g m).1 (slot_filled r)

      here : {s : ℕ} {w : List ℕ} {n : ℕ} → Reaches g m s w n → Memᴰ (visit w n) (tree g m s)
      here {s} {w} {n} r = (visited g m (slot_filled r) w n).1 r

      same : (s s' : ℕ) (w w' : List ℕ) (n : ℕ) → walkable g m (flat_map (tree g m) (filled_slots g m)) ≡ true → Reaches g m s w n
          → Reaches g m s' w' n → s ≡ s' → (s ≡ s') × (w ≡ w')
      same s s' w w' n h r r' q =
          let k = rw (← q) at (here r') in
          (q, ap (λ v. v.way) (same_element (distinct_part (tree g m) (walked_once h) (slot r)) (here r) k refl))
