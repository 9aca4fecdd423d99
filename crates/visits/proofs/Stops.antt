-- A walk's stops: the nodes of tree's walk by the lengths of their ways; and as the code takes them, a node before its children, a group from its first node on.
use mathlib.Core.Path.{◌≡◌, refl, sym, ◌∙◌, ap, ap₂}
use mathlib.Core.List.{List, [], ◌∷◌, ◌++◌, map, flat_map}
use Prim.Native.Nat.{ℕ, zero, suc, ◌+◌, ◌-◌, ◌≤◌}
use native.Mathlib.Omega.{arith}
use borrow.Author.Tests.{eq-eqb, ne_eqb}
use lib.ListN.{length}
use Rattle.memory.specs.Words.{Memory}
use Rattle.tree.specs.Lists.{range, up_to}
use Rattle.tree.specs.declared.layout.Geometry.{Geometry}
use Rattle.tree.specs.Layout.{next_at}
use Rattle.tree.specs.Path.{levels, fanout}
use Rattle.tree.specs.Node.{child_of}
use Rattle.tree.specs.Slots.{root_of}
use Rattle.tree.specs.Subtree.{Visit, children, subtree, tree}
use Rattle.tree.proofs.Lists.{flat_map_cong, map_flat_map}
use Rattle.visits.specs.Walk.{Stop, stop, stops, group_stops}

abbrev pub stop_of : Visit → Stop
stop_of v = stop (length v.way) v.node

module _ (g : Geometry) (m : Memory) where
  stops_subtree : (left : ℕ) (w : List ℕ) (n : ℕ) → map stop_of (subtree g m left w n) ≡ stops g m left (length w) n
  unfolding subtree stops
  stops_subtree zero w n = refl
  stops_subtree (suc left) w n =
      ap (λ t. stop (length w) n ∷ t)
      (map_flat_map stop_of (λ c. subtree g m left (c ∷ w) (child_of g m n c)) (up_to (children g m (length w) n))
      ∙ flat_map_cong _ _ (up_to (children g m (length w) n)) (λ c x. stops_subtree left (c ∷ w) (child_of g m n c)))

  -- the stops of a slot's walk
  abbrev pub slot_stops : ℕ → List Stop
  slot_stops s = stops g m levels 0 (root_of m s)

  pub slot_stops_lem : (s : ℕ) → slot_stops s ≡ map stop_of (tree g m s)
  unfolding tree
  slot_stops_lem s = sym (stops_subtree levels [] (root_of m s))

  -- a group of none, and of at least one
  pub group_empty : (left d start : ℕ) → group_stops g m left d start 0 ≡ []
  unfolding group_stops up_to range flat_map
  group_empty left d start = refl

  shifted : (left d start start' a b k : ℕ) → start + a ≡ start' + b
      → flat_map (λ c. stops g m left d (start + c)) (range a k) ≡ flat_map (λ c. stops g m left d (start' + c)) (range b k)
  unfolding range flat_map
  shifted left d start start' a b zero q = refl
  shifted left d start start' a b (suc k) q = ap₂ ◌++◌ (ap (stops g m left d) q) (shifted left d start start' (suc a) (suc b) k (omega arith))

  pub group_first : (left d start count : ℕ) → (count ≡ 0 → ⊥)
      → group_stops g m left d start count ≡ stops g m left d start ++ group_stops g m left d (start + 1) (count - 1)
  unfolding group_stops up_to range flat_map
  group_first left d start zero h = absurd (h refl)
  group_first left d start (suc k) h =
      let p : suc k - 1 ≡ k = omega arith in
      rw p (ap₂ ◌++◌ (ap (stops g m left d) (omega arith)) (shifted left d start (start + 1) 1 0 k (omega arith)))

  -- a node, and all below it
  pub node_first : (left d n : ℕ) → 1 ≤ left
      → stops g m left d n ≡ stop d n ∷ group_stops g m (left - 1) (suc d) (m (next_at g n) - 1) (children g m d n)
  unfolding stops group_stops
  node_first zero d n h = absurd (omega arith)
  node_first (suc left) d n h = let p : suc left - 1 ≡ left = omega arith in rw p refl

  -- how many are below it
  pub leaf : (d n : ℕ) → m (next_at g n) ≡ 0 → children g m d n ≡ 0
  unfolding children
  leaf d n z = rw (eq-eqb (m (next_at g n)) 0 z) refl

  pub linked : (d n : ℕ) → (m (next_at g n) ≡ 0 → ⊥) → children g m d n ≡ fanout d
  unfolding children
  linked d n o = rw (ne_eqb (m (next_at g n)) 0 o) refl
