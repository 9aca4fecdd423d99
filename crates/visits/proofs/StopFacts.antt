-- The stops of a node and of a group a step at a time, and what is known of them where all are well formed.
use mathlib.Core.Path.{◌≡◌, sym, ◌∙◌}
use mathlib.Core.Bool.{true}
use mathlib.Core.Logic.{◌≢◌}
use mathlib.Core.List.{◌∷◌}
use Prim.Native.Nat.{ℕ, suc, ◌+◌, ◌-◌, ◌≤◌, ◌<◌}
use native.Mathlib.Omega.{arith}
use lib.ListN.{length}
use Rattle.memory.specs.Words.{Memory}
use Rattle.tree.specs.declared.layout.Geometry.{Geometry}
use Rattle.tree.specs.Lists.{every}
use Rattle.tree.specs.Layout.{next_at}
use Rattle.tree.specs.Path.{levels, fanout}
use Rattle.tree.specs.Node.{well_formed}
use Rattle.tree.specs.Subtree.{children, tree}
use Rattle.tree.specs.Check.{walkable, is_sound_tree}
use Rattle.tree.specs.Laws.{WellFormed}
use Rattle.tree.proofs.Nodes.{children_inside}
use Rattle.tree.proofs.Laws.{node_laws}
use Rattle.tree.proofs.Cases.{and-true}
use Rattle.tree.proofs.Lists.{every_append, every_map}
use Rattle.visits.specs.Walk.{stop, stops, group_stops, formed_at}
use Rattle.visits.proofs.Stops.{stop_of, slot_stops, slot_stops_lem, group_first, node_first, linked}

module _ (g : Geometry) (m : Memory) where
  -- of a node, levels left: itself, then those of its children as a group
  pub node_next : (left n : ℕ) → 1 ≤ left → left ≤ 32
      → stops g m left (levels - left) n
      ≡ stop (levels - left) n ∷ group_stops g m (left - 1) (levels - (left - 1)) (m (next_at g n) - 1) (children g m (levels - left) n)
  node_next left n l h = let deeper : levels - (left - 1) ≡ suc (levels - left) = omega arith in rw deeper (node_first g m left (levels - left) n l)

  -- of a group: its first node's, then the others'
  pub group_formed : (left d start count start' count' : ℕ) → 0 < count → start' ≡ start + 1 → count' ≡ count - 1
      → every (formed_at g m) (group_stops g m left d start count) ≡ true
      → (every (formed_at g m) (stops g m left d start) ≡ true) × (every (formed_at g m) (group_stops g m left d start' count') ≡ true)
  group_formed left d start count start' count' h p q e =
      rw (p, q) (and-true _ _ (sym (every_append (formed_at g m) _ _) ∙ rw (group_first g m left d start count (λ z. omega arith)) at e))

  node_formed : (left n : ℕ) → 1 ≤ left → left ≤ 32 → every (formed_at g m) (stops g m left (levels - left) n) ≡ true
      → (well_formed g m (levels - left) n ≡ true)
      × (every (formed_at g m) (group_stops g m (left - 1) (levels - (left - 1)) (m (next_at g n) - 1) (children g m (levels - left) n)) ≡ true)
  unfolding every formed_at
  node_formed left n l h e = and-true (well_formed g m (levels - left) n) _ (rw (node_next left n l h) at e)

  pub node_facts : (left n : ℕ) → 1 ≤ left → left ≤ 32 → every (formed_at g m) (stops g m left (levels - left) n) ≡ true → WellFormed g m (levels - left) n
  node_facts left n l h e = ((node_laws g m).facts (levels - left) n).0 (node_formed left n l h e).0

  -- a node's children, which next names, are a group inside the pool, a level deeper
  pub record Linked (left next : ℕ) : Type 0 where
    pub above : 2 ≤ left
    pub inside : next - 1 + fanout (levels - left) ≤ g.nodes
    pub formed : every (formed_at g m) (group_stops g m (left - 1) (levels - (left - 1)) (next - 1) (fanout (levels - left))) ≡ true

  pub linked_facts : {next : ℕ} (left n : ℕ) → 1 ≤ left → left ≤ 32 → next ≡ m (next_at g n) → next ≢ 0
      → every (formed_at g m) (stops g m left (levels - left) n) ≡ true
      → Linked left next
  linked_facts left n l h q o e =
      let z : m (next_at g n) ≢ 0 = rw q at o in
      let t = children_inside (node_facts left n l h e) z in
      rw q (record { above = omega (arith, t.0); inside = t.1; formed = rw (← linked g m (levels - left) n z) (node_formed left n l h e).1 })

  -- of a slot's tree
  pub sound_stops : (s : ℕ) → is_sound_tree g m s ≡ true → every (formed_at g m) (slot_stops g m s) ≡ true
  unfolding is_sound_tree walkable formed_at
  sound_stops s h =
      rw (slot_stops_lem g m s)
      (every_map (formed_at g m) stop_of (tree g m s) ∙ (and-true (every (λ v. well_formed g m (length v.way) v.node) (tree g m s)) _ h).0)
