-- What the walk over a tree's nodes asks: the definition's cases, one law for each way through the code.
use mathlib.Core.Path.{◌≡◌, refl, sym, ◌∙◌}
use mathlib.Core.Bool.{Bool, true, false}
use mathlib.Core.Option.{Option, none, some}
use mathlib.Core.List.{List}
use Prim.Native.Nat.{ℕ, suc, ◌+◌, ◌-◌, ◌≤◌}
use Rattle.memory.specs.Words.{Memory}
use Rattle.tree.specs.declared.layout.Geometry.{Geometry}
use Rattle.tree.specs.Layout.{next_at}
use Rattle.tree.specs.Path.{fanout}
use Rattle.tree.specs.Node.{well_formed}
use Rattle.tree.specs.Laws.{WellFormed}
use Rattle.tree.specs.Subtree.{children}
use Rattle.tree.specs.Pool.{used, mark}
use Rattle.tree.proofs.Laws.{node_laws}
use Rattle.visits.specs.Walk.{Stop, stops, group_stops, formed_at, walked, kept, then_walk}
use Rattle.visits.proofs.Walked.{walked_append}
use Rattle.visits.proofs.Stops.{group_empty, group_first, node_first, leaf, linked}

module _ (g : Geometry) (m : Memory) where
  -- ---- a group's nodes in turn: none left, or the walk of the first ends all, or it goes on

  abbrev walk : List Stop → List ℕ → Option (List ℕ)
  walk = walked (formed_at g m)

  module _ (left d start count : ℕ) (pool : List ℕ) where
    pub group_none : count ≡ 0 → some pool ≡ walk (group_stops g m left d start count) pool
    unfolding walked
    group_none e = rw (e, group_empty g m left d start) refl

    module _ (r : Bool) (pool' : List ℕ) (h : count ≡ 0 → ⊥) (first : kept r pool' ≡ walk (stops g m left d start) pool) where
      then_rest : walk (group_stops g m left d start count) pool ≡ then_walk (walk (group_stops g m left d (start + 1) (count - 1))) (kept r pool')
      then_rest = rw (group_first g m left d start count h, first) (walked_append (formed_at g m) (stops g m left d start) (group_stops g m left d (start + 1) (count - 1)) pool)

      pub group_stop : r ≡ false → none ≡ walk (group_stops g m left d start count) pool
      group_stop e = rw (then_rest, e) refl

      pub group_more : r ≡ true → walk (group_stops g m left d start count) pool ≡ walk (group_stops g m left d (start + 1) (count - 1)) pool'
      group_more e = rw (then_rest, e) refl

  -- ---- a node, then all below it

  pub formed_facts : (d n : ℕ) (r : Bool) → r ≡ well_formed g m d n → r ≡ true → WellFormed g m d n
  formed_facts d n r q e = ((node_laws g m).facts d n).0 (sym q ∙ e)

  -- it is malformed, or is met again, or has no children, or has some

  module _ (left d n : ℕ) (pool : List ℕ) (h : 1 ≤ left) (r : Bool) (tested : r ≡ well_formed g m d n) where
    pub node_fails : r ≡ false → none ≡ walk (stops g m left d n) pool
    unfolding walked formed_at
    node_fails e = rw (node_first g m left d n h, ← tested, e) refl

    module _ (e : r ≡ true) (met : Bool) (there : met ≡ used pool n) where
      pub node_met : met ≡ true → none ≡ walk (stops g m left d n) pool
      unfolding walked formed_at
      node_met u = rw (node_first g m left d n h, ← tested, e, ← there, u) refl

      module _ (u : met ≡ false) (pool' : List ℕ) (now : pool' ≡ mark pool n) where
        marked : walk (group_stops g m (left - 1) (suc d) (m (next_at g n) - 1) (children g m d n)) pool' ≡ walk (stops g m left d n) pool
        unfolding walked formed_at
        marked = rw (now, node_first g m left d n h, ← tested, e, ← there, u) refl

        pub node_leaf : {next : ℕ} → next ≡ m (next_at g n) → next ≡ 0 → some pool' ≡ walk (stops g m left d n) pool
        node_leaf q z = rw (← marked, leaf g m d n (sym q ∙ z)) (group_none (left - 1) (suc d) (m (next_at g n) - 1) 0 pool' refl)

        pub node_below : {next : ℕ} (d' count : ℕ) (o : Option (List ℕ)) → next ≡ m (next_at g n) → d' ≡ suc d → count ≡ fanout d → (next ≡ 0 → ⊥)
            → o ≡ walk (group_stops g m (left - 1) d' (next - 1) count) pool' → o ≡ walk (stops g m left d n) pool
        node_below d' count o t q k z below = rw (← marked, linked g m d n (λ y. z (t ∙ y)), ← q, ← k, ← t) below
