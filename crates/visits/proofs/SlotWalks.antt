-- A slot's walk decides that its tree is sound, and leaves the map of its nodes.
use mathlib.Core.Path.{◌≡◌, refl, sym, ◌∙◌, ap, ap₂}
use mathlib.Core.Bool.{Bool, true, false, cond, ◌&&◌}
use mathlib.Core.Logic.{inl, inr}
use mathlib.Core.Option.{none, some}
use mathlib.Core.List.Memᴰ
use mathlib.Core.List.{List, map, map-map, Memᴰ}
use Prim.Native.Nat.{ℕ, ◌*◌, ◌<◌}
use lib.ListN.{length}
use Rattle.memory.specs.Words.{Memory, reads}
use Rattle.tree.specs.Lists.{every, distinct}
use Rattle.tree.specs.declared.layout.Geometry.{Geometry}
use Rattle.tree.specs.Layout.{map_words}
use Rattle.tree.specs.Node.{well_formed}
use Rattle.tree.specs.Subtree.{Visit, nodes_of, tree}
use Rattle.tree.specs.Check.{walkable, is_sound_tree}
use Rattle.tree.specs.Pool.{clear_map, map_of}
use Rattle.tree.proofs.Cases.{test, none_some, true_and}
use Rattle.tree.proofs.Lists.{every_at, every_map}
use Rattle.tree.proofs.Distinct.{made_distinct}
use Rattle.tree.proofs.Laws.{node_laws, pool_laws}
use Rattle.visits.specs.Walk.{Stop, formed_at, kept, walked_slot}
use Rattle.visits.proofs.Stops.{stop_of, slot_stops, slot_stops_lem}
use Rattle.visits.proofs.Walked.{met, walked_tests, met_once, met_clear}

module _ (g : Geometry) (m : Memory) where
  abbrev pub is_formed : Visit → Bool
  is_formed v = well_formed g m (length v.way) v.node

  -- well-formed nodes are inside the pool
  inside : (vs : List Visit) → every is_formed vs ≡ true → (x : Stop) → Memᴰ x (map stop_of vs) → x.node < g.nodes
  inside vs h x z =
      let t = Memᴰ.of_map stop_of vs z in
      rw (← ap (λ y. y.node) t.2) (((node_laws g m).facts (length t.0.way) t.0.node).0 (every_at is_formed h t.1)).inside

  -- a walk over such from a clear map on
  met_formed : (vs : List Visit) → every is_formed vs ≡ true
      → met (map stop_of vs) (clear_map (map_words g)) ≡ kept (distinct (λ v. v.node) vs) (map_of g (nodes_of vs))
  unfolding nodes_of
  met_formed vs h =
      met_clear g (map stop_of vs) (inside vs h)
      ∙ ap₂ (λ d ns. kept d (map_of g ns)) (made_distinct (λ x. x.node) stop_of vs) (map-map (λ x. x.node) stop_of vs)

  -- with a test that asks for them
  pub walk_tested : (b : Bool) (vs : List Visit) → (b ≡ true → every is_formed vs ≡ true)
      → cond b (met (map stop_of vs) (clear_map (map_words g))) none ≡ kept (b && distinct (λ v. v.node) vs) (map_of g (nodes_of vs))
  walk_tested true vs h = met_formed vs (h refl)
  walk_tested false vs h = refl

  -- ---- one slot

  pub nodes_formed : (s : ℕ) → every (formed_at g m) (slot_stops g m s) ≡ every is_formed (tree g m s)
  unfolding formed_at
  nodes_formed s = rw (slot_stops_lem g m s) (every_map (formed_at g m) stop_of (tree g m s))

  walked_slot_lem : (s : ℕ) → walked_slot g m s (clear_map (map_words g)) ≡ kept (is_sound_tree g m s) (map_of g (nodes_of (tree g m s)))
  unfolding walked_slot is_sound_tree walkable
  walked_slot_lem s =
      rw (walked_tests (formed_at g m) (slot_stops g m s) (clear_map (map_words g)), nodes_formed s, slot_stops_lem g m s)
      (walk_tested (every is_formed (tree g m s)) (tree g m s) (λ e. e))

  -- from any map on, a tree that is walked through is sound
  pub walked_sound : (s : ℕ) (pool : List ℕ) {pool' : List ℕ} → length pool ≡ map_words g → some pool' ≡ walked_slot g m s pool → is_sound_tree g m s ≡ true
  unfolding walked_slot is_sound_tree walkable
  walked_sound s pool h q =
      let vs = tree g m s in
      let e = rw (walked_tests (formed_at g m) (slot_stops g m s) pool, nodes_formed s, slot_stops_lem g m s) at q in
      elim (test (every is_formed vs)) [
        | inl f ↦
            let bits : (x : Stop) → Memᴰ x (map stop_of vs) → x.node < 64 * length pool = λ x z. rw h (pool_laws.inside g x.node (inside vs f x z)) in
            true_and f (sym (made_distinct (λ x. x.node) stop_of vs) ∙ met_once (map stop_of vs) pool bits (rw f at e))
        | inr f ↦ none_some (sym (rw f at e))
      ]

-- ---- the laws

module _ (g : Geometry) (image : List ℕ) where
  pub slot_law : (s : ℕ) → walked_slot g (reads image) s (clear_map (map_words g))
      ≡ kept (is_sound_tree g (reads image) s) (map_of g (nodes_of (tree g (reads image) s)))
  slot_law s = walked_slot_lem g (reads image) s
