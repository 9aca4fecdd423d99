-- The map of the nodes reached: a node of the pool is marked exactly if it is reached.
use mathlib.Core.Path.{◌≡◌, refl, sym, ◌∙◌, ap}
use mathlib.Core.Bool.{Bool, true, ◌||◌, or-false}
use mathlib.Core.List.{List, [], ◌∷◌, map}
use mathlib.Core.Logic.{inl}
use Prim.Native.Nat.{ℕ, ◌*◌, ◌<◌}
use native.Mathlib.Decide.{ℕ_discrete}
use lib.ListN.{length}
use borrow.Author.Tests.{eq-eqb, ne_eqb}
use Rattle.memory.specs.Words.{Memory}
use Rattle.tree.specs.declared.layout.Geometry.{Geometry}
use Rattle.tree.specs.Lists.{has_key}
use Rattle.tree.specs.Layout.{map_words, set_at}
use Rattle.tree.specs.Subtree.{Visit, all_trees, nodes_of}
use Rattle.tree.specs.Pool.{used, mark, mark_all, clear_map, map_of}
use Rattle.tree.specs.Convert.{is_reached}
use Rattle.tree.proofs.Cases.{or_right}
use Rattle.conversion.specs.Written.{ReachedWith}
use Rattle.tree.proofs.Pool.{pool_laws, mark_other}

-- the nodes of a walk marked, inside the map or not: of a node inside it, whether it was marked or is among them
walk_marked : (vs : List Visit) (pool : List ℕ) (k : ℕ) → k < 64 * length pool
    → used (mark_all pool (map (λ v. v.node) vs)) k ≡ used pool k || has_key (λ v. v.node) k vs
unfolding mark_all has_key
walk_marked [] pool k h = sym (or-false (used pool k))
walk_marked (v ∷ vs) pool k h =
    walk_marked vs (mark pool v.node) k (rw (pool_laws.length_mark pool v.node) h)
    ∙ elim (ℕ_discrete k v.node) [
      | yes q ↦ rw ((pool_laws.marks pool v.node k (rw q at h)).1 (inl q), eq-eqb v.node k (sym q))
          (sym (or_right (used pool k) refl))
      | no d ↦ rw (mark_other pool v.node k d, ne_eqb v.node k (λ q. d (sym q))) refl
    ]

module _ (g : Geometry) (m : Memory) (n : ℕ) (h : n < g.nodes)
    {marks : List ℕ} (of : marks ≡ map_of g (nodes_of (all_trees g m))) where
  -- it has a bit in the map
  pub marks_long : n < 64 * length marks
  marks_long = rw (of, pool_laws.length-map g (nodes_of (all_trees g m))) (pool_laws.inside g n h)

  pub marks_reached : {b : Bool} → b ≡ used marks n → b ≡ is_reached g m n
  unfolding map_of nodes_of is_reached
  marks_reached e =
      e
      ∙ ap (λ map. used map n) of
      ∙ walk_marked (all_trees g m) (clear_map (map_words g)) n (rw (pool_laws.length_clear (map_words g)) (pool_laws.inside g n h))
      ∙ rw (pool_laws.clear (map_words g) n) refl

  -- a marked node is reached, with its set word
  pub reached_with : {b : Bool} → b ≡ used marks n → b ≡ true → {set : ℕ} → set ≡ m (set_at g n) → ReachedWith g m n set
  reached_with e t q = record { inside = h; reached = sym (marks_reached e) ∙ t; set_word = q }
