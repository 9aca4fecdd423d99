-- What is done with a tree that was checked: its nodes freed, or its frames listed.
use mathlib.Core.Path.{◌≡◌, refl, ◌∙◌, ap}
use mathlib.Core.Bool.{Bool, true, false, not}
use mathlib.Core.List.{List}
use Prim.Native.Nat.{ℕ, ◌≤◌, ◌<◌}
use borrow.Author.Tests.{lt-ltb, le-ltb}
use lib.ListN.{length}
use Rattle.memory.specs.Words.{Memory}
use Rattle.memory.specs.Laws.{Fit}
use Rattle.tree.specs.declared.layout.Geometry.{Geometry}
use Rattle.tree.specs.Layout.{map_words}
use Rattle.tree.specs.Subtree.{tree, nodes_of, listing, listed}
use Rattle.tree.specs.Check.{is_sound_tree}
use Rattle.tree.specs.Pool.{unmark_all, map_of}
use Rattle.std.specs.Prelude.{Ok, Err}
use Rattle.walks.specs.declared.trees.ListError.TheVariants as why
use Rattle.walks.specs.Answers.{listing_from, list_after}
use Rattle.visits.specs.Walk.{kept}
use Rattle.visits.specs.Marked.{without_marked, held_below}
use Rattle.visits.proofs.MarkedNodes.{nodes_inside}
use Rattle.visits.proofs.MarkedNodesCount.{count_law}
use Rattle.visits.proofs.MarkedNodesFree.{free_law}
use Rattle.visits.proofs.Checked.{unsound, sound, marks_tree}

-- ---- its nodes freed

module _ (g : Geometry) (m : Memory) (s : ℕ) (r : Bool) (marks : List ℕ)
    (h : kept r marks ≡ kept (is_sound_tree g m s) (map_of g (nodes_of (tree g m s)))) where
  -- its nodes are taken out of the map
  pub freed : not r ≡ false → (pool : List ℕ) → length pool ≡ map_words g → Fit pool
      → without_marked pool marks ≡ unmark_all pool (nodes_of (tree g m s))
  unfolding is_sound_tree
  freed e pool l fit = rw (marks_tree g m s r marks h e) (free_law g pool (nodes_of (tree g m s)) l fit (nodes_inside g m (tree g m s) (sound g m s r marks h e)))

  -- or it is not, and nothing is listed or freed
  pub none_listed : not r ≡ true → (buffer : List ℕ)
      → (Err why.Malformed ≡ listing_from g m s (length buffer)) × (buffer ≡ list_after g m s buffer)
  unfolding listing_from list_after
  none_listed e buffer = rw (unsound g m s r marks h e) (refl, refl)

-- ---- its frames listed, where there is room

module _ (g : Geometry) (m : Memory) (s : ℕ) (d : is_sound_tree g m s ≡ true) (marks : List ℕ) (is : marks ≡ map_of g (nodes_of (tree g m s)))
    (count : ℕ) (counted : count ≡ held_below g m marks g.nodes) where
  pub all_counted : count ≡ length (listing g m s)
  all_counted = counted ∙ ap (λ p. held_below g m p g.nodes) is ∙ count_law g m s d

  module _ (buffer : List ℕ) where
    pub too_short : length buffer < count → (Err why.Short ≡ listing_from g m s (length buffer)) × (buffer ≡ list_after g m s buffer)
    unfolding listing_from list_after
    too_short h = rw (d, lt-ltb (length buffer) (length (listing g m s)) (rw all_counted at h)) (refl, refl)

    pub all_listed : count ≤ length buffer → (n : ℕ) (list : List ℕ) → n ≡ length (listing g m s) → list ≡ listed (listing g m s) buffer
        → (Ok n ≡ listing_from g m s (length buffer)) × (list ≡ list_after g m s buffer)
    unfolding listing_from list_after
    all_listed h n list e q = rw (d, le-ltb (length buffer) (length (listing g m s)) (rw all_counted at h), e, q) (refl, refl)
