-- What the check of a tree comes to, from what its walk leaves.
use mathlib.Core.Path.{◌≡◌, sym, ◌∙◌, ap}
use mathlib.Core.Bool.{Bool, true, false, not}
use mathlib.Core.List.{List}
use Prim.Native.Nat.{ℕ}
use borrow.Author.Tests.{not-true, not-false}
use Rattle.memory.specs.Words.{Memory, reads}
use Rattle.tree.specs.declared.layout.Geometry.{Geometry}
use Rattle.tree.specs.Layout.{map_words}
use Rattle.tree.specs.Subtree.{tree, nodes_of}
use Rattle.tree.specs.Check.{is_sound_tree}
use Rattle.tree.specs.Pool.{clear_map, map_of}
use Rattle.visits.specs.Walk.{kept, walked_slot}
use Rattle.visits.proofs.SlotWalks.{slot_law}
use Rattle.visits.proofs.Kept.{same_end, same_kept}

-- a slot is walked from a clear map on
pub whole_tree : (g : Geometry) (image : List ℕ) (s : ℕ) (pool : List ℕ) → pool ≡ clear_map (map_words g) → (r : Bool) (marks : List ℕ)
    → kept r marks ≡ walked_slot g (reads image) s pool → kept r marks ≡ kept (is_sound_tree g (reads image) s) (map_of g (nodes_of (tree g (reads image) s)))
whole_tree g image s pool is r marks h = h ∙ ap (walked_slot g (reads image) s) is ∙ slot_law g image s

module _ (g : Geometry) (m : Memory) (s : ℕ) (r : Bool) (marks : List ℕ)
    (h : kept r marks ≡ kept (is_sound_tree g m s) (map_of g (nodes_of (tree g m s)))) where
  -- the walk's answer is the tree's
  pub same_answer : r ≡ is_sound_tree g m s
  same_answer = same_end r (is_sound_tree g m s) marks (map_of g (nodes_of (tree g m s))) h

  pub unsound : not r ≡ true → is_sound_tree g m s ≡ false
  unsound e = sym same_answer ∙ not-true r e

  pub sound : not r ≡ false → is_sound_tree g m s ≡ true
  sound e = sym same_answer ∙ not-false r e

  -- its nodes are marked
  pub marks_tree : not r ≡ false → marks ≡ map_of g (nodes_of (tree g m s))
  marks_tree e = same_kept r (is_sound_tree g m s) marks (map_of g (nodes_of (tree g m s))) h (not-false r e)
