-- What the walks mean: the statements alone.
use Rattle.std.specs.Prelude.{◌≡◌, true, ℕ, ◌<◌, length}
use mathlib.Core.List.{List, Memᴰ}
use Rattle.memory.specs.Words.{reads}
use Rattle.memory.specs.Laws.{Fit}
use Rattle.tree.specs.declared.layout.Geometry.{Geometry}
use Rattle.tree.specs.Layout.{map_words}
use Rattle.tree.specs.Subtree.{tree, nodes_of, listing}
use Rattle.tree.specs.Check.{is_sound_tree}
use Rattle.tree.specs.Pool.{unmark_all, clear_map, map_of}
use Rattle.visits.specs.Walk.{kept, walked_slot}
use Rattle.visits.specs.Marked.{without_marked, held_below}

pub record WalkLaws (g : Geometry) (image : List ℕ) : Type 0 where
  -- a slot's tree is walked through exactly if no node is malformed or met twice, and then exactly its nodes are marked
  pub slot : (s : ℕ) → walked_slot g (reads image) s (clear_map (map_words g))
      ≡ kept (is_sound_tree g (reads image) s) (map_of g (nodes_of (tree g (reads image) s)))
  -- with the map of a sound tree, the frames of the marked nodes are those listed
  pub count : (s : ℕ) → is_sound_tree g (reads image) s ≡ true
      → held_below g (reads image) (map_of g (nodes_of (tree g (reads image) s))) g.nodes ≡ length (listing g (reads image) s)
  -- with the map of some nodes of the pool, taking the marked ones out frees exactly these
  pub free : (pool ns : List ℕ) → length pool ≡ map_words g → Fit pool → ((n : ℕ) → Memᴰ n ns → n < g.nodes)
      → without_marked pool (map_of g ns) ≡ unmark_all pool ns
