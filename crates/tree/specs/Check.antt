-- Soundness as the operations compute it; Laws.antt states that this decides `Sound`.
use Rattle.std.specs.Prelude.{Bool, false, ◌&&◌, List, ℕ, length}
use Rattle.std.proofs.Math.Option.{Option, none, some}
use Rattle.memory.specs.Words.{Memory}
use Rattle.tree.specs.Test.{eq, ◌and◌, holds}
use Rattle.tree.specs.Lists.{every, distinct}
use Rattle.tree.specs.declared.layout.Geometry.{Geometry}
use Rattle.tree.specs.Layout.{reel_at}
use Rattle.tree.specs.Fingerprint.{Rule}
use Rattle.tree.specs.Node.{well_formed, frame}
use Rattle.tree.specs.Slots.{filled_slots}
use Rattle.tree.specs.declared.path.Spot.{Spot}
use Rattle.tree.specs.Lookup.{find}
use Rattle.tree.specs.Subtree.{Visit, tree, all_trees, held_places}

-- an answer of the lookup is this place
abbrev pub is_at : ℕ → ℕ → Option Spot → Bool
is_at n p none = false
is_at n p (some t) = holds (eq t.node n and eq t.place p)

module _ (g : Geometry) (m : Memory) where
  -- no node is malformed, and none is met twice
  unfoldable pub walkable : List Visit → Bool
  walkable vs = every (λ v. well_formed g m (length v.way) v.node) vs && distinct (λ v. v.node) vs

  -- what List, Retire and Tidy test of a reel's slot
  unfoldable pub is_sound_tree : ℕ → Bool
  is_sound_tree s = walkable (tree g m s)

module _ (r : Rule) (g : Geometry) (m : Memory) where
  -- each frame held in a node is where the lookup from the slot finds it: on its path, once, with its fingerprint
  unfoldable pub in_place : ℕ → Visit → Bool
  in_place s v = every (λ p. is_at v.node p (find r g m s (frame g m v.node p))) (held_places g m v.node)

  unfoldable pub is_sound : Bool
  is_sound =
      walkable g m (all_trees g m)
      && distinct (λ s. m (reel_at s)) (filled_slots g m)
      && every (λ s. every (in_place s) (tree g m s)) (filled_slots g m)
