-- Recovery's walk, over the trees of all filled slots.
use Rattle.std.specs.Prelude.{cond, List, [], ◌∷◌, ℕ, eqb}
use Rattle.std.proofs.Math.Option.{Option, none, some}
use Rattle.memory.specs.Words.{Memory}
use Rattle.tree.specs.declared.layout.Geometry.{Geometry}
use Rattle.tree.specs.Lists.{every}
use Rattle.tree.specs.Layout.{reel_at}
use Rattle.tree.specs.Fingerprint.{rule_of}
use Rattle.tree.specs.Slots.{filled, slot_of}
use Rattle.tree.specs.Subtree.{tree}
use Rattle.tree.specs.Check.{in_place}
use Rattle.visits.specs.Walk.{kept, then_walk, walked_slot}

module _ (g : Geometry) (m : Memory) where
  -- of a filled slot: it is its reel's lowest, its tree is walked, and the lookup finds each frame where it is held
  unfoldable pub walked_reel : (slot : ℕ) → (pool : List ℕ) → Option (List ℕ)
  walked_reel s pool =
      cond (eqb (slot_of g m (m (reel_at s))) s)
      (then_walk (kept (every (in_place (rule_of m) g m s) (tree g m s))) (walked_slot g m s pool)) none

  -- and of slots in turn, those that are filled
  unfoldable pub walked_slots : (slots : List ℕ) → (pool : List ℕ) → Option (List ℕ)
  walked_slots [] pool = some pool
  walked_slots (s ∷ ss) pool = cond (filled m s) (then_walk (walked_slots ss) (walked_reel s pool)) (walked_slots ss pool)
