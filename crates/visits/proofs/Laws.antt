-- The laws that specs/Laws.antt states, by their name.
use mathlib.Core.List.{List}
use Prim.Native.Nat.{ℕ}
use Rattle.memory.specs.Words.{reads}
use Rattle.tree.specs.declared.layout.Geometry.{Geometry}
use Rattle.visits.specs.Laws.{WalkLaws}
use Rattle.visits.proofs.SlotWalks.{slot_law}
use Rattle.visits.proofs.MarkedNodesCount.{count_law}
use Rattle.visits.proofs.MarkedNodesFree.{free_law}

pub walk_laws : (g : Geometry) (image : List ℕ) → WalkLaws g image
walk_laws g image = record {
  slot = slot_law g image;
  count = count_law g (reads image);
  free = free_law g;
}
