-- What recovery means: the statements alone.
use Rattle.std.specs.Prelude.{◌≡◌, true, List, ℕ}
use Rattle.memory.specs.Words.{reads}
use Rattle.memory.specs.Script.{stores}
use Rattle.memory.specs.Crash.{apply}
use Rattle.tree.specs.declared.layout.Geometry.{Geometry}
use Rattle.tree.specs.Layout.{map_words, Sized}
use Rattle.tree.specs.Lists.{up_to}
use Rattle.tree.specs.Fingerprint.{rule_of}
use Rattle.tree.specs.Subtree.{all_trees, nodes_of}
use Rattle.tree.specs.Check.{is_sound}
use Rattle.tree.specs.Recovery.{recover_stores}
use Rattle.tree.specs.Pool.{clear_map, map_of}
use Rattle.visits.specs.Walk.{kept}
use Rattle.recovery.specs.AllSlots.{walked_slots}
use Rattle.recovery.specs.Mended.{mended_below}

pub record RecoveryLaws (g : Geometry) (image : List ℕ) : Type 0 where
  -- all slots are walked through exactly if the image is sound, and then exactly the nodes reached are marked
  pub slots : walked_slots g (reads image) (up_to g.slots) (clear_map (map_words g))
      ≡ kept (is_sound (rule_of (reads image)) g (reads image)) (map_of g (nodes_of (all_trees g (reads image))))
  -- with the map of a sound image, mending the marked nodes is what recovery writes
  pub mend : Sized image g → is_sound (rule_of (reads image)) g (reads image) ≡ true
      → mended_below g (map_of g (nodes_of (all_trees g (reads image)))) image g.nodes ≡ apply image (stores (recover_stores g (reads image)))
