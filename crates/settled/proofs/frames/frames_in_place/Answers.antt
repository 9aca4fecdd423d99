use Rattle.std.proofs.Common.{rules, arith, refl}
use Rattle.memory.specs.Words.{reads}
use Rattle.visits.proofs.StopFacts.{sound_stops}
use Rattle.settled.proofs.Settled.{settled_tree_lem}
use Rattle.settled.proofs.frames.frames_in_place.Goals as goal

pub settled_tree-requires : goal.settled_tree-requires
settled_tree-requires c =
    let pre = c.requires in
    rw c.root_of-root.ensures
    (pre.0, record { formed = record { some_left = omega arith; all_left = omega arith; is = sound_stops _ _ _ pre.2 }; unit = refl }, omega arith, search rules)

pub returns : goal.returns
returns c =
    rw (← settled_tree_lem c.args.g (reads c.args.image.now) c.args.slot c.requires.1 c.requires.2, ← c.root_of-root.ensures) c.settled_tree.ensures
