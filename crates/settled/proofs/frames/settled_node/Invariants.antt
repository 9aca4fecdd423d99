use Rattle.std.proofs.Common.{◌≡◌, ◌-◌, ◌^◌, ◌<◌, false, length}
use Rattle.memory.specs.Words.{reads, is_set}
use Rattle.tree.specs.Lists.{every}
use Rattle.tree.specs.Path.{levels}
use Rattle.settled.specs.Settled.{Met, settled_at, settled_node}
use Rattle.visits.specs.Places.{set_places}
use Rattle.settled.proofs.frames.settled_node.Given as goal

abbrev pub invariant-loop-rest : goal.invariant-loop-rest
invariant-loop-rest l =
    let m = reads l.image in
    (l.rest < 2 ^ 64)
    × (every (settled_at l.g m l.t.left (levels - l.t.left) l.t.node l.t.suffix) (set_places l.rest)
    ≡ settled_node l.g m l.t.left (levels - l.t.left) l.t.node l.t.suffix)
    × Met l.g m l.t.node (λ q. is_set l.rest q ≡ false) l.met

abbrev pub decreases-loop-rest : goal.decreases-loop-rest
decreases-loop-rest l = length (set_places l.rest)
