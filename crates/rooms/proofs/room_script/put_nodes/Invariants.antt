use Rattle.std.proofs.Common.{◌≡◌, length}
use Rattle.tree.specs.Memory.{written}
use Rattle.rooms.proofs.ClaimingScripts.{new_nodes}
use Rattle.rooms.proofs.room_script.put_nodes.Given as goal

abbrev pub invariant-loop-i : goal.invariant-loop-i
invariant-loop-i l =
    (length l.script ≡ length l.initial.script) × (l.script ≡ written (new_nodes l.g l.level l.start l.i) l.initial.script)
