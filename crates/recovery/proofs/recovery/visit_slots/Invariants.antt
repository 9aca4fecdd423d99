use Rattle.std.proofs.Common.{◌≡◌, length}
use Rattle.memory.specs.Words.{reads}
use Rattle.tree.specs.Lists.{up_to}
use Rattle.recovery.specs.AllSlots.{walked_slots}
use Rattle.recovery.proofs.Sounds.{slots_from}
use Rattle.recovery.proofs.recovery.visit_slots.Given as goal

-- the walk of all slots goes on as that of the slots from s on
abbrev pub invariant-loop-s : goal.invariant-loop-s
invariant-loop-s l =
    let m = reads l.image in
    (length l.pool ≡ length l.fn.pool) × (walked_slots l.g m (slots_from l.g.slots l.s) l.pool ≡ walked_slots l.g m (up_to l.g.slots) l.fn.pool)
