use Rattle.std.proofs.Common.{[], refl, rules}
use Rattle.reelbook.proofs.Laws.{count_laws}
use Rattle.bookrun.proofs.in_memory.Book.open.Goals as goal

pub carry_out-requires : goal.carry_out-requires
carry_out-requires c = count_laws.script_inside _ _ _ (λ w. refl) (c.reelbook_open-number.ensures []) (search rules)
