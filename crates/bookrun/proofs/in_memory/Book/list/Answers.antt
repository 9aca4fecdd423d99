use Rattle.std.proofs.Common.{[], rules}
use Rattle.reelbook.proofs.Laws.{count_laws}
use Rattle.bookrun.proofs.in_memory.Book.list.Goals as goal

-- the frames counted are in the list
pub returns : goal.returns
returns c = count_laws.list_inside _ _ _ _ _ (c.reelbook_list-number.ensures [] []) (search rules)
