use Rattle.std.proofs.Common.{refl}
use Rattle.tree.specs.Groups.{is_empty}
use Rattle.groups.proofs.group.is_empty.Goals as goal

pub returns : goal.returns
unfolding is_empty
returns c = rw (c.next_of.ensures, c.word_of.ensures, c.word_of-2.ensures) refl
