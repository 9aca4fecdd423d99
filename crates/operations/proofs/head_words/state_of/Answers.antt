use Rattle.std.proofs.Common.{refl, sym, ◌∙◌}
use Rattle.operations.proofs.HeadRecords.{state_read, no_head}
use Rattle.operations.proofs.head_words.state_of.Goals as goal

pub returns-then-head : goal.returns-then-head
returns-then-head c = no_head c.args.words.now _ c.if-head.true

pub returns : goal.returns
returns c = c.read_head.ensures ∙ sym (state_read c.args.words.now _ _ refl c.if-head.false)
