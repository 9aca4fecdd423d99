use Rattle.std.proofs.Common.{sym, ◌∙◌, arith}
use Rattle.fingerprints.proofs.Filled.{filled_to}
use Rattle.conversion.proofs.Words.{zeros_within, unreached_words}
use Rattle.conversion.proofs.Marks.{marks_long, marks_reached, reached_with}
use Rattle.conversion.proofs.conversion.put_node.Goals as goal

pub is_used-requires : goal.is_used-requires
is_used-requires c = omega (arith, marks_long _ _ _ c.requires.2 c.requires.1)

pub put_head-requires : goal.put_head-requires
put_head-requires c =
    (c.requires.0, reached_with _ _ _ c.requires.2 c.requires.1 c.is_used.ensures c.if-is_used.true c.word_of-set.ensures, c.requires.3.long)

pub put_prints-requires : goal.put_prints-requires
put_prints-requires c = (
  c.requires.0,
  reached_with _ _ _ c.requires.2 c.requires.1 c.is_used.ensures c.if-is_used.true c.word_of-set.ensures,
  c.put_head.ensures _ c.requires.3,
)

pub put_frames-requires : goal.put_frames-requires
put_frames-requires c = (
  c.requires.0,
  reached_with _ _ _ c.requires.2 c.requires.1 c.is_used.ensures c.if-is_used.true c.word_of-set.ensures,
  c.put_prints.ensures.long,
)

pub returns-then-is_used : goal.returns-then-is_used
returns-then-is_used c = c.put_frames.ensures _ c.put_prints.ensures

pub returns-else-is_used : goal.returns-else-is_used
returns-else-is_used c =
    let at = c.node_at-at.ensures in
    let unreached = sym (marks_reached _ _ _ c.requires.2 c.requires.1 c.is_used.ensures) ∙ c.if-is_used.false in
    filled_to (omega arith)
    (c.put_zeros.ensures _ _ (zeros_within (omega arith) (omega arith) (unreached_words _ _ _ _ _ at unreached)) (filled_to at c.requires.3))
