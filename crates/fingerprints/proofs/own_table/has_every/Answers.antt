use Rattle.std.proofs.Common.{◌≡◌, ◌*◌, arith}
use Rattle.memory.specs.Words.{reads}
use Rattle.fingerprints.proofs.Flags.{flagged_none, word_more, all_flagged}
use Rattle.fingerprints.proofs.own_table.has_every.Goals as goal

pub loop-word-init : goal.loop-word-init
loop-word-init c = flagged_none _

pub loop-word-preserved : goal.loop-word-preserved
loop-word-preserved c =
    let l = c.loop-word in
    word_more (reads c.args.words.now) 0 l.word-index l.word-index _ (omega arith) (omega arith) (omega arith) c.flag_bytes.ensures l.invariant

pub returns : goal.returns
returns c =
    let l = c.loop-word in
    let e : 8 * l.word-index ≡ 256 = omega arith in
    all_flagged _ _ (rw e at l.invariant) c.all_flagged.ensures
