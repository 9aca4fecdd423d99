use Rattle.std.proofs.Common.{rules, arith, ◌<◌}
use lib.Count.{count_trailing_zeros}
use Rattle.memory.proofs.Laws.{lowest_in, lowest_set, lowest_taken}
use Rattle.tree.proofs.Fingerprints.{fingerprint_laws}
use Rattle.nodes.proofs.Places.{seek_none, seek_all, seek_found, seek_on, seek_end}
use Rattle.nodes.proofs.place.found_place.Goals as goal

pub has_print-requires : goal.has_print-requires
has_print-requires c = (search rules, search rules, rw c.requires.2 (fingerprint_laws.rule_fits _ _))

pub returns-then-not-has_print : goal.returns-then-not-has_print
returns-then-not-has_print c = seek_none _ _ _ _ _ c.requires.2 (c.has_print.ensures c.if-not-has_print.true)

pub candidates-left-requires : goal.candidates-left-requires
candidates-left-requires c = (search rules, search rules, rw c.requires.2 (fingerprint_laws.rule_fits _ _))

pub loop-left-init : goal.loop-left-init
loop-left-init c = seek_all _ _ _ _ _ _ c.candidates-left.type_inv c.requires.2 c.candidates-left.ensures

-- the bit that is taken is a place's
pub is_match-requires : goal.is_match-requires
is_match-requires c =
    let l = c.loop-left in
    let low : count_trailing_zeros 64 l.left < 64 = lowest_in _ c.loop-left-test.true l.invariant.fits in (
      search rules,
      search rules,
      omega arith,
      c.word_of-set.ensures,
      l.invariant.print _ low (lowest_set _ c.loop-left-test.true l.invariant.fits),
    )

-- and what is left is less without it
pub loop-left-smaller-then-is_match-p : goal.loop-left-smaller-then-is_match-p
loop-left-smaller-then-is_match-p c = rw c.without_bit-left.ensures (lowest_taken _ c.loop-left-test.true c.loop-left.invariant.fits)

pub loop-left-preserved-then-is_match-p : goal.loop-left-preserved-then-is_match-p
loop-left-preserved-then-is_match-p c = rw c.without_bit-left.ensures (seek_found _ _ _ _ _ _ _ c.loop-left.invariant c.is_match.ensures c.if-is_match-p.true)

pub loop-left-smaller : goal.loop-left-smaller
loop-left-smaller c = rw c.without_bit-left.ensures (lowest_taken _ c.loop-left-test.true c.loop-left.invariant.fits)

pub loop-left-preserved : goal.loop-left-preserved
loop-left-preserved c = rw c.without_bit-left.ensures (seek_on _ _ _ _ _ _ _ c.loop-left.invariant c.is_match.ensures c.if-is_match-p.false)

pub returns : goal.returns
returns c = seek_end _ _ _ _ _ _ c.loop-left-test.false c.loop-left.invariant
