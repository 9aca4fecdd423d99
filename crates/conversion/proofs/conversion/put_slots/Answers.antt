use Rattle.std.proofs.Common.{arith, length-set}
use Rattle.fingerprints.proofs.Filled.{filled_to, filled_more}
use Rattle.conversion.proofs.Words.{slot_reel, slot_root}
use Rattle.conversion.proofs.conversion.put_slots.Goals as goal

pub loop-s-preserved : goal.loop-s-preserved
loop-s-preserved c =
    let l = c.loop-s in
    let low = c.loop-s-test.true in (
      simp length-set l.invariant.0,
      λ e w.
          filled_more (omega arith) (omega arith) (slot_root e _ _ l.s low c.root_of-root.ensures _ c.root_at.ensures)
          (filled_more (omega arith) (omega arith)
          (slot_reel e _ _ l.s low c.root_of-root.ensures _ c.reel_at.ensures c.reel_of.ensures c.or_zero.ensures)
          (filled_to c.reel_at.ensures (l.invariant.1 e w))),
    )

pub returns : goal.returns
returns c e w = filled_to (omega arith) (c.loop-s.invariant.1 e w)
