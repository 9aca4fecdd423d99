use Rattle.std.proofs.Common.{arith}
use Rattle.fingerprints.proofs.Folds.{begun, entry_inside, folded_step}
use Rattle.fingerprints.proofs.fingerprint.fold_by.Goals as goal

pub loop-k-init : goal.loop-k-init
loop-k-init g c = (omega arith, begun _ _)

pub entry-h-requires : goal.entry-h-requires
entry-h-requires g c = entry_inside _ _ c.loop-k.invariant.0 c.byte_of.ensures

pub loop-k-preserved : goal.loop-k-preserved
loop-k-preserved g c = (c.entry-h.ensures.1, folded_step _ _ _ c.loop-k.invariant.1 c.byte_of.ensures c.entry-h.ensures.0)

pub entry-h-requires-in-loop-k-2 : goal.entry-h-requires-in-loop-k-2
entry-h-requires-in-loop-k-2 g c = entry_inside _ _ c.loop-k-2.invariant.0 c.byte_of-in-loop-k-2.ensures

pub loop-k-2-preserved : goal.loop-k-2-preserved
loop-k-2-preserved g c =
    let e = c.entry-h-in-loop-k-2.ensures in
    (e.1, folded_step _ _ _ c.loop-k-2.invariant.1 c.byte_of-in-loop-k-2.ensures e.0)
