use Rattle.flushes.proofs.Passes.{start_barrier, start_store}
use Rattle.flushes.proofs.translate.segment_start.Goals as goal

pub returns-then-index-eq-BARRIER : goal.returns-then-index-eq-BARRIER
returns-then-index-eq-BARRIER c = start_barrier _ _ _ c.if-index-eq-BARRIER.true

pub returns-else-index-eq-BARRIER : goal.returns-else-index-eq-BARRIER
returns-else-index-eq-BARRIER c = start_store _ _ _ c.if-index-eq-BARRIER.false
