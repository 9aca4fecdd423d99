use Rattle.std.proofs.Common.{rules, refl, ◌∙◌}
use Rattle.pool.proofs.PoolLoops.{marks, run_none, run_more}
use Rattle.pool.proofs.pool_map.mark_run.Goals as goal

pub loop-n-init : goal.loop-n-init
loop-n-init c = (refl, run_none marks _ _)

pub loop-n-preserved : goal.loop-n-preserved
loop-n-preserved c =
    let l = c.loop-n in
    (c.mark.auto.pool ∙ l.invariant.0, c.mark.ensures ∙ run_more marks l.n (search rules) l.invariant.1)
