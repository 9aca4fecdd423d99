use Rattle.std.proofs.Common.{rules, refl, ◌∙◌}
use Rattle.pool.proofs.PoolLoops.{unmarks, run_none, run_more}
use Rattle.pool.proofs.pool_map.unmark_run.Goals as goal

pub loop-n-init : goal.loop-n-init
loop-n-init c = (refl, run_none unmarks _ _)

pub loop-n-preserved : goal.loop-n-preserved
loop-n-preserved c =
    let l = c.loop-n in
    (c.unmark.auto.pool ∙ l.invariant.0, c.unmark.ensures ∙ run_more unmarks l.n (search rules) l.invariant.1)
