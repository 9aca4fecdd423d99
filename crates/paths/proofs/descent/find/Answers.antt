use Rattle.std.proofs.Common.{arith}
use Rattle.std.proofs.lemmas.Result.{err_from_is_err_and}
use Rattle.paths.proofs.Trails.{trail_says, found_malformed, found_end}
use Rattle.paths.proofs.descent.find.Goals as goal

pub returns-in_err-trail : goal.returns-in_err-trail
returns-in_err-trail c =
    let p = err_from_is_err_and c.from_residual.result c.from_residual.ensures.1 in
    rw p.1 (found_malformed _ _ _ _ (trail_says _ _ _ _ _ c.walk_from.ensures c.in_err-trail.was))

-- the walk has come to the path's end
pub overflow_add-result : goal.overflow_add-result
overflow_add-result c =
    let end = trail_says _ _ _ _ _ c.walk_from.ensures c.in_ok-trail.was in omega (arith, end.level, end.on_path_lem.few)

pub returns : goal.returns
returns c = found_end _ _ _ _ (trail_says _ _ _ _ _ c.walk_from.ensures c.in_ok-trail.was)
