use Rattle.std.proofs.lemmas.Result.{err_from_is_err_and}
use Rattle.tree.proofs.Nodes.{some_size}
use Rattle.paths.proofs.RoomSteps.{placement_malformed, placement_end}
use Rattle.paths.proofs.Trails.{trail_says}
use Rattle.paths.proofs.descent.room_for.Goals as goal

pub returns-in_err-trail : goal.returns-in_err-trail
returns-in_err-trail c =
    let p = err_from_is_err_and c.from_residual.result c.from_residual.ensures.1 in
    rw (p.1, p.2) (placement_malformed _ _ _ _ (trail_says _ _ _ _ _ c.walk_from.ensures c.in_err-trail.was))

-- the walk has come to the path's end
pub room_at-vacancy-requires : goal.room_at-vacancy-requires
room_at-vacancy-requires c =
    let end = trail_says _ _ _ _ _ c.walk_from.ensures c.in_ok-trail.was in
    (c.requires.0, end.formed.is.inside, some_size end.formed.is)

pub returns : goal.returns
returns c = placement_end _ _ _ _ (trail_says _ _ _ _ _ c.walk_from.ensures c.in_ok-trail.was) c.room_at-vacancy.ensures c.placement_as.ensures
