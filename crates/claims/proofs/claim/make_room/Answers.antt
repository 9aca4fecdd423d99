use Rattle.claims.proofs.Claiming.{clear_made, scale_made}
use Rattle.claims.proofs.claim.make_room.Goals as goal

pub returns-in-Clear : goal.returns-in-Clear
returns-in-Clear c = let a = c.args in rw c.in-Clear.is (clear_made a.g _ a.start a.pool.now a.script.now)

pub returns-in-ScaleUp : goal.returns-in-ScaleUp
returns-in-ScaleUp c =
    let a = c.args in
    rw c.in-ScaleUp.is (scale_made a.g _ _ a.start a.pool.now a.script.now c.put_scale_up.new.script c.put_scale_up.ensures)
