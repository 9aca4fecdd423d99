use Rattle.tree.specs.Memory.{reads}
use Rattle.claims.proofs.Claiming.{room_taken}
use Rattle.claims.proofs.claim.take_room.Goals as goal

pub returns : goal.returns
returns c =
    let a = c.args in
    let made = c.make_room-words in
    room_taken a.g (reads a.image.now) a.room a.start a.t a.pool.now a.script.now made.result _
    made.new.pool made.new.script c.put_locate.new.script made.ensures c.locate_then.ensures c.put_locate.ensures
