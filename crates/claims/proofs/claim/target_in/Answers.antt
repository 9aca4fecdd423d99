use Rattle.std.proofs.Common.{ap, ◌<◌, arith}
use Rattle.tree.proofs.Laws.{child_laws}
use Rattle.book.proofs.Inside.{fanout_few}
use Rattle.claims.specs.Rooms.{depth_of}
use Rattle.claims.proofs.claim.target_in.Goals as goal

pub overflow_add-below : goal.overflow_add-below
overflow_add-below c =
    let d = c.in-BranchOut.depth in
    let low : d < 31 = omega (arith, ap depth_of c.in-BranchOut.is, c.requires.1) in
    omega (arith, c.child.ensures, child_laws.below d c.args.frame low, (fanout_few d low).1)
