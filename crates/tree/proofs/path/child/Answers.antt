use Rattle.std.proofs.Common.{arith}
use Rattle.tree.proofs.PathCode.{child_low, child_high}
use Rattle.tree.proofs.path.child.Goals as goal

pub returns-then-level-le2 : goal.returns-then-level-le2
returns-then-level-le2 c = child_low c.args.level _ (omega (arith, c.if-level-le2.true))

pub returns : goal.returns
returns c = child_high c.args.level _ (omega (arith, c.if-level-le2.false)) c.requires
