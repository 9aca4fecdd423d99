use Rattle.std.proofs.Common.{rules}
use Rattle.claims.proofs.Claiming.{needs_few}
use Rattle.claims.proofs.claim.run_for.Goals as goal

pub free_run-requires : goal.free_run-requires
free_run-requires c =
    let few = needs_few c.args.room in
    let e = c.nodes_for-count.ensures in
    search rules
