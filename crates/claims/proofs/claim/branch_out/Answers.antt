use Rattle.std.proofs.Common.{◌≤◌, arith, rules}
use Rattle.book.proofs.Inside.{fanout_few}
use Rattle.claims.proofs.Claiming.{branch_made}
use Rattle.claims.proofs.claim.branch_out.Goals as goal

pub put_branch_out-requires : goal.put_branch_out-requires
put_branch_out-requires c =
    let p = c.requires.0 in
    let q = p.2 in
    let few : c.fanout-count.result ≤ 4 = omega (arith, c.fanout-count.ensures, (fanout_few c.args.depth q.1).1) in
    search rules

pub returns : goal.returns
returns c =
    let a = c.args in
    let few : c.fanout-count.result ≤ 4 = omega (arith, c.fanout-count.ensures, (fanout_few a.depth c.requires.0.2.1).1) in
    branch_made a.g a.parent a.depth a.start _ a.pool.now c.mark_run.new.pool a.script.now c.put_branch_out.new.script
    c.fanout-count.ensures few c.mark_run.ensures c.put_branch_out.ensures
