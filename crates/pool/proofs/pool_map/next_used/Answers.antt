use Rattle.std.proofs.Common.{rules, arith, ◌∙◌}
use Rattle.pool.proofs.PoolLoops.{searched, passed_more, passed_all, search_ends}
use Rattle.pool.proofs.pool_map.next_used.Goals as goal

pub returns-then-rest-ne0 : goal.returns-then-rest-ne0
returns-then-rest-ne0 c =
    let l = c.loop-i in
    c.min.ensures ∙ search_ends (searched l.invariant.1 (c.type_inv.pool l.i).fits l.invariant.0) c.if-rest-ne0.true c.args.nodes (search rules)

pub loop-i-preserved : goal.loop-i-preserved
loop-i-preserved c =
    let l = c.loop-i in
    let t = passed_more (searched l.invariant.1 (c.type_inv.pool l.i).fits l.invariant.0) c.if-rest-ne0.false in
    (omega (arith, t.onward), t)

pub returns : goal.returns
returns c = passed_all c.args.nodes c.loop-i.invariant.1 (search rules) (search rules)
