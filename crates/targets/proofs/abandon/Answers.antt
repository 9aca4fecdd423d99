use Rattle.std.proofs.Common.{arith}
use Rattle.std.proofs.lemmas.Result.{err_from_is_err_and}
use Rattle.operations.specs.Ends.{state}
use Rattle.targets.proofs.TargetsEndings.{aimed_at, writer_asks, on_abandon, aim_bad, aim_done, bit_words}
use Rattle.targets.proofs.abandon.Goals as goal

pub returns-in_err-g : goal.returns-in_err-g
returns-in_err-g c pool ws e =
    let p = err_from_is_err_and c.from_residual.result c.from_residual.ensures.1 in
    rw (p.1, p.2) (aim_bad (on_abandon (state _ pool ws) c.args.script.now c.args.head) c.args.state e c.take_aim.ensures c.claimed_or_filled.ensures c.in_err-g.was)

pub put_abandon-requires : goal.put_abandon-requires
put_abandon-requires c = writer_asks (aimed_at _ c.args.script.now _ _ _ c.take_aim.ensures c.claimed_or_filled.ensures c.in_ok-g.was) _ (omega arith)

pub returns : goal.returns
returns c pool ws e =
    let a = c.args in
    let p = aimed_at a.image.now a.script.now a.head _ _ c.take_aim.ensures c.claimed_or_filled.ensures c.in_ok-g.was in
    aim_done (on_abandon (state _ pool ws) a.script.now a.head) a.state e p 4 _ (bit_words _) (rw (← p.target) c.put_abandon.ensures)
