use Rattle.std.proofs.Common.{◌∙◌, arith}
use Rattle.std.proofs.lemmas.Result.{err_from_is_err_and}
use Rattle.operations.specs.Ends.{state}
use Rattle.targets.proofs.TargetsEndings.{wanted_where, aimed_at, writer_asks, on_fill, aim_bad, aim_done, fill_words}
use Rattle.targets.proofs.fill.Goals as goal

pub returns-in_err-g : goal.returns-in_err-g
returns-in_err-g c pool ws e =
    let p = err_from_is_err_and c.from_residual.result c.from_residual.ensures.1 in
    rw (p.1, p.2) (aim_bad (on_fill (state _ pool ws) c.args.script.now c.args.head) c.args.state e c.take_aim.ensures (c.claimed.ensures ∙ wanted_where _ _) c.in_err-g.was)

pub put_fill-requires : goal.put_fill-requires
put_fill-requires c = writer_asks (aimed_at _ c.args.script.now _ _ _ c.take_aim.ensures (c.claimed.ensures ∙ wanted_where _ _) c.in_ok-g.was) _ (omega arith)

pub returns : goal.returns
returns c pool ws e =
    let a = c.args in
    let p = aimed_at a.image.now a.script.now a.head _ _ c.take_aim.ensures (c.claimed.ensures ∙ wanted_where _ _) c.in_ok-g.was in
    rw p.target (aim_done (on_fill (state _ pool ws) a.script.now a.head) a.state e p 8 _ (fill_words _ _ _ _) (rw (← p.target) c.put_fill.ensures))
