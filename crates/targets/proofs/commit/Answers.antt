use Rattle.std.proofs.Common.{◌∙◌, arith}
use Rattle.std.proofs.lemmas.Result.{err_from_is_err_and}
use Rattle.operations.specs.Ends.{state}
use Rattle.targets.proofs.TargetsEndings.{wanted_where, aimed_at, writer_asks, on_commit, aim_bad, aim_done, bit_words}
use Rattle.targets.proofs.commit.Goals as goal

pub returns-in_err-g : goal.returns-in_err-g
returns-in_err-g c pool ws e =
    let p = err_from_is_err_and c.from_residual.result c.from_residual.ensures.1 in
    rw (p.1, p.2) (aim_bad (on_commit (state _ pool ws) c.args.script.now c.args.head) c.args.state e c.take_aim.ensures (c.filled.ensures ∙ wanted_where _ _) c.in_err-g.was)

pub put_commit-requires : goal.put_commit-requires
put_commit-requires c = writer_asks (aimed_at _ c.args.script.now _ _ _ c.take_aim.ensures (c.filled.ensures ∙ wanted_where _ _) c.in_ok-g.was) _ (omega arith)

pub returns : goal.returns
returns c pool ws e =
    let a = c.args in
    let p = aimed_at a.image.now a.script.now a.head _ _ c.take_aim.ensures (c.filled.ensures ∙ wanted_where _ _) c.in_ok-g.was in
    aim_done (on_commit (state _ pool ws) a.script.now a.head) a.state e p 4 _ (bit_words _) (rw (← p.target) c.put_commit.ensures)
