use Rattle.std.proofs.Common.{arith, sym, ◌∙◌}
use Rattle.operations.proofs.Passed.{sized_image}
use Rattle.operations.proofs.checks.checks.Goals as goal

pub map_bad-requires : goal.map_bad-requires
map_bad-requires c = (sized_image c.args.image.now c.geometry_in-g.result (sym c.bad_image.ensures ∙ c.if-bad_image.false)).nodes_limit

pub map_bad-requires-2 : goal.map_bad-requires-2
map_bad-requires-2 c = (sized_image c.args.image.now c.geometry_in-g.result (sym c.bad_image.ensures ∙ c.if-bad_image.false)).nodes_limit

pub bad_own-requires : goal.bad_own-requires
bad_own-requires c =
    let s = sized_image c.args.image.now c.geometry_in-g.result (sym c.bad_image.ensures ∙ c.if-bad_image.false) in
    omega (arith, s.words)
