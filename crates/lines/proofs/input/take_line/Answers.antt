use Rattle.std.proofs.Common.{◌+◌, ◌-◌, length, drop, arith, length-drop}
use lib.Seq.{take_all}
use Rattle.lines.proofs.Collect.{newline_at, takes_all, takes_some}
use Rattle.lines.proofs.input.take_line.Goals as goal

pub returns-in_default : goal.returns-in_default
returns-in_default c = takes_all _ _ _ (newline_at _ _ c.in_default.ensures) c.keep.ensures

pub returns : goal.returns
returns c =
    let piece = c.args.piece.now in
    let behind = c.in-Some.end + 1 in
    let rest = take_all (length piece - behind) (drop behind piece) (omega (arith, length-drop behind piece)) in
    takes_some _ _ _ _ _ (newline_at _ _ c.in-Some.ensures) c.keep-2.ensures rest
