use Rattle.std.proofs.Common.{◌-◌, length, drop, arith, length-drop}
use lib.Seq.{take_all}
use Rattle.lines.proofs.Pieces.{takes_to_newline, takes_to_end}
use Rattle.lines.proofs.input.take_piece.Goals as goal

pub returns-in-Some : goal.returns-in-Some
returns-in-Some c =
    let piece = c.args.piece.now in
    let at = c.args.at in
    let left = take_all (length piece - at) (drop at piece) (omega (arith, length-drop at piece)) in
    let w = takes_to_newline piece c.args.line.now _ at _ c.requires.0 _ (rw (left, c.append.ensures, c.new-kept.ensures, c.in-Some.is) at c.take_line-behind.ensures) in
    record { holds = rw (c.copy_from_slice.ensures.after, c.as_slice-bytes.ensures.value) w.holds; has_ended = w.has_ended; goes_on = omega (arith, w.goes_on) }

pub returns-in-None : goal.returns-in-None
returns-in-None c =
    let piece = c.args.piece.now in
    let at = c.args.at in
    let left = take_all (length piece - at) (drop at piece) (omega (arith, length-drop at piece)) in
    rw (c.copy_from_slice.ensures.after, c.as_slice-bytes.ensures.value)
    (takes_to_end _ _ _ _ _ c.requires.0 (rw (left, c.append.ensures, c.new-kept.ensures, c.in-None.is) at c.take_line-behind.ensures))
