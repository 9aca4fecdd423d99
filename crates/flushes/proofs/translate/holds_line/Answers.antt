use Rattle.std.proofs.Common.{rules, refl, length, ◌/◌, true, false}
use Rattle.std.proofs.iter.runs.Made.{chains}
use Rattle.std.specs.Prelude.{All, Any, MatchBool}
use Rattle.std.specs.Simd.{first_chunks}
use Rattle.memory.proofs.Laws.{pairs}
use Rattle.flushes.proofs.Passes.{line_is, line_among}
use Rattle.flushes.proofs.translate.holds_line.Goals as goal

pub returns : goal.returns
returns c =
    let ws = c.args.segment.now in
    let ps = first_chunks 2 (length ws / 2) ws in
    let any : MatchBool c.any.result (Any (line_is c.args.line true) ps) (All (line_is c.args.line false) ps) = search (rules, chains) in
    line_among c.any.result c.args.line (pairs ws refl) any
