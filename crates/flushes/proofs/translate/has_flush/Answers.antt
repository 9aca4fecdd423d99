use Rattle.std.proofs.Common.{rules, refl, length, ◌/◌, true, false}
use Rattle.std.proofs.iter.runs.Made.{chains}
use Rattle.std.specs.Prelude.{All, Any, MatchBool}
use Rattle.std.specs.Simd.{first_chunks}
use Rattle.memory.proofs.Laws.{pairs}
use Rattle.flushes.proofs.Passes.{flush_is, flush_in}
use Rattle.flushes.proofs.translate.has_flush.Goals as goal

pub returns : goal.returns
returns c =
    let ws = c.args.script.now in
    let ps = first_chunks 2 (length ws / 2) ws in
    let any : MatchBool c.any.result (Any (flush_is true) ps) (All (flush_is false) ps) = search (rules, chains) in
    flush_in c.any.result (pairs ws refl) any
