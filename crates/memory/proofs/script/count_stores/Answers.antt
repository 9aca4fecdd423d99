use Rattle.std.proofs.Common.{rules, ◌≡◌, refl, length, ◌/◌, ◌∙◌}
use Rattle.std.proofs.iter.runs.Made.{chains}
use Rattle.std.specs.Prelude.{count_by}
use Rattle.std.specs.Simd.{first_chunks}
use Rattle.memory.proofs.Pairs.{pairs}
use Rattle.memory.proofs.Passes.{stores_word, count_pairs}
use Rattle.memory.proofs.script.count_stores.Goals as goal

pub returns : goal.returns
returns c =
    let ws = c.args.script.now in
    let counted : c.count.result ≡ count_by stores_word (first_chunks 2 (length ws / 2) ws) = search (rules, chains) in
    counted ∙ count_pairs (pairs ws refl) (λ k. (c.type_inv.script k).fits)
