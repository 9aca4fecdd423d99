use Rattle.std.proofs.Common.{rules, refl, length, ◌/◌, ◌∙◌, true, false}
use Rattle.std.proofs.iter.runs.Made.{chains}
use Rattle.std.specs.Prelude.{All, Any}
use Rattle.std.specs.Simd.{first_chunks}
use Rattle.memory.proofs.Pairs.{pairs}
use Rattle.memory.proofs.Passes.{entry_is, each_entry, no_entry}
use Rattle.memory.proofs.apply.is_script.Goals as goal

pub returns-then-all_entries : goal.returns-then-all_entries
returns-then-all_entries c =
    let ws = c.args.script.now in
    let all : All (entry_is c.args.n true) (first_chunks 2 (length ws / 2) ws) = search (rules, chains) in
    c.is_empty.ensures ∙ rw c.as_chunks.ensures.back_len (each_entry c.args.n (pairs ws refl) all)

pub returns-else-all_entries : goal.returns-else-all_entries
returns-else-all_entries c =
    let ws = c.args.script.now in
    let any : Any (entry_is c.args.n false) (first_chunks 2 (length ws / 2) ws) = search (rules, chains) in
    rw (← no_entry c.args.n (pairs ws refl) any) (search rules)
