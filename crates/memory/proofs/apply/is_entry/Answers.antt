use Rattle.std.proofs.Common.{arith}
use Rattle.memory.proofs.Passes.{barrier_entry, flush_entry, store_entry}
use Rattle.memory.proofs.apply.is_entry.Goals as goal

pub returns-in-18446744073709551615 : goal.returns-in-18446744073709551615
returns-in-18446744073709551615 c = barrier_entry _ _ _ c.in-18446744073709551615.is

pub returns-in-18446744073709551614 : goal.returns-in-18446744073709551614
returns-in-18446744073709551614 c = flush_entry _ _ _ c.in-18446744073709551614.is

pub returns-in_default : goal.returns-in_default
returns-in_default c = store_entry _ _ _ (λ q. omega arith) (λ q. omega arith)
