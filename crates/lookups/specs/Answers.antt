-- What Has answers: yes or no as the count that is handed back, and the nodes on the frame's path.
use Rattle.std.specs.Prelude.{ℕ, Result, Ok, Err}
use Rattle.book.specs.Perform.{one_if}
use Rattle.operations.specs.declared.answer.Refusal.{Refusal}
use Rattle.lookups.specs.declared.frames.Had.{Had}

abbrev pub yes_of : Result Had Refusal → Result ℕ Refusal
yes_of (Ok had) = Ok (one_if had.yes)
yes_of (Err why) = Err why

-- a refusal has none to tell
abbrev pub nodes_of : Result Had Refusal → ℕ
nodes_of (Ok had) = had.nodes
nodes_of (Err why) = 0
