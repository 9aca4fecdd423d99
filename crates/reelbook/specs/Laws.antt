-- What is proved of every end of an operation, for callers: the statements alone. proofs/Laws.antt has the proof.
use Rattle.std.specs.Prelude.{◌≡◌, ℕ, ◌*◌, ◌≤◌, length}
use Rattle.tree.specs.Memory.{segmented}
use Rattle.book.specs.State.{State, Operation, query, list, Work}
use Rattle.operations.specs.Ends.{Buffers, ended_telling, ended, count_in, ends}

-- an operation whose count is that of its script's words
abbrev pub CountsScript : Operation → Type 0
CountsScript op = (w : Work) → count_in op w ≡ 2 * length (segmented w.script)

-- the count that is handed back is inside the buffer that it is about, on any contents: a buffer keeps its length
pub record CountLaws : Type 0 where
  pub script_inside : (op : Operation) (s : State) (b : Buffers) {n k l d : ℕ} {s' : State} {b' : Buffers} → CountsScript op
      → ended_telling n k l d s' b' ≡ ends op s b → length b'.script ≡ length b.script → k ≤ length b'.script
  pub list_inside : (scratch room reel : ℕ) (s : State) (b : Buffers) {n k : ℕ} {s' : State} {b' : Buffers}
      → ended n k s' b' ≡ ends (query (list scratch room reel)) s b → length b'.list ≡ length b.list → k ≤ length b'.list
