-- The head number of an operation that is answered 0 is one of the heads': its record may be written.
use mathlib.Core.Path.{◌≡◌, refl, sym, ◌∙◌}
use Prim.Native.Nat.{ℕ, ◌<◌}
use Rattle.std.specs.Prelude.{Result, Ok, Err}
use native.Mathlib.Omega.{arith}
use Rattle.book.specs.Heads.{head_count}
use Rattle.book.specs.Refusals.{refusal}
use Rattle.book.specs.Checks.{refusals}
use Rattle.book.specs.State.{State, Operation, claim, fill, commit, abandon}
use Rattle.book.proofs.Refusals.{passes}
use Rattle.book.proofs.Performed.{answer_is}
use Rattle.operations.specs.declared.answer.Refusal.{Refusal}
use Rattle.operations.specs.declared.answer.HeadDone.{HeadDone}
use Rattle.operations.specs.HeadLists.{head_answer_of, HeadInside}
use Rattle.operations.specs.Ends.{Buffers, found, ends}

-- the operations of head h
pub data OfHead (h : ℕ) : Operation → Type 0 where
  claims : {map script reel f : ℕ} → OfHead h (claim map script h reel f)
  fills : {script : ℕ} → OfHead h (fill script h)
  commits : {script : ℕ} → OfHead h (commit script h)
  abandons : {script : ℕ} → OfHead h (abandon script h)

-- none of their tests holds, so the fifth, 11, does not
passed_11 : {h : ℕ} {op : Operation} → OfHead h op → (s : State) → refusal (refusals op s) ≡ 0 → h < head_count
unfolding refusals
passed_11 {h} (claims {map} {script} {reel} {f}) s e = (passes (refusals (claim map script h reel f) s) (omega arith) e).1.1.1.1.0
passed_11 {h} (fills {script}) s e = (passes (refusals (fill script h) s) (omega arith) e).1.1.1.1.0
passed_11 {h} (commits {script}) s e = (passes (refusals (commit script h) s) (omega arith) e).1.1.1.1.0
passed_11 {h} (abandons {script}) s e = (passes (refusals (abandon script h) s) (omega arith) e).1.1.1.1.0

pub ends_answer : (op : Operation) (s : State) (b : Buffers) → (ends op s b).answer ≡ refusal (refusals op s)
unfolding ends found
ends_answer op s b = answer_is op s

pub head_below : {h : ℕ} {op : Operation} → OfHead h op → (s : State) (b : Buffers) → (ends op s b).answer ≡ 0 → h < head_count
head_below {op = op} o s b e = passed_11 o s (sym (ends_answer op s b) ∙ e)

pub head_inside : (h : ℕ) (r : Result HeadDone Refusal) → (head_answer_of r ≡ 0 → h < head_count) → HeadInside h r
head_inside h (Ok d) below = below refl
head_inside h (Err why) below = tt

-- an answer that is what the operation answers: what handing it over asks
pub inside : {h : ℕ} {op : Operation} → OfHead h op → (s : State) (b : Buffers) (r : Result HeadDone Refusal) → head_answer_of r ≡ (ends op s b).answer → HeadInside h r
inside {h} o s b r e = head_inside h r (λ z. head_below o s b (sym e ∙ z))
