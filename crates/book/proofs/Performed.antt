-- What `perform` and `reply` do, by their refusals.
use mathlib.Core.Path.{◌≡◌, refl}
use mathlib.Core.Logic.{◌≢◌}
use borrow.Author.Tests.{eq-eqb, ne_eqb}
use Rattle.book.specs.Refusals.{refusal}
use Rattle.book.specs.State.{State, Operation, leaving}
use Rattle.book.specs.Checks.{refusals}
use Rattle.book.specs.Perform.{granted, leaves, left_by, perform}
use Rattle.book.specs.Table.{Table, Fed, becoming, table_refusals, table_work, reply}

pub answer_is : (op : Operation) (s : State) → (perform op s).answer ≡ refusal (refusals op s)
unfolding perform
answer_is op s = refl

-- an answered operation does its work; a refused one leaves what it leaves
pub work_granted : (op : Operation) (s : State) → (perform op s).answer ≡ 0 → (perform op s).work ≡ granted op s
unfolding perform
work_granted op s h = rw (eq-eqb (refusal (refusals op s)) 0 h)

pub work_refused : (op : Operation) (s : State) → (perform op s).answer ≢ 0 → (perform op s).work ≡ leaving (leaves op s (perform op s).answer)
unfolding perform
work_refused op s h = rw (ne_eqb (refusal (refusals op s)) 0 h)

-- and tells of places left, or not
pub left_granted : (op : Operation) (s : State) → (perform op s).answer ≡ 0 → (perform op s).places_left_lem ≡ left_by op s
unfolding perform
left_granted op s h = rw (eq-eqb (refusal (refusals op s)) 0 h)

pub left_refused : (op : Operation) (s : State) → (perform op s).answer ≢ 0 → (perform op s).places_left_lem ≡ 0
unfolding perform
left_refused op s h = rw (ne_eqb (refusal (refusals op s)) 0 h)

-- the same of the table
pub reply_is : (op : Operation) (fed : Fed) (t : Table) → (reply op fed t).answer ≡ refusal (table_refusals op fed t)
unfolding reply
reply_is op fed t = refl

pub reply_granted : (op : Operation) (fed : Fed) (t : Table) → (reply op fed t).answer ≡ 0 → (reply op fed t).work ≡ table_work op t
unfolding reply
reply_granted op fed t h = rw (eq-eqb (refusal (table_refusals op fed t)) 0 h)

pub reply_refused : (op : Operation) (fed : Fed) (t : Table) → (reply op fed t).answer ≢ 0 → (reply op fed t).work ≡ becoming t
unfolding reply
reply_refused op fed t h = rw (ne_eqb (refusal (table_refusals op fed t)) 0 h)
