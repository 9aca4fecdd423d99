-- The step of an operation that only reads: nothing is written.
use mathlib.Core.Path.{◌≡◌, refl}
use mathlib.Core.Logic.{inl, inr}
use mathlib.Core.List.{[]}
use lib.Dec.{eqb}
use Rattle.tree.proofs.Memory.{apply_none, crash_none}
use Rattle.tree.proofs.Cases.{test}
use Rattle.book.specs.State.{State, Operation, query, Query}
use Rattle.book.specs.Perform.{granted}
use Rattle.book.specs.Refusals.{refusal}
use Rattle.book.specs.Table.{Table, Fed, table_refusals, table_work, reply}
use Rattle.book.specs.Agrees.{Agrees}
use Rattle.book.proofs.Showing.{shows_view}
use Rattle.book.proofs.Keeps.{keeps_itself}
use Rattle.book.proofs.Step.{Step}

-- an operation without a script that leaves the state and the table
step_idle : {op : Operation} {s : State} {t : Table} → (granted op s).script ≡ [] → (granted op s).after ≡ s → (table_work op t).after ≡ t → Agrees s t → Step op s t
step_idle {op} {s} {t} p q r a = record {
  final = rw (p, q, r, apply_none s.image) a;
  crash = rw p (λ k im c. rw (crash_none s.image k im c) (inl a.shows));
  keeps = rw p (λ k im c. rw (crash_none s.image k im c) (keeps_itself (shows_view a.shows)));
}

pub step_query : {s : State} {t : Table} → Agrees s t → (q : Query) → Step (query q) s t
unfolding granted table_work
step_query a q = step_idle refl refl refl a

-- the table stays, answered or refused
pub query_after : (q : Query) (x : Fed) (t : Table) → (reply (query q) x t).work.after ≡ t
unfolding reply table_work
query_after q x t = elim (test (eqb (refusal (table_refusals (query q) x t)) 0)) [ inl e ↦ rw e | inr e ↦ rw e ]
