-- The demands, proved: a proof for each statement of specs/Demands.antt, and for those beside it.
use Rattle.book.specs.Demands.{Demand2, Demand3, Placed}
use Rattle.book.specs.Growth.{Growth}
use Rattle.book.specs.PathNodes.{PathNodes}
use Rattle.book.specs.Tidy.{Tidying}
use Rattle.book.specs.OwnTables.{OwnTables}
use Rattle.book.specs.Conversions.{Conversions}
pub use Rattle.book.proofs.Demand1.{demand1}
pub use Rattle.book.proofs.Due.{refusals_due}
pub use Rattle.book.proofs.AsBefore.{claim_as_before}
pub use Rattle.book.proofs.Fixed.{fixed}
pub use Rattle.book.proofs.Scripts.{scripts}
pub use Rattle.book.proofs.CarryOut.{carry_laws}
pub use Rattle.book.proofs.Editions.{editions}
pub use Rattle.book.proofs.Flushing.{flushing_laws}
use Rattle.book.proofs.Assembly.{Scripted, opens, claims, fills, commits, abandons, removes, asks, retires, tidies, Steps, demand2_from, demand3_from}
use Rattle.book.proofs.StepOpen.{step_open}
use Rattle.book.proofs.StepClaim.{step_claim}
use Rattle.book.proofs.StepFill.{step_fill}
use Rattle.book.proofs.StepCommit.{step_commit}
use Rattle.book.proofs.StepAbandon.{step_abandon}
use Rattle.book.proofs.StepRemove.{step_remove}
use Rattle.book.proofs.StepRead.{step_query}
use Rattle.book.proofs.StepRetire.{step_retire}
use Rattle.book.proofs.StepTidy.{step_tidy}
use Rattle.book.proofs.ClaimPlaced.{claim_placed}
use Rattle.book.proofs.Placed.{placed_from}
use Rattle.book.proofs.Growth.{growth_from}
use Rattle.book.proofs.PathNodes.{path_nodes_from}
use Rattle.book.proofs.Tidy.{tidying_from}
use Rattle.book.proofs.OwnTables.{own_tables_from}
use Rattle.book.proofs.Conversions.{conversions_from}
use Rattle.book.proofs.Witnesses.{witnesses_from}
use Rattle.book.specs.Witnesses.{Witnesses}
use mathlib.Core.Path.{◌≡◌}
use Rattle.tree.specs.Memory.{Module, Fit}
use Rattle.book.specs.State.{State, Operation, arguments}
use Rattle.book.specs.Perform.{perform}
use Rattle.book.specs.Table.{Table}
use Rattle.book.specs.Agrees.{Agrees}
use Rattle.book.proofs.Step.{Step}

step : {s : State} {t : Table} {op : Operation} → Agrees s t → Scripted op → Fit (arguments op) → (perform op s).answer ≡ 0 → Step op s t
step a (opens {words} {script} {reel}) fit answered = step_open a words script reel fit answered
step a (claims {words} {script} {h} {reel} {f}) fit answered = step_claim a words script h reel f fit answered
step a (fills {script} {h}) fit answered = step_fill a script h fit answered
step a (commits {script} {h}) fit answered = step_commit a script h fit answered
step a (abandons {script} {h}) fit answered = step_abandon a script h fit answered
step a (removes {script} {reel} {f}) fit answered = step_remove a script reel f fit answered
step a (asks {q}) fit answered = step_query a q
step a (retires {words} {scratch} {script} {reel}) fit answered = step_retire a words scratch script reel fit answered
step a (tidies {words} {scratch} {script} {reel}) fit answered = step_tidy a words scratch script reel fit answered

steps : Steps
steps = record { step = step }

pub demand2 : {on : Module} → Demand2 on
demand2 = demand2_from steps

pub demand3 : {on : Module} → Demand3 on
demand3 = demand3_from steps

pub placed : {on : Module} → Placed on
placed = placed_from steps (record { placed = claim_placed })

pub growth : {on : Module} → Growth on
growth = growth_from steps

pub path_nodes : {on : Module} → PathNodes on
path_nodes = path_nodes_from steps growth demand3

pub tidying : {on : Module} → Tidying on
tidying = tidying_from demand3

pub own_tables : {on : Module} → OwnTables on
own_tables = own_tables_from demand3

pub conversions : {on : Module} → Conversions on
conversions = conversions_from demand3

pub witnesses : Witnesses
witnesses = witnesses_from (λ on. demand3)
