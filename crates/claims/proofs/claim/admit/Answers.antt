use Rattle.std.proofs.Common.{sym, ◌∙◌, ap, not}
use borrow.Author.Tests.{le-leb, lt-leb}
use Rattle.book.specs.Heads.{head_count, is_idle}
use Rattle.book.proofs.Refusals.{refused_here, refused_later, passed_all}
use Rattle.claims.proofs.Claiming.{not_idle}
use Rattle.claims.proofs.claim.admit.Goals as goal

pub returns-then-head : goal.returns-then-head
returns-then-head c = sym (refused_here _ _ (le-leb head_count c.args.head c.if-head.true))

pub returns-in_default : goal.returns-in_default
returns-in_default c =
    sym (refused_later _ _ (lt-leb head_count c.args.head c.if-head.false)
    ∙ refused_here _ _ (ap (λ x. not (is_idle x)) (sym c.state_in.ensures) ∙ not_idle _ c.in_default.not-Idle))

pub returns-then-g-slot : goal.returns-then-g-slot
returns-then-g-slot c =
    sym (refused_later _ _ (lt-leb head_count c.args.head c.if-head.false)
    ∙ refused_later _ _ (ap (λ x. not (is_idle x)) (sym c.state_in.ensures ∙ c.in-Idle.is))
    ∙ refused_here _ _ (le-leb c.args.g.slots c.args.slot c.if-g-slot.true))

pub returns : goal.returns
returns c =
    sym (refused_later _ _ (lt-leb head_count c.args.head c.if-head.false)
    ∙ refused_later _ _ (ap (λ x. not (is_idle x)) (sym c.state_in.ensures ∙ c.in-Idle.is))
    ∙ refused_later _ _ (lt-leb c.args.g.slots c.args.slot c.if-g-slot.false)
    ∙ passed_all _ tt)
