use Rattle.std.proofs.Common.{◌≡◌, true, false, rules, tests}
use Rattle.std.proofs.lemmas.Iterator.{cases_from_any, YieldsList-from_slice}
use Rattle.book.specs.declared.Head.{Head}
use Rattle.book.specs.Heads.{conflicts}
use Rattle.operations.proofs.HeadRecords.{any_told}
use Rattle.claims.proofs.conflicts.has_conflict.Goals as goal

pub returns : goal.returns
returns c =
    let a = c.args in
    let test = conflicts a.claim a.uses in
    let by_call =
    cases_from_any _ _ _ (λ (x : Head). test x.state ≡ true) (λ (x : Head). test x.state ≡ false) c.any.ensures.ran
    (YieldsList-from_slice a.heads cc) (λ x q k. search (rules, tests)) (λ x q k. search (rules, tests)) in
    any_told test a.heads _ (search rules) by_call
