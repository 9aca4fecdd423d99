use Rattle.std.proofs.Common.{rules, arith, ◌≡◌, true, false, ◌∙◌}
use Rattle.std.proofs.lemmas.Iterator.{first_from_Range}
use borrow.Author.Count.{below_none}
use Rattle.memory.specs.Words.{reads}
use Rattle.settled.specs.Settled.{holds_at}
use Rattle.settled.proofs.Held.{hold_test}
use Rattle.nodes.proofs.Ranges.{first_found}
use Rattle.settled.proofs.frames.first_held.Goals as goal

pub returns : goal.returns
returns c =
    let a = c.args in
    let test = holds_at a.g (reads a.image.now) a.n a.frame in
    let found = first_from_Range (record { start = 0; end = a.bound }) _ _ c.find.result (λ q. test q ≡ true) (λ q. test q ≡ false) c.find.ensures.ran
    (λ q f k. search (rules, hold_test)) (λ q f k. search (rules, hold_test)) in
    c.unwrap_or.ensures ∙ first_found _ _ _ _ (omega arith) (below_none _) found
