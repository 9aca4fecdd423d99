use Rattle.std.proofs.Common.{rules, ◌≡◌, ℕ, ◌+◌, ◌/◌, ◌%◌, eqb, bit_or, arith}
use borrow.Author.Tests.{eqb-true, not-false}
use Rattle.memory.specs.Words.{reads, EqualBytes}
use Rattle.tree.specs.Layout.{node_at}
use Rattle.nodes.proofs.Ranges.{fold_counted}
use Rattle.nodes.proofs.Places.{Gathered, gathered_none, gathered_more, gathered_no}
use Rattle.nodes.proofs.place.has_print.Goals as goal

pub returns : goal.returns
returns c h p l =
    let a = c.args in
    let words = λ (q : ℕ). reads a.image.now (node_at a.g a.n + 8 + q) in
    let found : Gathered words a.print 8 c.fold.result =
    fold_counted _ (Gathered words a.print) _ 8
    (λ j s r f' m k e. let t : (z : ℕ) × (r ≡ bit_or s z) × EqualBytes (words j) a.print z = search rules in
    rw t.1 (gathered_more words a.print j s t.0 k t.2))
    (λ j s r f' e. search rules) 0 _ (gathered_none words a.print) c.fold.ensures.ran in
    gathered_no words a.print _ (eqb-true c.fold.result 0 (not-false (eqb c.fold.result 0) h)) found (p / 8) (p % 8) (omega arith) (omega arith)
