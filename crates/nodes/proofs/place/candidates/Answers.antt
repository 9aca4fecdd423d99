use Rattle.std.proofs.Common.{rules, ◌≡◌, ℕ, ◌+◌, ◌/◌, ◌<◌, ◌^◌, bit_or}
use Rattle.memory.specs.Words.{reads, EqualBytes}
use Rattle.tree.specs.Layout.{node_at}
use Rattle.nodes.proofs.Ranges.{fold_counted}
use Rattle.nodes.proofs.Places.{Packed, packed_none, packed_more, packed_all}
use Rattle.nodes.proofs.place.candidates.Goals as goal

pub returns : goal.returns
returns c =
    let a = c.args in
    let words = λ (q : ℕ). reads a.image.now (node_at a.g a.n + 8 + q) in
    packed_all a.g (reads a.image.now) a.n a.print c.fold.result
    (fold_counted _ (Packed words a.print) _ 8
    (λ j s r f' m k e. let t : (z : ℕ) × (r ≡ bit_or (s / 2) z) × (z < 2 ^ 64) × EqualBytes (words j) a.print z = search rules in
    rw t.1 (packed_more words a.print j s t.0 m t.2 k t.3))
    (λ j s r f' e. search rules) 0 _ (packed_none words a.print) c.fold.ensures.ran)
