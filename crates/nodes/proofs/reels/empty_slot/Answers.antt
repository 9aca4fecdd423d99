use Rattle.std.proofs.Common.{rules, ◌≡◌, true, false, ◌∙◌, arith, not}
use Rattle.std.proofs.lemmas.Iterator.{first_from_Range}
use borrow.Author.Count.{below_none}
use Rattle.memory.specs.Words.{reads}
use Rattle.tree.specs.Slots.{filled, empty_slot}
use Rattle.nodes.proofs.Ranges.{first_found}
use Rattle.nodes.proofs.reels.empty_slot.Goals as goal

pub returns : goal.returns
unfolding empty_slot
returns c =
    let m = reads c.args.image.now in
    let found = first_from_Range (record { start = 0; end = c.args.g.slots }) _ _ c.find.result (λ s. not (filled m s) ≡ true) (λ s. not (filled m s) ≡ false) c.find.ensures.ran
    (λ s q k. search rules) (λ s q k. search rules) in
    c.unwrap_or.ensures ∙ first_found _ _ _ _ (omega arith) (below_none _) found
