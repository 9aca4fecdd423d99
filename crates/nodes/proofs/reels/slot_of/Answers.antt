use Rattle.std.proofs.Common.{rules, ◌≡◌, true, false, ℕ, ◌∙◌}
use Rattle.std.proofs.lemmas.Iterator.{first_from_Range}
use Rattle.memory.specs.Words.{reads}
use Rattle.tree.specs.Test.{is, eq, ◌and◌, holds}
use Rattle.tree.specs.Layout.{reel_at}
use Rattle.tree.specs.Slots.{filled, slot_of}
use Rattle.nodes.proofs.Ranges.{first_found}
use Rattle.nodes.proofs.reels.slot_of.Goals as goal

pub returns : goal.returns
unfolding slot_of
returns c =
    let m = reads c.args.image.now in
    let test = λ (s : ℕ). holds (is (filled m s) and eq (m (reel_at s)) c.args.reel) in
    let found = first_from_Range (record { start = c.passed_in_eights-start.result; end = c.args.g.slots }) _ _ c.find.result (λ s. test s ≡ true) (λ s. test s ≡ false) c.find.ensures.ran
    (λ s q k. search rules) (λ s q k. search rules) in
    c.unwrap_or.ensures ∙ first_found _ _ _ _ c.passed_in_eights-start.ensures.0 c.passed_in_eights-start.ensures.1 found
