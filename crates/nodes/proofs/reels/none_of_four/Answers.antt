use Rattle.memory.specs.Words.{reads}
use Rattle.nodes.proofs.ReelCode.{in_four}
use Rattle.nodes.proofs.reels.none_of_four.Goals as goal

pub returns : goal.returns
returns c =
    let a = c.args in
    in_four (reads a.image.now) a.s a.reel c.reel_of.ensures c.reel_of-2.ensures c.reel_of-3.ensures c.reel_of-4.ensures
