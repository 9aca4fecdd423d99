use Rattle.memory.specs.Words.{reads}
use Rattle.nodes.proofs.Places.{match_held}
use Rattle.nodes.proofs.place.is_match.Goals as goal

pub returns : goal.returns
returns c =
    let a = c.args in
    match_held a.g (reads a.image.now) a.frame a.n a.p c.requires.3 c.frame_of.ensures c.requires.4 c.is_set.ensures
