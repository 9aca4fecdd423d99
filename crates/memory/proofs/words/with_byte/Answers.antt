use Rattle.memory.proofs.Masks.{put_byte}
use Rattle.memory.proofs.words.with_byte.Goals as goal

pub returns : goal.returns
returns c = put_byte _ _ _ c.ranges.w.fits c.requires.0 c.requires.1
