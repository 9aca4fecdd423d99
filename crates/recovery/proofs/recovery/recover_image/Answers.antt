use Rattle.recovery.proofs.Sounds.{image_mended}
use Rattle.recovery.proofs.recovery.recover_image.Goals as goal

pub returns : goal.returns
returns c = let a = c.args in image_mended a.g a.image.now c.check_image.ensures c.if-not-check_image.false c.requires.0 _ c.mend.ensures
