use Rattle.memory.specs.Script.{encode, written}
use Rattle.memory.proofs.Laws.{set_two}
use Rattle.flushes.proofs.translate.put_flush.Goals as goal

pub returns : goal.returns
unfolding encode written
returns c = set_two c.args.script.now _ _ c.requires
