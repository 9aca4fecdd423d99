use Rattle.memory.specs.Script.{encode, written}
use Rattle.memory.proofs.Written.{set_two}
use Rattle.memory.proofs.script.put_store.Goals as goal

pub returns : goal.returns
unfolding encode written
returns c = set_two c.args.script.now _ _ c.requires
