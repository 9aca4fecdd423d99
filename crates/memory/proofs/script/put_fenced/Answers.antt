use Rattle.std.proofs.Common.{refl, [], ◌∷◌}
use Rattle.memory.specs.Script.{store, barrier}
use Rattle.memory.proofs.Written.{written_rest}
use Rattle.memory.proofs.script.put_fenced.Goals as goal

pub returns : goal.returns
returns c =
    let a = c.args in
    let one = c.put_store in
    let two = c.put_barrier in
    written_rest (store a.index a.value ∷ []) (barrier ∷ []) 2 a.script.now one.new.script two.new.script refl one.ensures two.ensures
