use Rattle.std.proofs.Common.{refl, [], ◌∷◌}
use Rattle.memory.specs.Script.{store, barrier}
use Rattle.memory.proofs.Written.{written_rest}
use Rattle.memory.proofs.script.put_fenced_pair.Goals as goal

pub returns : goal.returns
returns c =
    let a = c.args in
    let one = c.put_fenced in
    let two = c.put_fenced-2 in
    let first = store a.index a.value ∷ barrier ∷ [] in
    let second = store a.index2 a.value2 ∷ barrier ∷ [] in
    written_rest first second 4 a.script.now one.new.script two.new.script refl one.ensures two.ensures
