use Rattle.std.proofs.Common.{◌≡◌, true, length, drop, ◌*◌}
use Rattle.memory.specs.Apply.{is_script, made_stores}
use Rattle.memory.proofs.apply.make_stores.Given as goal

abbrev pub invariant-loop-index : goal.invariant-loop-index
invariant-loop-index l =
    let left = drop (2 * l.index-index) l.script in
    (length l.image ≡ length l.fn.image) × (is_script (length l.image) left ≡ true) × (made_stores l.fn.image l.script ≡ made_stores l.image left)
