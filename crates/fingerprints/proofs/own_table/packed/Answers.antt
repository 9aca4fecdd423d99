use Rattle.std.proofs.Common.{◌≡◌, ℕ, ◌+◌, ◌-◌, ◌*◌, ◌<◌, refl, arith, add-one, length-drop}
use Rattle.std.proofs.lemmas.List.{get_or-take, get_or-drop, length-take}
use Rattle.tree.specs.Fingerprint.{bytes_to, packed}
use Rattle.fingerprints.proofs.own_table.packed.Goals as goal

pub loop-k-init : goal.loop-k-init
unfolding bytes_to
loop-k-init c = refl

pub loop-k-preserved : goal.loop-k-preserved
unfolding bytes_to
loop-k-preserved c =
    let l = c.loop-k in
    let k : l.k < 8 * c.args.j + 8 - 8 * c.args.j = omega (arith, c.loop-k-test.true, length-take {A = ℕ}, length-drop {A = ℕ}) in
    rw (add-one l.k, ← l.invariant, ← get_or-drop {A = ℕ} (8 * c.args.j) c.args.table.now l.k 0, ← get_or-take {A = ℕ} _ _ l.k 0 k) c.with_byte-w.ensures

pub returns : goal.returns
unfolding packed
returns c =
    let l = c.loop-k in
    let e : l.k ≡ 8 = omega (arith, c.requires.0, c.loop-k-test.false, length-take {A = ℕ}, length-drop {A = ℕ}) in
    rw e at l.invariant
