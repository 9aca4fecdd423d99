use Rattle.std.proofs.Common.{sym, ◌∙◌, arith}
use lib.Seq.{ext_get_or}
use Rattle.tree.specs.Layout.{table_at}
use Rattle.tree.proofs.Fingerprints.{unpacked_length}
use Rattle.fingerprints.proofs.own_table.stored_table.Goals as goal

pub returns : goal.returns
returns c =
    let l = c.loop-i.invariant in
    ext_get_or 0 _ _ (l.long ∙ sym (unpacked_length _ table_at)) (λ j h. l.filled j (omega (arith, l.long)))
