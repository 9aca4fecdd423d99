use Rattle.std.proofs.Common.{◌≡◌, ◌+◌, refl, arith, rules}
use Rattle.memory.specs.Words.{reads}
use Rattle.tree.specs.Fingerprint.{unpacked, is_given, bad_given}
use Rattle.tree.proofs.OwnTables.{packed_back}
use Rattle.fingerprints.proofs.Packing.{packing_none, packing_more, packing_all}
use Rattle.fingerprints.proofs.own_table.bad_given.Goals as goal

pub returns-in-0 : goal.returns-in-0
unfolding bad_given is_given
returns-in-0 c = search rules

pub loop-i-init : goal.loop-i-init
loop-i-init c = packing_none _

pub loop-i-preserved : goal.loop-i-preserved
loop-i-preserved c = packing_more (omega (arith, c.in-256.is)) c.with_byte.ensures c.loop-i.invariant

-- read back, the words are the table
again : (c : goal.After-has_every) → unpacked (reads c.loop-i.words) 0 ≡ c.args.table.now
again c =
    let l = c.loop-i in
    let e : l.i ≡ 256 = omega (arith, c.in-256.is) in
    packed_back _ (λ i h. (c.type_inv.table i).fits) c.in-256.is _ 0
    (λ j h. let here : 0 + j ≡ j = omega arith in rw here (packing_all (rw e at l.invariant) j h))

pub returns-after-loop-i : goal.returns-after-loop-i
unfolding bad_given is_given
returns-after-loop-i c = rw (c.has_every.ensures, again c, c.in-256.is) refl

pub returns-in_default : goal.returns-in_default
unfolding bad_given is_given
returns-in_default c = search rules
