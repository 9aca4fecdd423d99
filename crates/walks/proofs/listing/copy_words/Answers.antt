use Rattle.std.proofs.Common.{arith, ◌<◌}
use Rattle.walks.proofs.Listings.{starts, ends, one_more}
use Rattle.walks.proofs.ListingsPlaces.{run_all, run_next, run_none, run_length, run_read}
use Rattle.walks.proofs.listing.copy_words.Goals as goal

pub loop-k-init : goal.loop-k-init
loop-k-init c = (omega arith, rw (← run_all _ _ _) (starts _ _))

pub loop-k-preserved : goal.loop-k-preserved
loop-k-preserved c =
    let a = c.args in
    let l = c.loop-k in
    let more : l.k < a.count = omega (arith, run_length a.image.now a.first a.count c.requires.0) in
    (omega arith, rw (run_read a.image.now a.first l.k a.count more) (one_more (omega arith) (rw (run_next _ _ l.k _ more) at l.invariant.1)))

pub returns : goal.returns
returns c =
    let a = c.args in
    let l = c.loop-k in
    (ends (rw (run_none _ _ l.k a.count (omega (arith, run_length a.image.now a.first a.count c.requires.0))) at l.invariant.1)).1
