use mathlib.Core.Option.{none, some}
use Rattle.operations.proofs.Passed.{all_checked}
use Rattle.images.proofs.Recovering.{recover_early, unsound, recovered}
use Rattle.images.proofs.recover.recover.Goals as goal

pub returns-in-Err : goal.returns-in-Err
returns-in-Err c heads = recover_early c.args.image.now c.args.pool.now heads c.checks.ensures c.in-Err.is _ c.clear_on_4.ensures

pub recover_image-requires : goal.recover_image-requires
recover_image-requires c =
    let p = all_checked c.args.image.now (some c.args.pool.now) none none c.checks.ensures c.in-Ok.is in
    (p.sized, p.map_words_lem)

pub returns-then-not-recover_image : goal.returns-then-not-recover_image
returns-then-not-recover_image c heads =
    let p = all_checked c.args.image.now (some c.args.pool.now) none none c.checks.ensures c.in-Ok.is in
    let e = c.recover_image.ensures in
    unsound _ _ heads _ p c.recover_image.result e.0 _ _ e.1 e.2 c.if-not-recover_image.true

pub returns : goal.returns
returns c heads =
    let p = all_checked c.args.image.now (some c.args.pool.now) none none c.checks.ensures c.in-Ok.is in
    let e = c.recover_image.ensures in
    recovered _ _ heads _ p c.recover_image.result e.0 _ _ e.1 e.2 c.if-not-recover_image.false
