use Rattle.std.proofs.Common.{◌≡◌, ◌∙◌, sym, refl, arith, [], length}
use mathlib.Core.Option.{none, some}
use Rattle.tree.proofs.Laws.{pool_laws}
use Rattle.operations.specs.Ends.{all_buffers}
use Rattle.operations.proofs.Passed.{all_checked}
use Rattle.operations.proofs.Tested.{check_bad}
use Rattle.images.proofs.Converting.{copy_bad, tested, unsound, own_table, converts}
use Rattle.images.proofs.convert.convert.Goals as goal

pub returns-then-copy-image : goal.returns-then-copy-image
returns-then-copy-image c pool ws = let a = c.args in copy_bad a.image.now pool ws a.scratch.now a.copy.now c.if-copy-image.true

pub returns-in-Err : goal.returns-in-Err
returns-in-Err c pool ws =
    let a = c.args in
    rw c.clear_on_4.ensures
    (check_bad (tested a.image.now pool ws a.scratch.now a.copy.now c.if-copy-image.false) (all_buffers a.scratch.now [] [] a.copy.now) c.checks.ensures
    c.in-Err.is)

pub check_image-requires : goal.check_image-requires
check_image-requires c =
    let p = all_checked c.args.image.now none (some c.args.scratch.now) none c.checks.ensures c.in-Ok.is in
    (p.sized, p.scratch_words)

pub returns-then-not-check_image : goal.returns-then-not-check_image
returns-then-not-check_image c pool ws =
    let p = all_checked c.args.image.now none (some c.args.scratch.now) none c.checks.ensures c.in-Ok.is in
    let bad = sym c.check_image.ensures.0 ∙ c.if-not-check_image.true in
    rw (c.check_image.ensures.1, bad, ← p.scratch_words) (unsound _ pool ws _ _ c.if-copy-image.false p bad)

pub has_own-requires : goal.has_own-requires
has_own-requires c =
    let p = all_checked c.args.image.now none (some c.args.scratch.now) none c.checks.ensures c.in-Ok.is in
    omega (arith, p.sized.words)

pub returns-then-has_own : goal.returns-then-has_own
returns-then-has_own c pool ws =
    let p = all_checked c.args.image.now none (some c.args.scratch.now) none c.checks.ensures c.in-Ok.is in
    let sound = sym c.check_image.ensures.0 ∙ c.if-not-check_image.false in
    let long : length c.check_image.new.pool ≡ length c.args.scratch.now = rw (c.check_image.ensures.1, sound) (pool_laws.length-map _ _ ∙ sym p.scratch_words) in
    rw (c.clear_map.ensures, long) (own_table _ pool ws _ _ c.if-copy-image.false p sound (sym c.has_own.ensures ∙ c.if-has_own.true))

pub convert_image-requires : goal.convert_image-requires
convert_image-requires c =
    let p = all_checked c.args.image.now none (some c.args.scratch.now) none c.checks.ensures c.in-Ok.is in
    let sound = sym c.check_image.ensures.0 ∙ c.if-not-check_image.false in
    (p.sized, p.geometry, c.if-copy-image.false, rw (c.check_image.ensures.1, sound) refl)

pub returns : goal.returns
returns c pool ws =
    let p = all_checked c.args.image.now none (some c.args.scratch.now) none c.checks.ensures c.in-Ok.is in
    let sound = sym c.check_image.ensures.0 ∙ c.if-not-check_image.false in
    let long : length c.check_image.new.pool ≡ length c.args.scratch.now = rw (c.check_image.ensures.1, sound) (pool_laws.length-map _ _ ∙ sym p.scratch_words) in
    rw (c.clear_map-2.ensures, long, c.convert_image.ensures)
    (converts _ pool ws _ c.args.copy.now c.if-copy-image.false p sound (sym c.has_own.ensures ∙ c.if-has_own.false))
