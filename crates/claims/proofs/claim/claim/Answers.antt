use Rattle.std.proofs.Common.{rules, arith, sym, ◌∙◌, ap, ◌<◌}
use Rattle.std.proofs.lemmas.Result.{err_from_is_err_and}
use Rattle.tree.specs.Memory.{reads}
use Rattle.tree.specs.Slots.{Filled}
use Rattle.tree.proofs.Laws.{slot_laws}
use Rattle.operations.proofs.Passed.{number_some, open_checked}
use Rattle.claims.specs.Answers.{admission_number}
use Rattle.claims.proofs.Claiming.{deep_room, in_pool, place_fits}
use Rattle.claims.proofs.ClaimingEndings.{slot_below, run_fits, start_within, claim_early, head_refused, admitted, no_room, has_conflict, no_run_lem, claimed}
use Rattle.claims.proofs.claim.claim.Goals as goal

pub returns-in_err-g : goal.returns-in_err-g
returns-in_err-g c ws e =
    let a = c.args in
    let p = err_from_is_err_and c.from_residual.result c.from_residual.ensures.1 in
    rw (p.1, p.2) (claim_early a.image.now a.pool.now a.script.now ws a.head a.reel a.frame c.checks.ensures c.in_err-g.was)

pub slot_of-slot-requires : goal.slot_of-slot-requires
slot_of-slot-requires c = (open_checked c.args.image.now c.args.pool.now c.args.script.now c.checks.ensures c.in_ok-g.was).sized

pub returns-in_err-admit : goal.returns-in_err-admit
returns-in_err-admit c ws e =
    let a = c.args in
    let passed = open_checked a.image.now a.pool.now a.script.now c.checks.ensures c.in_ok-g.was in
    let p = err_from_is_err_and c.from_residual-in_err-admit.result c.from_residual-in_err-admit.ensures.1 in
    rw (p.1, p.2)
    (head_refused a.image.now a.pool.now a.script.now ws a.head a.reel a.frame a.heads e _ passed _ c.slot_of-slot.ensures _
    (sym (ap admission_number c.in_err-admit.was) ∙ c.admit.ensures) (number_some _))

pub fingerprint-print-requires : goal.fingerprint-print-requires
fingerprint-print-requires c =
    omega (arith, (open_checked c.args.image.now c.args.pool.now c.args.script.now c.checks.ensures c.in_ok-g.was).sized.words)

-- the slot is filled
pub room_for-requires : goal.room_for-requires
room_for-requires c =
    let a = c.args in
    let slot = c.slot_of-slot in
    let g = c.in_ok-g.g in
    let l : slot.result < g.slots = slot_below a.heads a.head g slot.result (sym (ap admission_number c.in_ok-admit.was) ∙ c.admit.ensures) in
    let filled : Filled g (reads a.image.now) slot.result = rw slot.ensures ((slot_laws g (reads a.image.now)).reel a.reel (rw (← slot.ensures) l)).0 in
    ((open_checked a.image.now a.pool.now a.script.now c.checks.ensures c.in_ok-g.was).sized, filled, c.fingerprint-print.ensures)

pub returns-in-Err : goal.returns-in-Err
returns-in-Err c ws e =
    let a = c.args in
    let past = admitted a.image.now a.pool.now a.script.now ws a.head a.reel a.frame a.heads e c.checks.ensures c.in_ok-g.was c.slot_of-slot.ensures c.admit.ensures c.in_ok-admit.was in
    rw c.refusal_of.ensures (no_room _ _ _ _ _ _ _ past c.room_for.ensures _ c.in-Err.is)

pub run_for-start-requires : goal.run_for-start-requires
run_for-start-requires c = let p = open_checked c.args.image.now c.args.pool.now c.args.script.now c.checks.ensures c.in_ok-g.was in search rules

pub target_in-target-requires : goal.target_in-target-requires
target_in-target-requires c =
    let g = c.in_ok-g.g in
    let p = open_checked c.args.image.now c.args.pool.now c.args.script.now c.checks.ensures c.in_ok-g.was in
    let l = start_within g c.args.pool.now c.in-Ok.vacancy.room _ c.run_for-start.ensures in
    let d = deep_room _ _ _ _ (sym c.in-Ok.is ∙ c.room_for.ensures) in
    search rules

pub returns-then-has_conflict : goal.returns-then-has_conflict
returns-then-has_conflict c ws e =
    let a = c.args in
    let past = admitted a.image.now a.pool.now a.script.now ws a.head a.reel a.frame a.heads e c.checks.ensures c.in_ok-g.was c.slot_of-slot.ensures c.admit.ensures c.in_ok-admit.was in
    has_conflict _ _ _ _ _ _ _ past c.room_for.ensures _ c.in-Ok.is _ c.run_for-start.ensures
    _ e _ c.target_in-target.ensures _ c.has_conflict.ensures c.if-has_conflict.true

pub returns-then-g-start : goal.returns-then-g-start
returns-then-g-start c ws e =
    let a = c.args in
    let past = admitted a.image.now a.pool.now a.script.now ws a.head a.reel a.frame a.heads e c.checks.ensures c.in_ok-g.was c.slot_of-slot.ensures c.admit.ensures c.in_ok-admit.was in
    no_run_lem _ _ _ _ _ _ _ past c.room_for.ensures _ c.in-Ok.is _ c.run_for-start.ensures
    _ e _ c.target_in-target.ensures _ c.has_conflict.ensures c.if-has_conflict.false c.if-g-start.true

pub take_room-words-requires : goal.take_room-words-requires
take_room-words-requires c =
    let p = open_checked c.args.image.now c.args.pool.now c.args.script.now c.checks.ensures c.in_ok-g.was in
    let free = sym c.in-Ok.is ∙ c.room_for.ensures in
    let fits = run_fits c.in_ok-g.g c.args.pool.now c.in-Ok.vacancy.room _ c.run_for-start.ensures c.if-g-start.false in
    let place = place_fits _ _ _ _ free _ fits in
    let target = c.target_in-target.ensures in (
      p.sized,
      (search rules, search rules, in_pool _ _ _ _ free _ fits),
      rw target place.0,
      rw target place.1,
      p.map_words_lem,
      p.script_words,
    )

pub returns : goal.returns
returns c ws e =
    let a = c.args in
    let past = admitted a.image.now a.pool.now a.script.now ws a.head a.reel a.frame a.heads e c.checks.ensures c.in_ok-g.was c.slot_of-slot.ensures c.admit.ensures c.in_ok-admit.was in
    let took = c.take_room-words in
    claimed _ _ _ _ _ _ _ past c.room_for.ensures _ c.in-Ok.is _ c.run_for-start.ensures
    _ e _ c.target_in-target.ensures _ c.has_conflict.ensures c.if-has_conflict.false c.if-g-start.false
    took.new.pool took.new.script took.result took.ensures
