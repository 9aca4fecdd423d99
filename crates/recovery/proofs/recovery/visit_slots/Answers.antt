use Rattle.std.proofs.Common.{rules, refl, sym, ◌∙◌}
use Rattle.memory.specs.Words.{reads}
use Rattle.recovery.proofs.Sounds.{all_slots, slot_filled, slot_empty, slot_fails, slot_walked, slots_end}
use Rattle.recovery.proofs.recovery.visit_slots.Goals as goal
use Rattle.recovery.proofs.recovery.visit_slots.Goals.{else-is_filled-via-then-is_filled+else-not-visit_reel, else-is_filled-via-else-is_filled}

pub loop-s-init : goal.loop-s-init
loop-s-init c = let a = c.args in (refl, all_slots a.g (reads a.image.now) a.g.slots a.pool.now)

pub visit_reel-requires : goal.visit_reel-requires
visit_reel-requires c =
    let g = c.args.g in
    let l = c.loop-s in
    (c.requires.0, slot_filled g _ g.slots l.s c.loop-s-test.true l.pool c.is_filled.result c.is_filled.ensures refl c.if-is_filled.true, l.invariant.0 ∙ c.requires.1)

pub returns-then-not-visit_reel : goal.returns-then-not-visit_reel
returns-then-not-visit_reel c =
    let g = c.args.g in
    let l = c.loop-s in
    let walk = c.visit_reel in
    slot_fails g _ g.slots l.s c.loop-s-test.true l.pool c.is_filled.result c.is_filled.ensures c.if-is_filled.true walk.result walk.new.pool walk.ensures c.if-not-visit_reel.true
    ∙ l.invariant.1

pub loop-s-preserved : goal.loop-s-preserved
loop-s-preserved c =
    let g = c.args.g in
    let l = c.loop-s in
    let here = c.is_filled in
    elim c.else-is_filled.branch [
      | else-is_filled-via-then-is_filled+else-not-visit_reel w ↦
          let walk = w.visit_reel in
          let e = slot_walked g _ g.slots l.s c.loop-s-test.true l.pool here.result here.ensures w.if-is_filled.true walk.result walk.new.pool walk.ensures w.if-not-visit_reel.false in
          (search rules, rw w.pool-is (sym e ∙ l.invariant.1))
      | else-is_filled-via-else-is_filled w ↦
          let e = slot_empty g _ g.slots l.s c.loop-s-test.true l.pool here.result here.ensures w.if-is_filled.false in
          (search rules, rw w.pool-is (sym e ∙ l.invariant.1))
    ]

pub returns : goal.returns
returns c = let g = c.args.g in slots_end g _ g.slots _ _ c.loop-s-test.false ∙ c.loop-s.invariant.1
