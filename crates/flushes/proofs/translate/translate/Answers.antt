use Rattle.std.proofs.Common.{sym, ◌∙◌}
use Rattle.flushes.proofs.Decoded.{even, too_short, no_script, with_flush, unfenced, done}
use Rattle.flushes.proofs.translate.translate.Goals as goal
use Rattle.flushes.proofs.translate.translate.Goals.{then-not-is_script-via-then-not-is_script, then-not-is_script-via-else-not-is_script+then-has_flush, then-not-is_script-via-else-not-is_script+else-has_flush+then-not-ends_fenced}

pub returns-then-buffer-lt-ROOM : goal.returns-then-buffer-lt-ROOM
returns-then-buffer-lt-ROOM c = too_short _ _ _ c.then-buffer-lt-ROOM.either

pub ends_fenced-requires : goal.ends_fenced-requires
ends_fenced-requires c = even _ _ (sym c.is_script.ensures ∙ c.if-not-is_script.false)

pub returns-then-not-is_script : goal.returns-then-not-is_script
returns-then-not-is_script c =
    let b = c.if-buffer-lt-ROOM.false in
    let l = c.if-script-gt-LONGEST.false in
    let script = sym c.is_script.ensures in
    elim c.then-not-is_script.branch [
      | then-not-is_script-via-then-not-is_script w ↦ no_script _ _ _ b l (script ∙ w.if-not-is_script.true)
      | then-not-is_script-via-else-not-is_script+then-has_flush w ↦
          with_flush _ _ _ b l (script ∙ w.if-not-is_script.false) (sym w.has_flush.ensures ∙ w.if-has_flush.true)
      | then-not-is_script-via-else-not-is_script+else-has_flush+then-not-ends_fenced w ↦
          unfenced _ _ _ b l (script ∙ w.if-not-is_script.false) (sym w.has_flush.ensures ∙ w.if-has_flush.false)
          (sym w.ends_fenced.ensures ∙ w.if-not-ends_fenced.true)
    ]

pub returns : goal.returns
returns c =
    done _ _ _ c.if-buffer-lt-ROOM.false c.if-script-gt-LONGEST.false (sym c.is_script.ensures ∙ c.if-not-is_script.false)
    (sym c.has_flush.ensures ∙ c.if-has_flush.false) (sym c.ends_fenced.ensures ∙ c.if-not-ends_fenced.false) _ _ c.put_translated.ensures
