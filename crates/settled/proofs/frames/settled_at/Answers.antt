use Rattle.std.proofs.Common.{rules, sym, ◌∙◌}
use Rattle.memory.specs.Words.{reads}
use Rattle.fingerprints.proofs.Folds.{fingerprint_small}
use Rattle.settled.proofs.Held.{met_lone}
use Rattle.settled.proofs.SettledSteps.{known_facts, read, off_path, wrong_print, held_before, first_here}
use Rattle.settled.proofs.frames.settled_at.Goals as goal
use Rattle.settled.proofs.frames.settled_at.Goals.{else-again-via-then-again+else-first_held-p, else-again-via-else-again}

pub frame_of-frame-requires : goal.frame_of-frame-requires
frame_of-frame-requires c = search (rules, (known_facts _ _ c.requires.1.formed).inside)

pub fingerprints_of-requires : goal.fingerprints_of-requires
fingerprints_of-requires c = search (rules, (known_facts _ _ c.requires.1.formed).inside)

pub is_used-again-requires : goal.is_used-again-requires
is_used-again-requires c = search (rules, fingerprint_small _ _ c.fold-print.ensures)

pub mark-requires : goal.mark-requires
mark-requires c = search (rules, fingerprint_small _ _ c.fold-print.ensures)

-- the place is read, and its fingerprint marked
pub returns-then-frame-t : goal.returns-then-frame-t
returns-then-frame-t c =
    let place = read c.args.g (reads c.args.image.now) c.requires.1.unit c.frame_of-frame.ensures (rw c.fingerprints_of.ensures at c.byte_of-stored.ensures) c.fold-print.ensures in
    (off_path _ _ _ _ place c.if-frame-t.true, rw (← place.frame_is, ← place.print_is) c.mark.ensures)

pub returns-then-stored-print : goal.returns-then-stored-print
returns-then-stored-print c =
    let place = read c.args.g (reads c.args.image.now) c.requires.1.unit c.frame_of-frame.ensures (rw c.fingerprints_of.ensures at c.byte_of-stored.ensures) c.fold-print.ensures in
    (wrong_print _ _ _ _ place c.if-frame-t.false c.if-stored-print.true, rw (← place.frame_is, ← place.print_is) c.mark.ensures)

pub first_held-requires : goal.first_held-requires
first_held-requires c = search (rules, (known_facts _ _ c.requires.1.formed).inside)

pub returns-then-first_held-p : goal.returns-then-first_held-p
returns-then-first_held-p c =
    let place = read c.args.g (reads c.args.image.now) c.requires.1.unit c.frame_of-frame.ensures (rw c.fingerprints_of.ensures at c.byte_of-stored.ensures) c.fold-print.ensures in (
      held_before _ _ _ _ place c.if-frame-t.false c.if-stored-print.false c.first_held.ensures c.if-first_held-p.true,
      rw (← place.frame_is, ← place.print_is) c.mark.ensures,
    )

pub returns : goal.returns
returns c =
    let place = read c.args.g (reads c.args.image.now) c.requires.1.unit c.frame_of-frame.ensures (rw c.fingerprints_of.ensures at c.byte_of-stored.ensures) c.fold-print.ensures in (
      first_here _ _ _ _ place c.if-frame-t.false c.if-stored-print.false
          (elim c.else-again.branch [
            | else-again-via-then-again+else-first_held-p w ↦ sym w.first_held.ensures ∙ w.if-first_held-p.false
            | else-again-via-else-again w ↦ met_lone _ _ _ _ c.requires.4 place.print_is c.is_used-again.ensures w.if-again.false
          ])
          c.absent_below.ensures,
      rw (← place.frame_is, ← place.print_is) c.mark.ensures,
    )
