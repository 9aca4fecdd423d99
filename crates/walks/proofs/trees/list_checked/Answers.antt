use Rattle.std.proofs.Common.{ap, arith, not}
use Rattle.memory.specs.Words.{reads}
use Rattle.visits.proofs.Checked.{sound, marks_tree}
use Rattle.walks.proofs.Checked.{none_listed, all_counted, too_short, all_listed}
use Rattle.walks.proofs.trees.list_checked.Goals as goal

pub returns-then-not-check_tree : goal.returns-then-not-check_tree
returns-then-not-check_tree c =
    none_listed c.args.g (reads c.args.image.now) c.args.slot _ _ c.check_tree.ensures (ap not c.if-not-check_tree.true) c.args.list.now

pub returns-then-list-count_frames : goal.returns-then-list-count_frames
returns-then-list-count_frames c =
    let fine = ap not c.if-not-check_tree.false in
    let kept = c.check_tree.ensures in
    too_short _ _ _ (sound _ _ _ _ _ kept fine) _ (marks_tree _ _ _ _ _ kept fine) _ c.count_frames.ensures c.args.list.now
    c.if-list-count_frames.true

pub list_slot-requires : goal.list_slot-requires
list_slot-requires c =
    let fine = ap not c.if-not-check_tree.false in
    let kept = c.check_tree.ensures in
    let is_sound = sound _ _ _ _ _ kept fine in
    (c.requires.0, c.requires.1, is_sound, omega (arith, all_counted _ _ _ is_sound _ (marks_tree _ _ _ _ _ kept fine) _ c.count_frames.ensures))

pub returns : goal.returns
returns c =
    let fine = ap not c.if-not-check_tree.false in
    let kept = c.check_tree.ensures in
    all_listed _ _ _ (sound _ _ _ _ _ kept fine) _ (marks_tree _ _ _ _ _ kept fine) _ c.count_frames.ensures c.args.list.now
    c.if-list-count_frames.false _ _ c.list_slot.ensures.0 c.list_slot.ensures.1
