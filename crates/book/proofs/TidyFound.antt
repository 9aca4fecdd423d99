-- What an answered Tidy has found, over any state.
use mathlib.Core.Path.{◌≡◌, refl, sym, ◌∙◌}
use mathlib.Core.Bool.{true, false}
use mathlib.Core.Logic.{◌↔◌, ◌≢◌}
use mathlib.Core.List.{List, [], ◌∷◌}
use Prim.Native.Nat.{ℕ, ◌-◌, ◌<◌}
use native.Mathlib.Omega.{arith}
use lib.ListN.{length}
use borrow.Author.Tests.{not-false}
use Rattle.tree.specs.Memory.{Memory}
use Rattle.tree.specs.declared.layout.Geometry.{Geometry}
use Rattle.tree.specs.Layout.{next_at}
use Rattle.tree.specs.Path.{fanout}
use Rattle.tree.specs.Fingerprint.{rule_of}
use Rattle.tree.specs.Node.{child_of}
use Rattle.tree.specs.Slots.{slot_of}
use Rattle.tree.specs.Subtree.{Visit}
use Rattle.tree.specs.Check.{is_sound_tree}
use Rattle.tree.specs.Groups.{first_group, FirstGroup}
use Rattle.tree.specs.Pool.{used, unmark_all}
use Rattle.tree.proofs.Cases.{true_not_false, seen, nothing, just}
use Rattle.tree.proofs.Lists.{in_range_lem, range_has}
use Rattle.tree.proofs.Laws.{node_laws, group_laws, sound_laws, pool_laws}
use Rattle.book.specs.Heads.{busy}
use Rattle.book.specs.State.{State, tidy, memory, shape}
use Rattle.book.specs.Checks.{refusals}
use Rattle.book.specs.Perform.{children_of, found_visit, tidy_script, granted, perform, writing}
use Rattle.book.specs.Ways.{ReelAt}
use Rattle.book.proofs.Refusals.{passes}
use Rattle.book.proofs.Performed.{answer_is}
use Rattle.book.proofs.DueWords.{reel_slot}

-- a node's children made free, and no other node
pub children_freed : (g : Geometry) (m : Memory) (v : Visit) (pool : List ℕ) (n : ℕ) → (used (unmark_all pool (children_of g m v)) n ≡ true)
    ↔ ((used pool n ≡ true) × ((c : ℕ) → c < fanout (length v.way) → n ≢ child_of g m v.node c))
children_freed g m v pool n =
    let start = m (next_at g v.node) - 1 in
    let count = fanout (length v.way) in
    let u = pool_laws.unmarks_all pool (children_of g m v) n in (
      λ e. ((u.0 e).0, λ c l q. (u.0 e).1 (range_has start count (omega arith) (omega arith))),
      λ x. u.1 (x.0, λ y. let l = in_range_lem start count y in x.1 (n - start) (omega arith) (omega arith)),
    )

-- a slot that no head names, the first of its nodes with an empty group, and what is done
pub record Found (s : State) (words scratch script reel : ℕ) : Type 0 where
  pub of_reel : ReelAt (shape s) (memory s) reel (slot_of (shape s) (memory s) reel)
  pub idle : busy s.heads (slot_of (shape s) (memory s) reel) ≡ false
  pub parent : Visit
  pub first : FirstGroup (shape s) (memory s) (slot_of (shape s) (memory s) reel) parent.way parent.node
  pub inside : parent.node < (shape s).nodes
  pub work : granted (tidy words scratch script reel) s ≡ writing (((next_at (shape s) parent.node, 0) ∷ []) ∷ [])
      (record { image = s.image; pool = unmark_all s.pool (children_of (shape s) (memory s) parent); heads = s.heads })

tidy_granted : (s : State) (words scratch script reel : ℕ) →
    let v = found_visit (first_group (shape s) (memory s) (slot_of (shape s) (memory s) reel)) in
    granted (tidy words scratch script reel) s ≡ writing (((next_at (shape s) v.node, 0) ∷ []) ∷ [])
    (record { image = s.image; pool = unmark_all s.pool (children_of (shape s) (memory s) v); heads = s.heads })
unfolding granted tidy_script
tidy_granted s words scratch script reel = refl

pub tidy_found : (s : State) (words scratch script reel : ℕ) → (perform (tidy words scratch script reel) s).answer ≡ 0 → Found s words scratch script reel
unfolding refusals
tidy_found s words scratch script reel h =
    let op = tidy words scratch script reel in
    let g = shape s in
    let m = memory s in
    let p = (passes (refusals op s) (omega arith) (sym (answer_is op s) ∙ h)).1.1.1.1 in
    let there = reel_slot s reel p.0 in
    let b = there.has.open_slot in
    let sound = ((sound_laws (rule_of m) g m).tree b).0 (not-false (is_sound_tree g m (slot_of g m reel)) p.1.1.0) in
    elim (seen (first_group g m (slot_of g m reel))) [
      | nothing q ↦ absurd (true_not_false refl (rw q at p.1.1.1.0))
      | just v q ↦
          let first = (group_laws b).found v q in
          record {
            of_reel = there;
            idle = p.1.0;
            parent = v;
            first = first;
            inside = (((node_laws g m).facts (length v.way) v.node).0 (sound.well_formed_lem first.is.there)).inside;
            work = rw q at (tidy_granted s words scratch script reel);
          }
    ]
