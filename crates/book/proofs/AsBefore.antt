-- Where Claim was answered before, answer and script are the same: proved.
use mathlib.Core.Path.{◌≡◌, sym, ◌∙◌}
use mathlib.Core.Bool.{false, not}
use mathlib.Core.Logic.{inl, inr, ◌≢◌}
use mathlib.Core.List.{List, ◌∷◌}
use Prim.Native.Nat.{ℕ}
use native.Mathlib.Omega.{arith}
use Rattle.tree.specs.Memory.{Memory, reads}
use Rattle.tree.specs.Test.{Test, holds}
use Rattle.tree.specs.declared.layout.Geometry.{Geometry}
use Rattle.tree.specs.declared.path.Room.{Room}
use Rattle.tree.specs.Lookup.{free_run}
use Rattle.tree.specs.Room.{needs}
use Rattle.tree.proofs.Cases.{test, true_not_false, not-false, and-true}
use Rattle.book.specs.Heads.{head_at, names, busy, conflicts}
use Rattle.book.specs.Refusals.{Refusal, ◌gives◌, refusal}
use Rattle.book.specs.State.{State, claim, shape}
use Rattle.book.specs.Checks.{target_in, no_run_for, in_conflict, refusals}
use Rattle.book.specs.Perform.{granted, perform}
use Rattle.book.specs.AsBefore.{slot, room, refusals_before, work_before, ClaimAsBefore}
use Rattle.book.proofs.Refusals.{refused_here, refused_later}
use Rattle.book.proofs.Performed.{answer_is, work_granted}
use Rattle.book.proofs.Heads.{any_head_lem}

-- no head is in the way of a claim in a slot that none names
free_slot : (g : Geometry) (map : Memory) (ws : List ℕ) (slot : ℕ) (r : Room) (f : ℕ) → busy ws slot ≡ false → holds (in_conflict g map ws slot r f) ≡ false
free_slot g map ws slot r f free = not-false (λ e.
    let k = (any_head_lem (conflicts (target_in slot r (free_run g map (needs r)) f) (not (holds (no_run_for g map r)))) ws).0 e in
    true_not_false ((any_head_lem (names slot) ws).1 (k.0, k.1, (and-true (names slot (head_at ws k.0)) _ k.2).0)) free)

-- two lists answer the same, unless the first answers 13
record SameBut13 (rs qs : List Refusal) : Type 0 where
  same : refusal rs ≢ 13 → refusal qs ≡ refusal rs

under : (r : Refusal) {rs qs : List Refusal} → SameBut13 rs qs → SameBut13 (r ∷ rs) (r ∷ qs)
under r {rs} {qs} k = record {
  same = λ n. elim (test (holds r.test)) [
    | inl e ↦ refused_here r qs e ∙ sym (refused_here r rs e)
    | inr e ↦ refused_later r qs e ∙ k.same (λ z. n (refused_later r rs e ∙ z)) ∙ sym (refused_later r rs e)
  ];
}

-- 13 tested before two others, and a narrower one after them
later_13 : (t u : Test) (a b : Refusal) (rs : List Refusal) → (holds t ≡ false → holds u ≡ false)
    → SameBut13 ((t gives 13) ∷ a ∷ b ∷ rs) (a ∷ b ∷ (u gives 13) ∷ rs)
later_13 t u a b rs k = record {
  same = λ n. elim (test (holds t)) [
    | inl e ↦ absurd (n (refused_here (t gives 13) (a ∷ b ∷ rs) e))
    | inr e ↦
        let gone = refused_later (t gives 13) (a ∷ b ∷ rs) e in
        let rest : SameBut13 rs ((u gives 13) ∷ rs) = record { same = λ z. refused_later (u gives 13) rs (k e) } in
        (under a (under b rest)).same (λ z. n (gone ∙ z)) ∙ sym gone
  ];
}

module _ (s : State) (map script h reel f : ℕ) where
  same_answer : refusal (refusals_before s map script h reel f) ≢ 13
      → (perform (claim map script h reel f) s).answer ≡ refusal (refusals_before s map script h reel f)
  unfolding refusals refusals_before
  same_answer n =
      answer_is (claim map script h reel f) s
      ∙ (under _ (under _ (under _ (under _ (under _ (under _ (under _ (later_13 _ _ _ _ _
      (free_slot (shape s) (reads s.pool) s.heads (slot s map script h reel f) (room s map script h reel f) f))))))))).same n

  same_work : refusal (refusals_before s map script h reel f) ≡ 0 → (perform (claim map script h reel f) s).work ≡ work_before s map script h reel f
  unfolding granted
  same_work before =
      work_granted (claim map script h reel f) s (same_answer (λ z. let w : ◌≡◌ {A = ℕ} 0 13 = sym before ∙ z in omega arith) ∙ before)

pub claim_as_before : ClaimAsBefore
claim_as_before = record { answer = same_answer; same = same_work }
