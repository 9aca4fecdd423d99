-- How List, Retire and Tidy begin: the geometry and the reel's slot that the code has then, and how they end before that.
use mathlib.Core.Path.{◌≡◌, refl, sym, ◌∙◌}
use mathlib.Core.Bool.{true}
use mathlib.Core.Logic.{inl, inr}
use mathlib.Core.Option.{Option}
use mathlib.Core.List.{List}
use Prim.Native.Nat.{ℕ, ◌≤◌, ◌<◌}
use native.Mathlib.Omega.{arith}
use native.Mathlib.Decide.{ℕ_discrete}
use lib.Dec.{eqb, ltb, leb}
use borrow.Author.Tests.{ne_eqb, le-ltb, leb-true, leb-false}
use Rattle.std.specs.Prelude.{Result, Ok, Err}
use Rattle.tree.specs.Memory.{reads}
use Rattle.tree.specs.declared.layout.Geometry.{Geometry}
use Rattle.tree.specs.Slots.{slot_of}
use Rattle.tree.proofs.Cases.{test}
use Rattle.book.specs.Refusals.{Refusal}
use Rattle.book.specs.State.{Operation, State}
use Rattle.operations.specs.declared.answer.Refusal as enums
use Rattle.operations.specs.declared.answer.Refusal.TheVariants.{NoReel}
use Rattle.operations.specs.Answers.{number_of}
use Rattle.operations.specs.Ends.{Buffers, all_buffers, ended, ends}
use Rattle.operations.proofs.Passed.{by_length, checks_on, all_checked, refused_first}
use Rattle.operations.proofs.Tested.{OnReel, SlotRead, check_bad, no_reel}
use Rattle.reels.specs.declared.begin.ReelSlot.{ReelSlot}
use Rattle.reels.specs.Begin.{slot_past, scratch_begun}

-- 4 is the only number past 3 that the checks answer
pub past_3 : (n : ℕ) → n ≤ 4 → eqb n 4 ≡ ltb 3 n
past_3 n h = elim (ℕ_discrete n 4) [
  | yes q ↦ rw q refl
  | no q ↦ rw (ne_eqb n 4 q, le-ltb 3 n (omega arith)) refl
]

module _ (im : List ℕ) (map scratch script : Option (List ℕ)) (reel : ℕ) where
  -- a slot that is there
  pub record Begun (r : ReelSlot) : Type 0 where
    pub read : SlotRead im map scratch script reel r.g r.slot
    pub inside : r.slot < r.g.slots

  begun_by : (v : Result Geometry enums.Refusal) → v ≡ checks_on im map scratch script → {r : ReelSlot} → slot_past im reel v ≡ Ok r → Begun r
  begun_by (Err why) e q = cc
  begun_by (Ok g) e {r} q = elim (test (leb g.slots (slot_of g (reads im) reel))) [
    | inl l ↦ let k = rw l at q in cc
    | inr l ↦
        let k : ◌≡◌ {A = Result ReelSlot enums.Refusal} (Ok (record { g = g; slot = slot_of g (reads im) reel })) (Ok r) = rw l at q in
        let same : ◌≡◌ {A = ReelSlot} (record { g = g; slot = slot_of g (reads im) reel }) r = cc in
        rw (← same) (record { read = record { checked = all_checked im map scratch script e refl; slot_is = refl }; inside = leb-false _ _ l })
  ]

  pub begun : {x : Result ReelSlot enums.Refusal} {r : ReelSlot} → x ≡ slot_past im reel (checks_on im map scratch script) → x ≡ Ok r → Begun r
  begun q told = begun_by _ refl (sym q ∙ told)

module _ {op : Operation} {s : State} {map scratch script : Option (List ℕ)} {reel : ℕ} {rest : Geometry → ℕ → List Refusal}
    (o : OnReel op s map scratch script true reel rest) (b : Buffers) where
  bad_by : (v : Result Geometry enums.Refusal) → v ≡ checks_on s.image map scratch script → {why : enums.Refusal} → slot_past s.image reel v ≡ Err why
      → ended (number_of why) 0 s (all_buffers (scratch_begun (Err why) b.scratch) b.script b.list b.copy) ≡ ends op s b
  bad_by (Err w) e {why} q =
      let told : ◌≡◌ {A = Result Geometry enums.Refusal} (Err w) (Err why) = cc in
      let most = (refused_first s.image (by_length map) (by_length scratch) (by_length script) (sym told ∙ e)).most in
      rw (← past_3 (number_of why) most) (check_bad o.tested b e told)
  bad_by (Ok g) e {why} q = elim (test (leb g.slots (slot_of g (reads s.image) reel))) [
    | inl l ↦
        let k : ◌≡◌ {A = Result ReelSlot enums.Refusal} (Err NoReel) (Err why) = rw l at q in
        let same : NoReel ≡ why = cc in
        rw (← same) (no_reel o b (record { checked = all_checked s.image map scratch script e refl; slot_is = refl }) (leb-true _ _ l))
    | inr l ↦ let k = rw l at q in cc
  ]

  pub begun_bad : {x : Result ReelSlot enums.Refusal} {why : enums.Refusal} → x ≡ slot_past s.image reel (checks_on s.image map scratch script) → x ≡ Err why
      → {left : List ℕ} → left ≡ scratch_begun x b.scratch → ended (number_of why) 0 s (all_buffers left b.script b.list b.copy) ≡ ends op s b
  begun_bad q told l = rw (l, told) (bad_by _ refl (sym q ∙ told))
