-- The state that an operation and its script leave, answered or refused.
use mathlib.Core.Path.{◌≡◌, refl, ◌∙◌, ap}
use mathlib.Core.Logic.{◌≢◌}
use Prim.Native.Nat.{ℕ}
use Rattle.tree.specs.Memory.{segmented, apply}
use Rattle.tree.proofs.Memory.{apply_none}
use Rattle.book.specs.State.{State, Operation, leaving}
use Rattle.book.specs.Perform.{granted, perform}
use Rattle.book.specs.Histories.{carried_out, done}
use Rattle.book.specs.Demands.{Leaves, as_before, map_cleared}
use Rattle.book.proofs.Performed.{work_granted}
use Rattle.book.proofs.Demand1.{demand1}

-- work that only leaves a state
pub carried_leaving : (s : State) → carried_out (leaving s) ≡ s
carried_leaving s = ap (λ m. record { image = m; pool = s.pool; heads = s.heads }) (apply_none s.image)

pub done_granted : (op : Operation) (s : State) → (perform op s).answer ≡ 0 → done op s ≡ carried_out (granted op s)
done_granted op s h = ap carried_out (work_granted op s h)

-- a refusal leaves the image and the heads; one that is not 4 leaves all
left_image : {op : Operation} {s s' : State} {n : ℕ} → Leaves s op n s' → s'.image ≡ s.image
left_image (as_before c q) = ap (λ s. s.image) q
left_image (map_cleared q h l z) = q

left_heads : {op : Operation} {s s' : State} {n : ℕ} → Leaves s op n s' → s'.heads ≡ s.heads
left_heads (as_before c q) = ap (λ s. s.heads) q
left_heads (map_cleared q h l z) = h

left_all : {op : Operation} {s s' : State} {n : ℕ} → Leaves s op n s' → n ≢ 4 → s' ≡ s
left_all (as_before c q) h = q
left_all (map_cleared q k l z) h = absurd (h refl)

module _ (op : Operation) (s : State) (h : (perform op s).answer ≢ 0) where
  pub refused_image : (perform op s).work.after.image ≡ s.image
  refused_image = left_image (demand1.refused op s h).left

  pub refused_heads : (done op s).heads ≡ s.heads
  refused_heads = left_heads (demand1.refused op s h).left

  done_refused : done op s ≡ (perform op s).work.after
  done_refused =
      let a = (perform op s).work.after in
      ap (λ x. record { image = apply a.image (segmented x); pool = a.pool; heads = a.heads }) (demand1.refused op s h).no_store ∙ carried_leaving a

  pub done_image : (done op s).image ≡ s.image
  done_image = ap (λ x. x.image) done_refused ∙ refused_image

  pub done_same : (perform op s).answer ≢ 4 → done op s ≡ s
  done_same k = done_refused ∙ left_all (demand1.refused op s h).left k
