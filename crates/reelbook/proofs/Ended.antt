-- What the driver's end of an operation says: where its head's record may be written, and that Format and Recover hand back no count.
use mathlib.Core.Path.{◌≡◌, refl, sym, ◌∙◌, ap}
use mathlib.Core.List.{List}
use Prim.Native.Nat.{ℕ}
use Rattle.std.specs.Prelude.{Result}
use Rattle.book.specs.State.{State, Operation, format, recover}
use Rattle.operations.specs.declared.answer.Refusal.{Refusal}
use Rattle.operations.specs.declared.answer.HeadDone.{HeadDone}
use Rattle.operations.specs.HeadLists.{head_answer_of, HeadInside}
use Rattle.operations.specs.Ends.{Buffers, Ends, ended_telling, ended, found, ends}
use Rattle.operations.proofs.HandedOver.{OfHead, inside}

pub head_inside : {h : ℕ} {op : Operation} → OfHead h op → (s : State) (b : Buffers) (r : Result HeadDone Refusal)
    {k l d : ℕ} {s' : State} {b' : Buffers}
    → ended_telling (head_answer_of r) k l d s' b' ≡ ends op s b → HeadInside h r
head_inside o s b r e = inside o s b r (ap (λ (x : Ends). x.answer) e)

-- an end with no count, by whatever count it was told
no_count : {x : Ends} (n k : ℕ) (s : State) (b : Buffers) → ended n k s b ≡ x → x.count ≡ 0 → ended n 0 s b ≡ x
no_count n k s b e z = ap (λ i. ended n i s b) (sym (ap (λ (y : Ends). y.count) e ∙ z)) ∙ e

module _ (s : State) (b : Buffers) (n k : ℕ) (s' : State) (b' : Buffers) where
  pub format_counts : (map : ℕ) (table : List ℕ) (slots nodes : ℕ) → ended n k s' b' ≡ ends (format map table slots nodes) s b → ended n 0 s' b' ≡ ends (format map table slots nodes) s b
  unfolding ends found
  format_counts map table slots nodes e = no_count n k s' b' e refl

  pub recover_counts : (map : ℕ) → ended n k s' b' ≡ ends (recover map) s b → ended n 0 s' b' ≡ ends (recover map) s b
  unfolding ends found
  recover_counts map e = no_count n k s' b' e refl
