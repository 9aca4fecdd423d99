-- Retire and Tidy, which refuse a reel that a head is about: 13, and how they end past it.
use mathlib.Core.Path.{◌≡◌, sym, ◌∙◌}
use mathlib.Core.Bool.{Bool, true, false}
use mathlib.Core.Option.{some}
use mathlib.Core.List.{List, [], ◌∷◌}
use Prim.Native.Nat.{ℕ, ◌<◌}
use native.Mathlib.Omega.{arith}
use lib.ListN.{length}
use Rattle.tree.specs.Test.{is}
use Rattle.tree.specs.declared.layout.Geometry.{Geometry}
use Rattle.tree.specs.Pool.{clear_map}
use Rattle.book.specs.declared.Head.{Head}
use Rattle.book.specs.Heads.{names, busy}
use Rattle.book.specs.Refusals.{Refusal, ◌gives◌, refusal}
use Rattle.book.specs.State.{Operation, State}
use Rattle.book.specs.Perform.{granted, left_by}
use Rattle.book.proofs.Refusals.{refused_here, refused_later}
use Rattle.operations.specs.HeadLists.{heads_in, busy_in}
use Rattle.operations.specs.Ends.{Buffers, buffers, ended, found, ends}
use Rattle.operations.proofs.HeadRecords.{any_read}
use Rattle.operations.proofs.Tested.{OnReel, SlotRead, rest_bad, rest_done}

-- past 5 the operation tests 13, then the rest
abbrev pub OnIdleReel : Operation → State → (pool scratch script : List ℕ) (reel : ℕ) → (Geometry → ℕ → List Refusal) → Type 0
OnIdleReel op s pool scratch script reel rest =
    OnReel op s (some pool) (some scratch) (some script) true reel (λ g slot. (is (busy s.heads slot) gives 13) ∷ rest g slot)

module _ {op : Operation} {s : State} {pool scratch script : List ℕ} {reel : ℕ} {rest : Geometry → ℕ → List Refusal}
    (o : OnIdleReel op s pool scratch script reel rest)
    {g : Geometry} {slot : ℕ} (p : SlotRead s.image (some pool) (some scratch) (some script) reel g slot) (inside : slot < g.slots)
    (heads : List Head) (read : heads_in s.heads ≡ heads) where
  abbrev lent : Buffers
  lent = buffers scratch script []

  busy_is : (b : Bool) → busy_in heads slot ≡ b → busy s.heads slot ≡ b
  busy_is b e = sym (any_read (names slot) s.heads heads read) ∙ e

  pub slot_busy : busy_in heads slot ≡ true → ended 13 0 s (buffers (clear_map (length scratch)) script []) ≡ ends op s lent
  slot_busy e = rest_bad o lent p inside 13 (refused_here _ _ (busy_is true e)) (omega arith)

  module _ (idle : busy_in heads slot ≡ false) where
    not_busy : refusal ((is (busy s.heads slot) gives 13) ∷ rest g slot) ≡ refusal (rest g slot)
    not_busy = refused_later _ _ (busy_is false idle)

    pub idle_bad : (n : ℕ) → refusal (rest g slot) ≡ n → 3 < n → ended n 0 s (buffers (clear_map (length scratch)) script []) ≡ ends op s lent
    idle_bad n e = rest_bad o lent p inside n (not_busy ∙ e)

    pub idle_done : refusal (rest g slot) ≡ 0
        → ends op s lent ≡ found op (record { answer = 0; work = granted op s; cleared = true; places_left_lem = left_by op s }) lent
    idle_done e = rest_done o lent p inside (not_busy ∙ e)
