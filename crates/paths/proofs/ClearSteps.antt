-- The search for a clear place along a path, with the places left: in the terms of the code that walks it.
use mathlib.Core.Path.{◌≡◌, refl, sym, ◌∙◌, ap, subst}
use mathlib.Core.Logic.{inl, inr}
use mathlib.Core.Bool.{Bool, true, false}
use mathlib.Core.Option.{Option, none, some}
use mathlib.Core.List.{[], ◌∷◌}
use Prim.Native.Nat.{ℕ, ◌+◌, ◌*◌, ◌/◌, ◌%◌, ◌^◌, ◌≤◌, ◌<◌}
use native.Mathlib.Omega.{arith}
use lib.Dec.{ltb}
use borrow.Author.Tests.{ltb-true, ltb-false}
use Rattle.memory.specs.Words.{Memory}
use Rattle.tree.specs.declared.layout.Geometry.{Geometry}
use Rattle.tree.specs.declared.path.Spot.{Spot}
use Rattle.tree.specs.declared.path.ClearPlace.{ClearPlace}
use Rattle.std.specs.Prelude.{Option as Optional, Some, None}
use Rattle.tree.specs.Layout.{locate_at, size_at}
use Rattle.tree.specs.Lookup.{spot, clear_at}
use Rattle.tree.specs.Room.{left_at, clear_place}
use Rattle.tree.proofs.Cases.{test}
use Rattle.tree.proofs.Ones.{ones_clear}
use Rattle.tree.proofs.Laws.{left_laws}
use Rattle.paths.specs.Descent.{numbered, left_of, TellsLeft, or_else, clear_if}
use Rattle.paths.proofs.PathSteps.{number_none, number_spot, number_kept, clears, found_here, found_nowhere}

module _ (g : Geometry) (m : Memory) where
  -- what the next number is to be
  abbrev pub Next : (seek : Bool) (clear n next : ℕ) → Type 0
  Next seek clear n next = (numbered (next / 64) ≡ or_else (numbered (clear / 64)) (clear_if g m seek (n ∷ []))) × TellsLeft g m next

  pub none_told : TellsLeft g m 0
  none_told = rw number_none refl

  -- where none is sought, none is found
  pub not_sought : {seek : Bool} (k n : ℕ) → TellsLeft g m k → seek ≡ false → Next seek k n k
  unfolding clear_if
  not_sought k n t q = rw q (or_none (numbered (k / 64)), t)
    where
      or_none : (o : Option Spot) → o ≡ or_else o none
      or_none none = refl
      or_none (some s) = refl

  -- a number that is not 0 stands for a place, which stays
  pub clear_kept : (seek : Bool) (k n : ℕ) → TellsLeft g m k → (k ≡ 0 → ⊥) → Next seek k n k
  clear_kept seek k n t z =
      let some : k / 64 ≡ 0 → ⊥ = λ q. z (omega (arith, q, t ∙ ap (λ i. left_of g m (numbered i)) q ∙ ap (left_of g m) number_none)) in
      (number_kept (k / 64) _ some, t)

  module _ (n : ℕ) where
    -- what the search says of a node
    abbrev Says : Optional ClearPlace → Type 0
    Says None = m (size_at g n) ≤ clear_at g m n
    Says (Some c) = (c.place ≡ clear_at g m n) × (c.place < m (size_at g n)) × (c.left ≡ left_at g m (spot n c.place))

    says : {x y : Optional ClearPlace} → x ≡ clear_place g m n → x ≡ y → Says y
    unfolding clear_place
    says e q = subst Says (sym e ∙ q) (elim (test (ltb (clear_at g m n) (m (size_at g n)))) [
      | inl h ↦ rw h (refl, ltb-true _ _ h, refl)
      | inr h ↦ rw h (ltb-false _ _ h)
    ])

    module _ {seek : Bool} (sought : seek ≡ true) {clear : ℕ} (z : clear ≡ 0) {x : Optional ClearPlace} (e : x ≡ clear_place g m n) where
      none_yet : clear / 64 ≡ 0
      none_yet = omega (arith, z)

      pub clear_nowhere : x ≡ None → Next seek clear n 0
      clear_nowhere q = rw sought (found_nowhere (clears g m true) none_yet n (clear_at g m n) refl (says e q), none_told)

      module _ {c : ClearPlace} (q : x ≡ Some c) (small : m (size_at g n) ≤ 64) (fits : m (locate_at g n) < 2 ^ m (size_at g n)) where
        -- the place and the places left are below 64
        pub few : (c.place < 64) × (c.left < 64)
        few =
            let s = says e q in
            let all = ones_clear (m (locate_at g n)) (m (size_at g n)) fits in
            let l = (left_laws g m).clear n fits (rw s.0 at s.1) in
            let k : c.left ≡ left_at g m (spot n (clear_at g m n)) = s.2 ∙ ap (λ i. left_at g m (spot n i)) s.0 in
            (omega (arith, s.1), omega (arith, all, l, k))

        pub clear_here : Next seek clear n (64 * (64 * n + c.place + 1) + c.left)
        clear_here =
            let s = says e q in
            let number : (64 * (64 * n + c.place + 1) + c.left) / 64 ≡ 64 * n + c.place + 1 = omega (arith, few.1) in
            let low : (64 * (64 * n + c.place + 1) + c.left) % 64 ≡ c.left = omega (arith, few.1) in
            rw (sought, number, low) (
              found_here (clears g m true) none_yet n c.place s.0 few.0 s.1,
              s.2 ∙ sym (ap (left_of g m) (number_spot n c.place few.0)),
            )
