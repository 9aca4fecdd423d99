-- What a stretch of numbers is, and a floor: the statements alone.
use Rattle.std.specs.Prelude.{◌≡◌, ◌↔◌, ℕ, ◌+◌, ◌≤◌}
use Rattle.std.proofs.Math.Option.{Option, none, some}
use mathlib.Core.List.{List, ◌++◌, Memᴰ}
use Rattle.tree.specs.Lists.{Distinct}
use Rattle.sorting.specs.Sorted.{stretch, floor_in, floor_from}
use Rattle.sorting.specs.Laws.{Rises, SameNumbers}

-- a number of a list at or below a bound, and none of the list between the two
pub record IsFloor (bound : ℕ) (xs : List ℕ) (x : ℕ) : Type 0 where
  pub member : Memᴰ x xs
  pub low : x ≤ bound
  pub greatest : (y : ℕ) → Memᴰ y xs → y ≤ bound → y ≤ x

pub record StretchLaws : Type 0 where
  -- a stretch rises, and has exactly the numbers from the first to the last
  pub rises : (a b : ℕ) (xs : List ℕ) → Rises (stretch a b xs)
  pub members : (a b : ℕ) (xs : List ℕ) (x : ℕ) → Memᴰ x (stretch a b xs) ↔ (Memᴰ x xs × (a ≤ x) × (x ≤ b))
  pub once : (a b : ℕ) (xs : List ℕ) → Distinct (λ x. x) (stretch a b xs)
  -- so it depends on the numbers alone
  pub alike : (a b : ℕ) (xs ys : List ℕ) → SameNumbers xs ys → stretch a b xs ≡ stretch a b ys
  -- it may be taken in two parts
  pub parts : (a c b : ℕ) (xs : List ℕ) → a ≤ c + 1 → c ≤ b → stretch a b xs ≡ stretch a c xs ++ stretch (c + 1) b xs

pub record FloorLaws : Type 0 where
  pub found : (b : ℕ) (xs : List ℕ) (x : ℕ) → (floor_in b xs ≡ some x) ↔ IsFloor b xs x
  pub none_below : (b : ℕ) (xs : List ℕ) → (floor_in b xs ≡ none) ↔ ((y : ℕ) → Memᴰ y xs → y ≤ b → ⊥)
  pub alike : (b : ℕ) (xs ys : List ℕ) → SameNumbers xs ys → floor_in b xs ≡ floor_in b ys
  -- from the first number on it is the same, part by part
  pub from : (b : ℕ) (xs : List ℕ) → floor_from b none xs ≡ floor_in b xs
  pub from_parts : (b : ℕ) (o : Option ℕ) (xs ys : List ℕ) → floor_from b o (xs ++ ys) ≡ floor_from b (floor_from b o xs) ys
