-- The search for a place in a node, in the terms of its code.
use mathlib.Core.Path.{◌≡◌, refl}
use mathlib.Core.Bool.{not}
use Prim.Native.Nat.{ℕ, ◌-◌, ◌^◌, ◌≤◌, ◌<◌}
use lib.Count.{ones, ones-le}
use borrow.Author.Tests.{lt-ltb, le-ltb}
use Rattle.memory.specs.Words.{Memory, is_set, with_bit}
use Rattle.memory.specs.Search.{first}
use Rattle.memory.proofs.Laws.{bit_laws}
use Rattle.tree.specs.declared.layout.Geometry.{Geometry}
use Rattle.std.specs.Prelude.{Some, None}
use Rattle.tree.specs.Layout.{locate_at, size_at}
use Rattle.tree.specs.Lookup.{clear_at}
use Rattle.tree.specs.Room.{left_at, clear_place}

-- a word with a place of its node's size has no more ones than that
pub ones_fit : {size locate place word : ℕ} → word ≡ with_bit locate place → place < size → locate < 2 ^ size → ones word ≤ size
ones_fit {size} {locate} {place} w h k = rw w (ones-le size (with_bit locate place) (bit_laws.with_fits locate place size h k))

module _ (g : Geometry) (m : Memory) (n : ℕ) {size locate place : ℕ} (s : size ≡ m (size_at g n)) (l : locate ≡ m (locate_at g n))
    (p : place ≡ first (λ k. not (is_set locate k)) size) where
  pub none_clear : size ≤ place → None ≡ clear_place g m n
  unfolding clear_place clear_at
  none_clear h = rw (← s, ← l, ← p, le-ltb place size h) refl

  pub one_clear : {word : ℕ} → word ≡ with_bit locate place → place < size → Some (record { place = place; left = size - ones word }) ≡ clear_place g m n
  unfolding clear_place clear_at left_at
  one_clear w h = rw (← s, ← l, ← p, lt-ltb place size h, w) refl
