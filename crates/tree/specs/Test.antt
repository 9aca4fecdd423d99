-- A test as data: it computes as a Bool, and reads as a type.
use Rattle.std.specs.Prelude.{◌≡◌, Bool, true, not, ◌&&◌, ◌||◌, ◌⊎◌, ◌≢◌, ℕ, ◌≤◌, ◌<◌, eqb, ltb, leb}

infixr 35 ◌and◌
infixr 30 ◌or◌
pub data Test : Type 0 where
  lt le eq ne : ℕ → ℕ → Test
  is : Bool → Test
  ◌and◌ ◌or◌ : Test → Test → Test

abbrev pub holds : Test → Bool
holds (lt a b) = ltb a b
holds (le a b) = leb a b
holds (eq a b) = eqb a b
holds (ne a b) = not (eqb a b)
holds (is b) = b
holds (t and u) = holds t && holds u
holds (t or u) = holds t || holds u

abbrev pub Says : Test → Type 0
Says (lt a b) = a < b
Says (le a b) = a ≤ b
Says (eq a b) = a ≡ b
Says (ne a b) = a ≢ b
Says (is b) = b ≡ true
Says (t and u) = Says t × Says u
Says (t or u) = Says t ⊎ Says u
