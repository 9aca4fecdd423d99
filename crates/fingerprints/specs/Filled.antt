-- An array filled in turn with a function's values.
use Rattle.std.specs.Prelude.{◌≡◌, List, ℕ, ◌<◌, length, get_or}

-- n entries, the first i of them filled
pub record FilledTo (f : ℕ → ℕ) (n : ℕ) (xs : List ℕ) (i : ℕ) : Type 0 where
  pub long : length xs ≡ n
  pub filled : (j : ℕ) → j < i → get_or xs j 0 ≡ f j
