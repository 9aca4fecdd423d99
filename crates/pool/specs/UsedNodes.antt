-- What a walk over the used nodes of a map gives.
use Rattle.std.specs.Prelude.{◌≡◌, ℕ, ◌+◌, ◌<◌, List, Option, MatchOption}
use Rattle.tree.specs.Pool.{next_used}

-- the next used node from one on, and the walk goes on behind it; none where no node is used
abbrev pub NextUsed : (pool : List ℕ) (from nodes : ℕ) → Option ℕ → (from' : ℕ) → Type 0
NextUsed pool from nodes r from' =
    MatchOption r (next_used pool from nodes ≡ nodes) (λ n. (n ≡ next_used pool from nodes) × (n < nodes) × (from' ≡ n + 1))
