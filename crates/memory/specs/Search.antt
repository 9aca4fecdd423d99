-- The one search: every "lowest .. such that" of the paper.
use Rattle.std.specs.Prelude.{Bool, cond, ℕ, zero, suc}

-- the least index below n at which p holds; n where there is none
unfoldable pub first : (ℕ → Bool) → ℕ → ℕ
first p zero = zero
first p (suc n) = cond (p 0) 0 (suc (first (λ i. p (suc i)) n))
