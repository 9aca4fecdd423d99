-- Numbers in decimal, as ASCII bytes.
use Rattle.std.specs.Prelude.{true, false, List, [], ◌∷◌, ◌++◌, ℕ, zero, suc, ◌+◌, ◌/◌, ◌%◌, ltb}

-- the last digits of a number, at most so many: n itself below 10, else the digits of n / 10 and then that of n % 10
unfoldable pub digits : ℕ → ℕ → List ℕ
digits zero n = []
digits (suc most) n = elim (ltb n 10) [ true ↦ (48 + n) ∷ [] | false ↦ digits most (n / 10) ++ (48 + n % 10) ∷ [] ]

-- a number's digits without leading zeros; there are no more than n + 1
unfoldable pub decimal : ℕ → List ℕ
decimal n = digits (suc n) n
