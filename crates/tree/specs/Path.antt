-- Path of a frame: which child it goes to at each level.
use Rattle.std.specs.Prelude.{cond, List, [], ◌∷◌, ℕ, zero, suc, ◌+◌, ◌-◌, ◌*◌, ltb}
use Rattle.memory.specs.Words.{bit}

-- levels are 0 to 31
abbrev pub levels : ℕ
levels = 32

-- how many children a node of a level has, if it has any: two at levels 0 to 2, four at 3 to 30; level 31 has none
unfoldable pub fanout : ℕ → ℕ
fanout k = cond (ltb k 3) 2 (cond (ltb k 31) 4 0)

-- the child of a node of a level that a frame goes to: bit k at levels 0 to 2, then bit 2k − 3 plus 2 × bit 2k − 2
unfoldable pub child : ℕ → ℕ → ℕ
child k f = cond (ltb k 3) (bit f k) (bit f (2 * k - 3) + 2 * bit f (2 * k - 2))

-- a frame's way down to level k: its child numbers, deepest first
unfoldable pub way_of : ℕ → ℕ → List ℕ
way_of zero f = []
way_of (suc k) f = child k f ∷ way_of k f

-- how many low bits of a frame its way to level k reads: one a level to level 3, then two
abbrev pub bits_to : ℕ → ℕ
bits_to k = k + (k - 3)
