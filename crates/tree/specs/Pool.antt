-- The pool map: bit n mod 64 of word n div 64 is 1 if node n is used.
use Rattle.std.specs.Prelude.{Bool, List, [], ◌∷◌, ℕ, ◌+◌, ◌-◌, ◌/◌, ◌%◌, set, replicate}
use Rattle.memory.specs.Words.{reads, with_bit, without_bit, marked}
use Rattle.memory.specs.Search.{first}
use Rattle.tree.specs.declared.layout.Geometry.{Geometry}
use Rattle.tree.specs.Layout.{map_words}

-- node n is used
abbrev pub used : List ℕ → ℕ → Bool
used pool n = marked (reads pool) n

-- the lowest used node from one on, below a bound; the bound where there is none
unfoldable pub next_used : (pool : List ℕ) (from bound : ℕ) → ℕ
next_used pool from bound = from + first (λ k. used pool (from + k)) (bound - from)

-- the map with node n used, and with it free
unfoldable pub mark : List ℕ → ℕ → List ℕ
mark pool n = set pool (n / 64) (with_bit (reads pool (n / 64)) (n % 64))

unfoldable pub unmark : List ℕ → ℕ → List ℕ
unmark pool n = set pool (n / 64) (without_bit (reads pool (n / 64)) (n % 64))

-- the same of several nodes, in turn
unfoldable pub mark_all : List ℕ → List ℕ → List ℕ
mark_all pool [] = pool
mark_all pool (n ∷ ns) = mark_all (mark pool n) ns

unfoldable pub unmark_all : List ℕ → List ℕ → List ℕ
unmark_all pool [] = pool
unmark_all pool (n ∷ ns) = unmark_all (unmark pool n) ns

-- a map with every node free
abbrev pub clear_map : ℕ → List ℕ
clear_map n = replicate n 0

-- the map that marks given nodes
unfoldable pub map_of : Geometry → List ℕ → List ℕ
map_of g ns = mark_all (clear_map (map_words g)) ns
