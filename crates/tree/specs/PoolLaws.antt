-- What is proved of the pool map: the statements alone.
use Rattle.std.specs.Prelude.{◌≡◌, true, false, ◌⊎◌, ◌↔◌, ◌≢◌, ℕ, ◌*◌, ◌≤◌, ◌<◌, length}
use mathlib.Core.List.{List, Memᴰ}
use Rattle.memory.specs.Words.{reads}
use Rattle.memory.specs.Laws.{Fit}
use Rattle.tree.specs.declared.layout.Geometry.{Geometry}
use Rattle.tree.specs.Layout.{map_words}
use Rattle.tree.specs.Pool.{used, next_used, mark, unmark, mark_all, unmark_all, clear_map, map_of}

-- every node of a list has a bit in the map
abbrev pub Mapped : List ℕ → List ℕ → Type 0
Mapped pool ns = (n : ℕ) → Memᴰ n ns → n < 64 * length pool

-- no node from one on and below n is used
pub record NoneUsed (pool : List ℕ) (from n : ℕ) : Type 0 where
  pub onward : from ≤ n
  pub none : (k : ℕ) → from ≤ k → k < n → used pool k ≡ false

-- n is the next used node from one on, or the bound
pub record Next (pool : List ℕ) (from bound n : ℕ) : Type 0 where
  pub none_before : NoneUsed pool from n
  pub within : n ≤ bound
  pub is_used : n < bound → used pool n ≡ true

pub record PoolLaws : Type 0 where
  -- a pool's nodes have a bit in its map
  pub inside : (g : Geometry) (n : ℕ) → n < g.nodes → n < 64 * map_words g
  -- the search for a used node has its answer, and no other
  pub next_tells : (pool : List ℕ) (from bound n : ℕ) → n ≡ next_used pool from bound → from ≤ bound → Next pool from bound n
  pub next_is : (pool : List ℕ) (from bound n : ℕ) → Next pool from bound n → n ≡ next_used pool from bound
  -- lengths stay
  pub length_mark : (pool : List ℕ) (n : ℕ) → length (mark pool n) ≡ length pool
  pub length_unmark : (pool : List ℕ) (n : ℕ) → length (unmark pool n) ≡ length pool
  pub length_mark_all : (pool ns : List ℕ) → length (mark_all pool ns) ≡ length pool
  pub length_unmark_all : (pool ns : List ℕ) → length (unmark_all pool ns) ≡ length pool
  pub length_clear : (n : ℕ) → length (clear_map n) ≡ n
  pub length-map : (g : Geometry) (ns : List ℕ) → length (map_of g ns) ≡ map_words g
  -- the nodes used: those marked and those used before; those used before and not unmarked
  pub marks : (pool : List ℕ) (n k : ℕ) → n < 64 * length pool → (used (mark pool n) k ≡ true) ↔ ((k ≡ n) ⊎ (used pool k ≡ true))
  pub unmarks : (pool : List ℕ) (n k : ℕ) → (used (unmark pool n) k ≡ true) ↔ ((used pool k ≡ true) × (k ≢ n))
  pub marks_all : (pool ns : List ℕ) (k : ℕ) → Mapped pool ns → (used (mark_all pool ns) k ≡ true) ↔ (Memᴰ k ns ⊎ (used pool k ≡ true))
  pub unmarks_all : (pool ns : List ℕ) (k : ℕ) → (used (unmark_all pool ns) k ≡ true) ↔ ((used pool k ≡ true) × (Memᴰ k ns → ⊥))
  -- none in a clear map, and in the map of given nodes exactly these
  pub clear_word : (n i : ℕ) → reads (clear_map n) i ≡ 0
  pub clear : (n k : ℕ) → used (clear_map n) k ≡ false
  pub map : (g : Geometry) (ns : List ℕ) (k : ℕ) → ((n : ℕ) → Memᴰ n ns → n < g.nodes) → (used (map_of g ns) k ≡ true) ↔ Memᴰ k ns
  -- words stay below 2^64
  pub fits_mark : (pool : List ℕ) (n : ℕ) → Fit pool → Fit (mark pool n)
  pub fits_unmark : (pool : List ℕ) (n : ℕ) → Fit pool → Fit (unmark pool n)
  pub fits_mark_all : (pool ns : List ℕ) → Fit pool → Fit (mark_all pool ns)
  pub fits_unmark_all : (pool ns : List ℕ) → Fit pool → Fit (unmark_all pool ns)
  pub fits_clear : (n : ℕ) → Fit (clear_map n)
  pub fits_map : (g : Geometry) (ns : List ℕ) → Fit (map_of g ns)
  -- two maps of one length with the same nodes used are one
  pub same_map : (pool pool' : List ℕ) → length pool ≡ length pool' → Fit pool → Fit pool' → ((k : ℕ) → used pool k ≡ used pool' k) → pool ≡ pool'
