-- The module with line flushes: what a power failure (the paper's cut) can leave there.
use Rattle.std.specs.Prelude.{◌≡◌, Bool, false, cond, ◌||◌, ◌⊎◌, ℕ, ◌/◌, ◌≤◌, length, take, eqb}
use mathlib.Core.List.{List, [], ◌∷◌, ◌++◌, Memᴰ}
use Rattle.memory.specs.Words.{reads}
use Rattle.memory.specs.Script.{Entry, store, barrier, flush}
use Rattle.memory.specs.Crash.{apply, fenced, unfenced}

-- the line of a word
abbrev pub line_of : ℕ → ℕ
line_of i = i / 8

-- is an entry a flush of the line
unfoldable pub is_flush : ℕ → Entry → Bool
is_flush l (store i v) = false
is_flush l barrier = false
is_flush l (flush k) = eqb k l

unfoldable pub has_flush : ℕ → List Entry → Bool
has_flush l [] = false
has_flush l (e ∷ es) = is_flush l e || has_flush l es

-- the entries up to the last flush of a line
unfoldable pub flushed : ℕ → List Entry → List Entry
flushed l [] = []
flushed l (e ∷ es) = cond (has_flush l (e ∷ es)) (e ∷ flushed l es) []

-- the entries since the last flush of a line
unfoldable pub unflushed : ℕ → List Entry → List Entry
unflushed l [] = []
unflushed l (e ∷ es) = cond (has_flush l (e ∷ es)) (unflushed l es) (e ∷ es)

-- an image that power lost after k entries can leave on that module: for each word, entries up to the last flush of its line
-- that a barrier has followed are carried out, and the word by itself holds its content from then or any one of the stores to
-- it since, which are those not yet flushed and fenced
pub record FlushCrash (m : List ℕ) (es : List Entry) (k : ℕ) (m' : List ℕ) : Type 0 where
  pub within : k ≤ length es
  pub same_length : length m' ≡ length m
  pub each : (i : ℕ) → let done = take k es in
      (reads m' i ≡ reads (apply m (flushed (line_of i) (fenced done))) i)
      ⊎ Memᴰ (store i (reads m' i)) (unflushed (line_of i) (fenced done) ++ unfenced done)
