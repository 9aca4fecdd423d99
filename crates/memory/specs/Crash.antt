-- What a script does to persistent memory, and what a power failure on the way (the paper's cut) can leave.
use Rattle.std.specs.Prelude.{◌≡◌, Bool, true, false, cond, ◌⊎◌, ℕ, ◌≤◌, length, set, take, drop}
use mathlib.Core.List.{List, [], ◌∷◌, Memᴰ}
use Rattle.memory.specs.Words.{reads}
use Rattle.memory.specs.Script.{Entry, store, barrier, flush}

-- the image once entries are carried out, in order; barriers and flushes change nothing
unfoldable pub apply : List ℕ → List Entry → List ℕ
apply m [] = m
apply m (store i v ∷ es) = apply (set m i v) es
apply m (barrier ∷ es) = apply m es
apply m (flush l ∷ es) = apply m es

unfoldable pub has_barrier : List Entry → Bool
has_barrier [] = false
has_barrier (store i v ∷ es) = has_barrier es
has_barrier (barrier ∷ es) = true
has_barrier (flush l ∷ es) = has_barrier es

-- the entries up to the last barrier
unfoldable pub fenced : List Entry → List Entry
fenced [] = []
fenced (e ∷ es) = cond (has_barrier (e ∷ es)) (e ∷ fenced es) []

-- the entries since the last barrier
unfoldable pub unfenced : List Entry → List Entry
unfenced [] = []
unfenced (e ∷ es) = cond (has_barrier (e ∷ es)) (unfenced es) (e ∷ es)

-- an image that power lost after k entries can leave: entries up to the last barrier passed are carried out, and each
-- word by itself holds its content from then or any one of the stores to it since
pub record CrashImage (m : List ℕ) (es : List Entry) (k : ℕ) (m' : List ℕ) : Type 0 where
  pub within : k ≤ length es
  pub same_length : length m' ≡ length m
  pub each : (i : ℕ) → (reads m' i ≡ reads (apply m (fenced (take k es))) i)
      ⊎ Memᴰ (store i (reads m' i)) (unfenced (take k es))

-- after k entries no barrier is left to pass
abbrev pub passed : List Entry → ℕ → Type 0
passed es k = has_barrier (drop k es) ≡ false
