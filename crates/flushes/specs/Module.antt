-- The two memory modules: what is carried out of our scripts on each, what power lost on the way can leave there, and what a driver owes to
-- an image that an operation writes itself.
use Rattle.std.specs.Prelude.{◌≡◌, List, [], ◌∷◌, ◌++◌, map, ℕ, length}
use Rattle.memory.specs.Script.{Entry, barrier, flush, Store, stores}
use Rattle.memory.specs.Crash.{apply, CrashImage}
use Rattle.flushes.specs.Crash.{FlushCrash}
use Rattle.flushes.specs.Translate.{translated, as_far}

-- the present module, where a store lasts once a barrier has followed; and the one where its line has to be flushed before that
pub data Module : Type 0 where
  plain flushing : Module

-- the entries carried out there for entries of ours
abbrev pub entries_on : Module → List Entry → List Entry
entries_on plain es = es
entries_on flushing es = translated es

-- an image that power lost there after k entries can leave
abbrev pub CrashOn : Module → List ℕ → List Entry → ℕ → List ℕ → Type 0
CrashOn plain m es k m' = CrashImage m es k m'
CrashOn flushing m es k m' = FlushCrash m es k m'

-- how many entries of ours are among the first k carried out there
abbrev pub ours_on : Module → List Entry → ℕ → ℕ
ours_on plain es k = k
ours_on flushing es k = as_far es k

-- ---- an operation that writes an image itself

-- the stores that it makes itself, the driver's flushes, the driver's barrier
abbrev pub flushed_after : List Store → (lines : List ℕ) → List Entry
flushed_after own lines = stores own ++ (map flush lines ++ barrier ∷ [])

-- the same on either module: the present one asks for the barrier alone
abbrev pub own_on : Module → List Store → (lines : List ℕ) → List Entry
own_on plain own lines = stores own ++ barrier ∷ []
own_on flushing own lines = flushed_after own lines

-- what it wrote lasts: whatever stores have made the image after it of the one before, power lost behind the flushes of these lines and
-- the barrier leaves the image after it
pub record Lasting (on : Module) (before after : List ℕ) (lines : List ℕ) : Type 0 where
  pub lasts : (own : List Store) → apply before (stores own) ≡ after → (m : List ℕ)
      → CrashOn on before (own_on on own lines) (length (own_on on own lines)) m → m ≡ after
