-- Histories of a book (the paper's runs): operations, and power lost at any moment (the paper's cuts), on either memory module.
use Rattle.std.specs.Prelude.{◌≡◌, ◌⊎◌, ◌≢◌, List, ℕ, length}
use Rattle.tree.specs.Fingerprint.{is_given}
use Rattle.tree.specs.Memory.{reads, segmented, apply, Module, entries_on, CrashOn, passed, Fit}
use Rattle.book.specs.State.{State, Operation, format, recover, arguments, Work, memory}
use Rattle.book.specs.Perform.{perform}
use Rattle.book.specs.Table.{Table, Reply, fed, reply, empty_table, all_idle}
use Rattle.book.specs.Agrees.{Shows, Agrees}

-- the state that work leaves once its script is carried out
abbrev pub carried_out : Work → State
carried_out w = record { image = apply w.after.image (segmented w.script); pool = w.after.pool; heads = w.after.heads }

-- an operation done, and its script carried out
abbrev pub done : Operation → State → State
done op s = carried_out (perform op s).work

-- the table's reply, fed whether the book's answer is 8, 13 or 18
abbrev pub replied : Operation → State → Table → Reply
replied op s t = reply op (fed (perform op s).answer) t

-- operations that run on steady power: an answered format
pub data Steady : Operation → ℕ → Type 0 where
  answered_format : {words slots nodes : ℕ} {table : List ℕ} → Steady (format words table slots nodes) 0

-- the images that power lost within an operation can leave: of its script, after k entries carried out on the module; of one that writes the image
-- itself, each word old or new. Power lost between two operations is k = 0 of any next one.
pub record Interrupted (on : Module) (op : Operation) (s : State) (k : ℕ) (m' : List ℕ) : Type 0 where
  pub unsteady : Steady op (perform op s).answer → ⊥
  pub itself : List ℕ
  pub same_length : length itself ≡ length s.image
  pub old_or_new : (i : ℕ) → (reads itself i ≡ memory s i) ⊎ (reads itself i ≡ memory (perform op s).work.after i)
  pub script : CrashOn on itself (entries_on on (segmented (perform op s).work.script)) k m'

-- recoveries that were refused, or interrupted themselves, each with any map and any heads: from image to image
pub data Attempts (on : Module) : List ℕ → List ℕ → Type 0 where
  none_yet : {m : List ℕ} → Attempts on m m
  refused : {m m' : List ℕ} (words : ℕ) (s : State) → s.image ≡ m → (perform (recover words) s).answer ≢ 0
      → Attempts on (done (recover words) s).image m' → Attempts on m m'
  interrupted : {m m' m'' : List ℕ} (words : ℕ) (s : State) (k : ℕ) → s.image ≡ m → Interrupted on (recover words) s k m'
      → Attempts on m' m'' → Attempts on m m''

-- then one that is answered and ends
pub record Recovered (on : Module) (m : List ℕ) (s' : State) : Type 0 where
  pub left : List ℕ
  pub attempts : Attempts on m left
  pub words : ℕ
  pub from : State
  pub image : from.image ≡ left
  pub answered : (perform (recover words) from).answer ≡ 0
  pub is : s' ≡ done (recover words) from

-- what may come next in a history: an operation, or a crash in one and a recovery that ends
pub data Next (on : Module) (s : State) : State → Type 0 where
  performed : (op : Operation) → Fit (arguments op) → Next on s (done op s)
  crashed : {s' : State} {m : List ℕ} (op : Operation) → Fit (arguments op) → (k : ℕ) → Interrupted on op s k m → Recovered on m s' → Next on s s'

-- what a history starts with: a format that is answered, over any memory, map and heads; or an image of either edition that shows a
-- table, and a recovery that ends, after any that were refused or interrupted
pub data Starts (on : Module) : State → Table → Type 0 where
  formatted : (words : ℕ) (table : List ℕ) (slots nodes : ℕ) (s : State) → Fit s.image → (perform (format words table slots nodes) s).answer ≡ 0
      → Starts on (done (format words table slots nodes) s) (empty_table (is_given table) slots nodes)
  found : {s : State} {m : List ℕ} {t : Table} → Shows m t → Recovered on m s → Starts on s (all_idle t)

-- a history so far, by the state and the table that it has come to. At a crash the table becomes the one before, while a barrier was
-- left to pass, or the one after: whichever the recovered book shows then. The history goes on with that one, and no later event can
-- change it.
pub data Follows (on : Module) : State → Table → Type 0 where
  started : {s : State} {t : Table} → Starts on s t → Follows on s t
  performed : {s : State} {t : Table} → Follows on s t → (op : Operation) → Fit (arguments op)
      → Follows on (done op s) (replied op s t).work.after
  before : {s s' : State} {m : List ℕ} {t : Table} → Follows on s t → (op : Operation) → Fit (arguments op) → (k : ℕ)
      → Interrupted on op s k m → Recovered on m s' → (passed (entries_on on (segmented (perform op s).work.script)) k → ⊥) → Agrees s' (all_idle t)
      → Follows on s' (all_idle t)
  after : {s s' : State} {m : List ℕ} {t : Table} → Follows on s t → (op : Operation) → Fit (arguments op) → (k : ℕ)
      → Interrupted on op s k m → Recovered on m s' → Agrees s' (all_idle (replied op s t).work.after)
      → Follows on s' (all_idle (replied op s t).work.after)
