-- The memory module with line flushes (the paper's words): statements alone. Demands and pages beside them hold there as they stand, for
-- `Histories` has the module as its parameter; here is that histories there are not fewer, and what these rest on: when an operation has
-- ended, nothing is pending. For an operation that writes an image itself that is the driver's to see to: `Lasting` of `flushes`, with
-- `each-line-lasts` and `left_out` of ModuleLaws there, which `Driven` (operations, specs) asks of it.
use Rattle.std.specs.Prelude.{◌≡◌, ◌⊎◌, ◌↔◌, List, ℕ, length}
use Rattle.tree.specs.Memory.{reads, segmented, FlushCrash, translated, Module, plain, ours_on, flushed_after}
use Rattle.tree.specs.Recovery.{recover_stores}
use Rattle.book.specs.State.{State, Operation, recover, memory, shape}
use Rattle.book.specs.Perform.{perform}
use Rattle.book.specs.Table.{Table}
use Rattle.book.specs.Histories.{done, Interrupted, Recovered, Follows}

pub record Flushing : Type 0 where
  -- ---- either module has the same histories
  -- a crash there leaves what one on the present module could have left, cut as far into our script
  pub cut_as_far : (on : Module) (op : Operation) (s : State) (k : ℕ) (m : List ℕ) → Interrupted on op s k m
      → Interrupted plain op s (ours_on on (segmented (perform op s).work.script) k) m
  -- and whatever can be left here can be left there
  pub left_there : (on : Module) (op : Operation) (s : State) (k : ℕ) (m : List ℕ) → Interrupted plain op s k m → (k' : ℕ) × Interrupted on op s k' m
  pub same_recoveries : (on : Module) (m : List ℕ) (s : State) → Recovered on m s ↔ Recovered plain m s
  pub same_histories : (on : Module) (s : State) (t : Table) → Follows on s t ↔ Follows plain s t
  -- ---- nothing is pending when an operation has ended
  -- a script that has been carried out lasts
  pub script_lasts : (op : Operation) (s : State) (m : List ℕ) → let es = translated (segmented (perform op s).work.script) in
      FlushCrash (perform op s).work.after.image es (length es) m → m ≡ (done op s).image
  -- Recover: power lost in it, or in the driver's flushes after it, leaves each word old or new, as `Interrupted` has it
  pub recover_cut : (words : ℕ) (s : State) (lines : List ℕ) (k : ℕ) (m : List ℕ) → (perform (recover words) s).answer ≡ 0
      → FlushCrash s.image (flushed_after (recover_stores (shape s) (memory s)) lines) k m
      → (i : ℕ) → (reads m i ≡ memory s i) ⊎ (reads m i ≡ memory (perform (recover words) s).work.after i)
