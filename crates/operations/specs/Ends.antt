-- What the driver finds when an operation has ended: its answer, the count, the places left and the number of nodes on the path that are
-- handed back, and every buffer.
use Rattle.std.specs.Prelude.{List, [], ℕ, ◌*◌, length}
use Rattle.tree.specs.Memory.{segmented, written}
use Rattle.tree.specs.Subtree.{listed}
use Rattle.book.specs.State.{State, Operation, format, recover, open_reel, claim, fill, commit, abandon, remove, retire, tidy, query, Work, Outcome, scratch_after, copy_after}
use Rattle.book.specs.Perform.{perform}

-- what an operation may borrow beside the state; the copy is Convert's second image
pub record Buffers : Type 0 where
  pub scratch : List ℕ
  pub script : List ℕ
  pub list : List ℕ
  pub copy : List ℕ

abbrev pub all_buffers : (scratch script list copy : List ℕ) → Buffers
all_buffers scratch words frames copy = record { scratch = scratch; script = words; list = frames; copy = copy }

-- without a copy: every operation but Convert
abbrev pub buffers : (scratch script list : List ℕ) → Buffers
buffers scratch words frames = all_buffers scratch words frames []

abbrev pub no_buffers : Buffers
no_buffers = buffers [] [] []

abbrev pub state : (image pool heads : List ℕ) → State
state image pool heads = record { image = image; pool = pool; heads = heads }

pub record Ends : Type 0 where
  pub answer : ℕ
  pub count : ℕ
  pub places_left_lem : ℕ
  pub path_nodes : ℕ
  pub after : State
  pub buffers : Buffers

abbrev pub ended_telling : (answer count places_left_lem path_nodes : ℕ) → State → Buffers → Ends
ended_telling answer count left nodes after b =
    record { answer = answer; count = count; places_left_lem = left; path_nodes = nodes; after = after; buffers = b }

-- Claim's end, with places left
abbrev pub ended_left : (answer count places_left_lem : ℕ) → State → Buffers → Ends
ended_left answer count left after b = ended_telling answer count left 0 after b

-- Has's end, with the number of nodes on the path
abbrev pub ended_path : (answer count path_nodes : ℕ) → State → Buffers → Ends
ended_path answer count nodes after b = ended_telling answer count 0 nodes after b

-- every other operation's
abbrev pub ended : (answer count : ℕ) → State → Buffers → Ends
ended answer count after b = ended_telling answer count 0 0 after b

-- the count handed back: Has's yes or no, List's frames, 0 of Convert, else the script's words
abbrev pub count_in : Operation → Work → ℕ
count_in (query q) w = w.handed.value
count_in (format map table slots nodes) w = 0
count_in (recover map) w = 0
count_in (open_reel map script reel) w = 2 * length (segmented w.script)
count_in (claim map script h reel f) w = 2 * length (segmented w.script)
count_in (fill script h) w = 2 * length (segmented w.script)
count_in (commit script h) w = 2 * length (segmented w.script)
count_in (abandon script h) w = 2 * length (segmented w.script)
count_in (remove script reel f) w = 2 * length (segmented w.script)
count_in (retire map scratch script reel) w = 2 * length (segmented w.script)
count_in (tidy map scratch script reel) w = 2 * length (segmented w.script)

-- an outcome, as the driver finds it: the script written at its buffer's start, the frames at the list's
unfoldable pub found : Operation → Outcome → Buffers → Ends
found op o b =
    ended_telling o.answer (count_in op o.work) o.places_left_lem o.work.handed.path_nodes o.work.after
    (all_buffers (scratch_after o.cleared b.scratch) (written (segmented o.work.script) b.script)
    (listed o.work.handed.listing b.list) (copy_after o.work.handed.copy b.copy))

unfoldable pub ends : Operation → State → Buffers → Ends
ends op s b = found op (perform op s) b
