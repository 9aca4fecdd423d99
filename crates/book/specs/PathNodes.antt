-- How far a lookup goes (the paper's words): the number of nodes on the path of Has's frame. Statements alone.
use Rattle.std.specs.Prelude.{◌≡◌, true, ◌⊎◌, ◌↔◌, ◌≢◌, List, [], ◌∷◌, ◌++◌, map, ℕ, ◌≤◌, ◌<◌, length}
use Rattle.tree.specs.Memory.{Module, Fit}
use Rattle.tree.specs.Lists.{Distinct, keep}
use Rattle.tree.specs.Path.{way_of}
use Rattle.tree.specs.Reach.{Reaches}
use Rattle.book.specs.State.{State, Operation, open_reel, query, has, arguments, Outcome, memory, shape}
use Rattle.book.specs.Perform.{perform}
use Rattle.book.specs.Table.{Table, frames_of, frame_of, is_present, is_about, all_idle}
use Rattle.book.specs.Ways.{ReelAt}
use Rattle.book.specs.Histories.{replied, Interrupted, Recovered, Follows, started, performed, before, after}

-- ---- the number, over any state

-- the number by the definition of the path: one for each level at which the frame's way reaches a node, to the path's end
pub record CountsPath (s : State) (reel f count : ℕ) : Type 0 where
  pub slot : ℕ
  pub of_reel : ReelAt (shape s) (memory s) reel slot
  pub levels : (d : ℕ) → (d < count) ↔ ((n : ℕ) × Reaches (shape s) (memory s) slot (way_of d f) n)
  pub from : 1 ≤ count
  pub to : count ≤ 32

-- Has of a reel and a frame
abbrev pub has_of : (reel f : ℕ) → State → Outcome
has_of reel f s = perform (query (has reel f)) s

pub data IsHas : Operation → Type 0 where
  is_has : {reel f : ℕ} → IsHas (query (has reel f))

-- ---- a reel that since it was opened never had more than 64 frames

-- a reel's frames held, claimed and filled, taken together
unfoldable pub in_use : Table → (reel : ℕ) → List ℕ
in_use t reel = frames_of t reel ++ map frame_of (keep (is_about reel) t.heads)

-- the reel is opened: an Open of it that is answered
pub data OpensReel (reel : ℕ) (s : State) : Operation → Type 0 where
  answered_open : {words script : ℕ} → (perform (open_reel words script reel) s).answer ≡ 0 → OpensReel reel s (open_reel words script reel)

-- a step of a history by an operation, from table t to t': the reel is there then, and it was opened by this step, or was small before.
-- The frames counted are those of the table that the operation makes, also where it is cut short and t' is the one before: so a claim
-- cut short is counted in
abbrev pub StaysSmall : (reel : ℕ) (op : Operation) (s : State) (t t' : Table) (Before : Type 0) → Type 0
StaysSmall reel op s t t' Before =
    (is_present t' reel ≡ true) × (length (in_use (replied op s t).work.after reel) ≤ 64) × (OpensReel reel s op ⊎ Before)

-- a history (the paper's run) in which the reel was opened, is there, and since then never had more than 64 frames held, claimed and
-- filled. A reel that is found on the image with which a history starts was not opened in it
abbrev pub Small : (reel : ℕ) {on : Module} {s : State} {t : Table} → Follows on s t → Type 0
Small reel (started x) = ⊥
Small reel (performed {s} {t} h op fit) = StaysSmall reel op s t (replied op s t).work.after (Small reel h)
Small reel (before {s} {t = t} h op fit k c r n b) = StaysSmall reel op s t (all_idle t) (Small reel h)
Small reel (after {s} {t = t} h op fit k c r b) = StaysSmall reel op s t (all_idle (replied op s t).work.after) (Small reel h)

-- before a step: the reel is opened by it, or has been small so far, and the table that the operation makes has no more than 64
abbrev pub SmallSoFar : (reel : ℕ) (op : Operation) {on : Module} {s : State} {t : Table} → Follows on s t → Type 0
SmallSoFar reel op {s = s} {t = t} h = (OpensReel reel s op ⊎ Small reel h) × (length (in_use (replied op s t).work.after reel) ≤ 64)

-- that `Small` is no less than the paper says
pub record SmallRules (on : Module) : Type 0 where
  -- an Open that is answered opens the reel
  pub opens : (words script reel : ℕ) (s : State) → (perform (open_reel words script reel) s).answer ≡ 0 → OpensReel reel s (open_reel words script reel)
  -- a reel just opened has no frame
  pub opened : {s : State} {t : Table} → Follows on s t → (reel : ℕ) (op : Operation) → Fit (arguments op) → OpensReel reel s op
      → in_use (replied op s t).work.after reel ≡ []
  -- an operation done: while the reel is there
  pub goes_on : {s : State} {t : Table} (h : Follows on s t) (reel : ℕ) (op : Operation) (fit : Fit (arguments op)) → SmallSoFar reel op h
      → is_present (replied op s t).work.after reel ≡ true → Small reel (performed h op fit)
  -- power lost in it, anywhere, with whatever recoveries follow: if the reel is there then
  pub through_crashes : {s s' : State} {t : Table} {m : List ℕ} (h : Follows on s t) (reel : ℕ) (op : Operation) → Fit (arguments op) → SmallSoFar reel op h
      → (k : ℕ) → Interrupted on op s k m → Recovered on m s' → (t' : Table) × (h' : Follows on s' t') × (is_present t' reel ≡ true → Small reel h')

-- ---- what Has reports

pub record PathNodes (on : Module) : Type 0 where
  -- answered, the number of nodes on the path, from 1 to 32, whether it finds the frame there or not
  pub answered : (s : State) (reel f : ℕ) → (has_of reel f s).answer ≡ 0 → CountsPath s reel f (has_of reel f s).work.handed.path_nodes
  -- refused, 0; and so every other operation
  pub refused : (s : State) (reel f : ℕ) → (has_of reel f s).answer ≢ 0 → (has_of reel f s).work.handed.path_nodes ≡ 0
  pub no_has : (op : Operation) (s : State) → (IsHas op → ⊥) → (perform op s).work.handed.path_nodes ≡ 0
  -- in a history, 1 for a reel that was opened in it and since then never had more than 64 frames
  pub one : {s : State} {t : Table} (h : Follows on s t) (reel f : ℕ) → Fit (reel ∷ f ∷ []) → Small reel h → (has_of reel f s).work.handed.path_nodes ≡ 1
  pub small : SmallRules on
  -- where frames in use are counted, each is counted once
  pub each_once : {s : State} {t : Table} → Follows on s t → (reel : ℕ) → Distinct (λ f. f) (in_use t reel)
