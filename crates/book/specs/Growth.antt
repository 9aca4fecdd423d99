-- Which nodes the slots reach, of which reels, and how large these are: what each operation, and power lost in it, may change of that.
-- Statements alone.
use Rattle.std.specs.Prelude.{◌≡◌, false, ◌⊎◌, ◌↔◌, ◌≢◌, List, [], ℕ, ◌-◌, ◌*◌, ◌<◌}
use Rattle.tree.specs.Memory.{reads, is_set, segmented, Module, entries_on, passed, Fit}
use Rattle.tree.specs.declared.layout.Geometry.{Geometry}
use Rattle.tree.specs.Layout.{geometry_of, next_at, locate_at, size_at, reel_at, root_at}
use Rattle.tree.specs.Path.{fanout, way_of}
use Rattle.tree.specs.Reach.{Reaches}
use Rattle.tree.specs.Groups.{FirstGroup}
use Rattle.tree.specs.Changes.{NewRoot, InGroup}
use Rattle.book.specs.State.{State, Operation, format, recover, open_reel, claim, fill, commit, abandon, remove, retire, tidy, query, arguments}
use Rattle.book.specs.Perform.{perform}
use Rattle.book.specs.Table.{Table}
use Rattle.book.specs.Agrees.{Reached}
use Rattle.book.specs.Histories.{done, Interrupted, Recovered, Follows}
use Rattle.book.specs.Ways.{Full, FullPath, LowestRun, SlotHas}

module _ (im : List ℕ) where
  abbrev pub shape_in : Geometry
  shape_in = geometry_of (reads im)

  -- a slot reaches node n by a way
  abbrev pub ReachesIn : (slot : ℕ) → List ℕ → (n : ℕ) → Type 0
  ReachesIn slot w n = Reaches shape_in (reads im) slot w n

  abbrev pub size_in : ℕ → ℕ
  size_in n = reads im (size_at shape_in n)

  -- the reel that a slot has
  abbrev pub reel_in : (slot : ℕ) → ℕ
  reel_in slot = reads im (reel_at slot)

-- ---- from one image to another

-- the same nodes by the same ways, of the same sizes; the slots have the same reels
pub record SameNodes (im im' : List ℕ) : Type 0 where
  pub ways : {slot n : ℕ} {w : List ℕ} → ReachesIn im' slot w n ↔ ReachesIn im slot w n
  pub sizes : {slot n : ℕ} {w : List ℕ} → ReachesIn im slot w n → size_in im' n ≡ size_in im n
  pub reels : {slot n : ℕ} {w : List ℕ} → ReachesIn im slot w n → reel_in im' slot ≡ reel_in im slot

-- new nodes of one size, by new ways; the nodes and reels there were as they were
pub record Adds (im im' : List ℕ) (size : ℕ) (New : (slot : ℕ) → List ℕ → (n : ℕ) → Type 0) : Type 0 where
  pub ways : {slot n : ℕ} {w : List ℕ} → ReachesIn im' slot w n ↔ (ReachesIn im slot w n ⊎ New slot w n)
  pub sizes : {slot n : ℕ} {w : List ℕ} → ReachesIn im slot w n → size_in im' n ≡ size_in im n
  pub new_sizes : {slot n : ℕ} {w : List ℕ} → New slot w n → size_in im' n ≡ size
  pub reels : {slot n : ℕ} {w : List ℕ} → ReachesIn im slot w n → reel_in im' slot ≡ reel_in im slot

-- the same nodes by the same ways, of the same reels; of one, and of no other, the size is doubled
pub record Doubles (im im' : List ℕ) (k : ℕ) : Type 0 where
  pub ways : {slot n : ℕ} {w : List ℕ} → ReachesIn im' slot w n ↔ ReachesIn im slot w n
  pub doubled : size_in im' k ≡ 2 * size_in im k
  pub sizes : {slot n : ℕ} {w : List ℕ} → ReachesIn im slot w n → n ≢ k → size_in im' n ≡ size_in im n
  pub reels : {slot n : ℕ} {w : List ℕ} → ReachesIn im slot w n → reel_in im' slot ≡ reel_in im slot

-- some nodes go, by their ways; the others, and their reels, are as they were
pub record Drops (im im' : List ℕ) (Gone : (slot : ℕ) → List ℕ → (n : ℕ) → Type 0) : Type 0 where
  pub ways : {slot n : ℕ} {w : List ℕ} → ReachesIn im' slot w n ↔ (ReachesIn im slot w n × (Gone slot w n → ⊥))
  pub sizes : {slot n : ℕ} {w : List ℕ} → ReachesIn im' slot w n → size_in im' n ≡ size_in im n
  pub reels : {slot n : ℕ} {w : List ℕ} → ReachesIn im' slot w n → reel_in im' slot ≡ reel_in im slot

-- ---- what an answered operation does

-- Open: one node, the lowest that no slot reached, is the root of a slot that was empty
pub record OpenGrows (im im' : List ℕ) (reel : ℕ) : Type 0 where
  pub slot : ℕ
  pub node : ℕ
  pub was_empty : reads im (root_at slot) ≡ 0
  pub lowest : LowestRun (shape_in im) (reads im) 1 node
  pub of_reel : SlotHas (shape_in im') (reads im') reel slot
  pub adds : Adds im im' 16 (NewRoot slot node)

-- Claim of a frame in a slot
pub data ClaimGrows (im im' : List ℕ) (slot f : ℕ) : Type 0 where
  -- a place on the frame's path is clear: no node comes, and no size changes
  finds_clear : (d : ℕ) {n p : ℕ} → ReachesIn im slot (way_of d f) n → p < size_in im n → is_set (reads im (locate_at (shape_in im) n)) p ≡ false
      → SameNodes im im' → ClaimGrows im im' slot f
  -- none is, and the root is the whole path and below size 64: its size is doubled
  scales_up : {n : ℕ} → ReachesIn im slot [] n → reads im (next_at (shape_in im) n) ≡ 0 → size_in im n < 64 → Full (shape_in im) (reads im) n
      → Doubles im im' n → ClaimGrows im im' slot f
  -- none is, and the path ends at level d in a node of size 64: this gets fanout d children, the lowest run that no slot reached
  branches_out : {d start : ℕ} → FullPath (shape_in im) (reads im) slot f d → LowestRun (shape_in im) (reads im) (fanout d) start
      → Adds im im' 64 (InGroup slot (way_of d f) start) → ClaimGrows im im' slot f

-- Retire: all nodes of a slot go
abbrev pub RetireDrops : (im im' : List ℕ) (reel : ℕ) → Type 0
RetireDrops im im' reel = (slot : ℕ) × SlotHas (shape_in im) (reads im) reel slot × Drops im im' (λ slot' w n. slot' ≡ slot)

-- Tidy: the children of one node go, all of them: the first empty group of the reel's slot, in the order of List
pub record TidyDrops (im im' : List ℕ) (reel : ℕ) : Type 0 where
  pub slot : ℕ
  pub of_reel : SlotHas (shape_in im) (reads im) reel slot
  pub way : List ℕ
  pub node : ℕ
  pub first : FirstGroup (shape_in im) (reads im) slot way node
  pub drops : Drops im im' (InGroup slot way (reads im (next_at (shape_in im) node) - 1))

-- by the operation: nodes come with Open and with a claim that finds no clear place; they go with Format and Retire, whole reels,
-- and with Tidy, one empty group
abbrev pub Grows : Operation → (im im' : List ℕ) → Type 0
Grows (format words table slots nodes) im im' = (n : ℕ) → Reached (shape_in im') (reads im') n → ⊥
Grows (open_reel words script reel) im im' = OpenGrows im im' reel
Grows (claim words script h reel f) im im' = (slot : ℕ) × SlotHas (shape_in im) (reads im) reel slot × ClaimGrows im im' slot f
Grows (retire words scratch script reel) im im' = RetireDrops im im' reel
Grows (tidy words scratch script reel) im im' = TidyDrops im im' reel
Grows (recover words) im im' = SameNodes im im'
Grows (fill script h) im im' = SameNodes im im'
Grows (commit script h) im im' = SameNodes im im'
Grows (abandon script h) im im' = SameNodes im im'
Grows (remove script reel f) im im' = SameNodes im im'
Grows (query q) im im' = SameNodes im im'

-- ---- in every history

-- what may come next after a state
pub record Growing (on : Module) (s : State) : Type 0 where
  pub answered : (op : Operation) → Fit (arguments op) → (perform op s).answer ≡ 0 → Grows op s.image (done op s).image
  pub refused : (op : Operation) → (perform op s).answer ≢ 0 → SameNodes s.image (done op s).image
  -- power lost in an operation, then recoveries until one ends: the nodes before it, while a barrier was left to pass, or those after it
  pub interrupted : {s' : State} {m : List ℕ} (op : Operation) → Fit (arguments op) → (k : ℕ) → Interrupted on op s k m → Recovered on m s'
      → ((passed (entries_on on (segmented (perform op s).work.script)) k → ⊥) × SameNodes s.image s'.image) ⊎ SameNodes (done op s).image s'.image

abbrev pub Growth : Module → Type 0
Growth on = (s : State) (t : Table) → Follows on s t → Growing on s
