-- What the demands say of paths and nodes, by ways alone and not by the book's own searches.
use Rattle.std.specs.Prelude.{◌≡◌, true, false, ◌⊎◌, ◌≢◌, [], ℕ, suc, ◌+◌, ◌*◌, ◌≤◌, ◌<◌}
use Rattle.tree.specs.Memory.{Memory, is_set}
use Rattle.tree.specs.declared.layout.Geometry.{Geometry}
use Rattle.tree.specs.Layout.{next_at, locate_at, size_at, reel_at}
use Rattle.tree.specs.Path.{fanout, child, way_of}
use Rattle.tree.specs.Fingerprint.{Rule, fingerprint}
use Rattle.tree.specs.Node.{held, frame, stored_fingerprint}
use Rattle.tree.specs.Slots.{Filled}
use Rattle.tree.specs.Reach.{Reaches}
use Rattle.tree.specs.Groups.{NoGroup}
use Rattle.book.specs.declared.Target.{Target}
use Rattle.book.specs.Heads.{head_count, head_at}
use Rattle.book.specs.State.{State, Operation, open_reel, claim, remove, retire, tidy, memory, shape}
use Rattle.book.specs.Agrees.{Reached, About}

module _ (g : Geometry) (m : Memory) where
  -- k adjacent nodes from a on, inside the pool, that no reel reaches
  pub record UnreachedRun (k a : ℕ) : Type 0 where
    pub inside : a + k ≤ g.nodes
    pub free : (i : ℕ) → i < k → Reached g m (a + i) → ⊥

  -- the lowest such run
  pub record LowestRun (k a : ℕ) : Type 0 where
    pub run : UnreachedRun k a
    pub lowest : (b : ℕ) → UnreachedRun k b → a ≤ b

  -- every place of a node is located
  abbrev pub Full : ℕ → Type 0
  Full n = (p : ℕ) → p < m (size_at g n) → is_set (m (locate_at g n)) p ≡ true

  -- the nodes of a frame's path above level d are full
  abbrev pub FullAbove : (slot f d : ℕ) → Type 0
  FullAbove slot f d = (j n : ℕ) → j < d → Reaches g m slot (way_of j f) n → Full n

  -- the path is full to its end, a node of size 64 at level d
  pub record FullPath (slot f d : ℕ) : Type 0 where
    pub last : ℕ
    pub there : Reaches g m slot (way_of d f) last
    pub ends : m (next_at g last) ≡ 0
    pub wide : m (size_at g last) ≡ 64
    pub full : FullAbove slot f (suc d)

-- every word is as it was, but for those named
abbrev pub Beside : (m m' : Memory) → (ℕ → Type 0) → Type 0
Beside m m' Own = (i : ℕ) → (Own i → ⊥) → m' i ≡ m i

-- a word that a new node is made with, next to size, in one of k nodes from start on
pub record NewWord (g : Geometry) (start k i : ℕ) : Type 0 where
  pub child : ℕ
  pub low : child < k
  pub from : next_at g (start + child) ≤ i
  pub to : i ≤ size_at g (start + child)

-- the place that a frame gets on its path, and the words that change, from a memory m to m' once the claim's script is carried out
pub data Takes (g : Geometry) (m m' : Memory) (slot f : ℕ) : (node place : ℕ) → Type 0 where
  -- the first node from the root with a clear place, and the lowest such place
  first_clear : {d n p : ℕ} → Reaches g m slot (way_of d f) n → FullAbove g m slot f d → p < m (size_at g n)
      → is_set (m (locate_at g n)) p ≡ false → ((q : ℕ) → q < p → is_set (m (locate_at g n)) q ≡ true)
      → Beside m m' (λ i. i ≡ locate_at g n) → Takes g m m' slot f n p
  -- none, and the root alone below size 64: it is scaled up, and the old size is the place
  scaled_up : {n : ℕ} → Reaches g m slot [] n → m (next_at g n) ≡ 0 → m (size_at g n) < 64 → Full g m n
      → m' (size_at g n) ≡ 2 * m (size_at g n) → Beside m m' (λ i. (i ≡ size_at g n) ⊎ (i ≡ locate_at g n)) → Takes g m m' slot f n (m (size_at g n))
  -- none, and the last node has size 64: place 0 of the frame's child in a new group, the lowest run of free nodes
  branched_out : {d start : ℕ} (x : FullPath g m slot f d) → LowestRun g m (fanout d) start
      → Reaches g m' slot (way_of (suc d) f) (start + child d f) → Beside m m' (λ i. (i ≡ next_at g x.last) ⊎ NewWord g start (fanout d) i)
      → Takes g m m' slot f (start + child d f) 0

-- a filled slot with a reel's number
pub record SlotHas (g : Geometry) (m : Memory) (reel s : ℕ) : Type 0 where
  pub open_slot : Filled g m s
  pub number : m (reel_at s) ≡ reel

-- a reel: the lowest filled slot with its number
pub record ReelAt (g : Geometry) (m : Memory) (reel slot : ℕ) : Type 0 where
  pub has : SlotHas g m reel slot
  pub lowest : (k : ℕ) → SlotHas g m reel k → slot ≤ k

-- the lookup's rule: a place on the frame's path has its set bit 1, the frame, and the frame's fingerprint
pub record Matches (r : Rule) (g : Geometry) (m : Memory) (slot f depth node place : ℕ) : Type 0 where
  pub there : Reaches g m slot (way_of depth f) node
  pub low : place < 64
  pub set_bit : held g m node place ≡ true
  pub of_frame : frame g m node place ≡ f
  pub printed : stored_fingerprint g m node place ≡ fingerprint r f

-- the operation needs nodes that the book lacks
pub data Lacks (s : State) : Operation → Type 0 where
  no_node : {words script reel : ℕ} → ((a : ℕ) → UnreachedRun (shape s) (memory s) 1 a → ⊥)
      → Lacks s (open_reel words script reel)
  no_run_lem : {words script h reel f slot d : ℕ} → SlotHas (shape s) (memory s) reel slot
      → FullPath (shape s) (memory s) slot f d
      → ((a : ℕ) → UnreachedRun (shape s) (memory s) (fanout d) a → ⊥) → Lacks s (claim words script h reel f)

-- Tidy needs an empty group, and the reel has none
pub data LacksGroup (s : State) : Operation → Type 0 where
  no_group : {words scratch script reel slot : ℕ} → SlotHas (shape s) (memory s) reel slot
      → NoGroup (shape s) (memory s) slot → LacksGroup s (tidy words scratch script reel)

-- the node that a claim would use, given which run of k nodes is the lowest free one; a claim that finds no run uses none. In
-- histories no head is at a new child: there a branch-out conflicts by the frame alone
pub data Uses (Lowest : (k start : ℕ) → Type 0) (g : Geometry) (m : Memory) (slot f : ℕ) : ℕ → Type 0 where
  -- the first node from the root with a clear place
  at_clear : {d n p : ℕ} → Reaches g m slot (way_of d f) n → FullAbove g m slot f d → p < m (size_at g n)
      → is_set (m (locate_at g n)) p ≡ false → Uses Lowest g m slot f n
  -- none, and the root alone below size 64: the root
  at_root : {n : ℕ} → Reaches g m slot [] n → m (next_at g n) ≡ 0 → m (size_at g n) < 64 → Full g m n → Uses Lowest g m slot f n
  -- none, and the last node has size 64: the frame's child in the new group, and not the full node above it
  at_child : {d start : ℕ} → FullPath g m slot f d → Lowest (fanout d) start → Uses Lowest g m slot f (start + child d f)

-- in histories, where the nodes that no reel reaches are the free ones
abbrev pub UsesOf : State → (slot f node : ℕ) → Type 0
UsesOf s slot f n = Uses (LowestRun (shape s) (memory s)) (shape s) (memory s) slot f n

-- head k is not idle and names a slot
pub record HeadNames (s : State) (k slot : ℕ) : Type 0 where
  pub low : k < head_count
  pub target : Target
  pub about : About target (head_at s.heads k)
  pub of_slot : target.slot ≡ slot

-- 13: a head is in the operation's way
pub data InTheWay (s : State) : Operation → Type 0 where
  -- in Claim another one that names the reel's slot, and with it the same frame, or the very node that the claim would use
  same_frame : {words script h reel f slot k : ℕ} → SlotHas (shape s) (memory s) reel slot → k ≢ h → (x : HeadNames s k slot)
      → x.target.frame ≡ f → InTheWay s (claim words script h reel f)
  same_node : {words script h reel f slot k : ℕ} → SlotHas (shape s) (memory s) reel slot → k ≢ h → (x : HeadNames s k slot)
      → UsesOf s slot f x.target.node → InTheWay s (claim words script h reel f)
  -- in Remove, Retire and Tidy any that names it
  of_remove : {script reel f slot k : ℕ} → SlotHas (shape s) (memory s) reel slot → HeadNames s k slot
      → InTheWay s (remove script reel f)
  of_retire : {words scratch script reel slot k : ℕ} → SlotHas (shape s) (memory s) reel slot → HeadNames s k slot
      → InTheWay s (retire words scratch script reel)
  of_tidy : {words scratch script reel slot k : ℕ} → SlotHas (shape s) (memory s) reel slot → HeadNames s k slot
      → InTheWay s (tidy words scratch script reel)
