-- The stores that change what is reached or held, one word each: a root filled or cleared, a group of children linked or
-- unlinked, a set bit put on or off. Here is what each asks of a sound memory, and what the memory is afterwards; Laws.antt
-- joins them.
use Rattle.std.specs.Prelude.{◌≡◌, true, false, ◌⊎◌, ◌↔◌, ◌≢◌, List, [], ◌∷◌, ℕ, suc, ◌+◌, ◌^◌, ◌≤◌, ◌<◌, length}
use Rattle.memory.specs.Words.{Memory, is_set}
use Rattle.tree.specs.declared.layout.Geometry.{Geometry}
use Rattle.tree.specs.Layout.{reel_at, root_at, next_at, set_at, size_at}
use Rattle.tree.specs.Path.{fanout, way_of}
use Rattle.tree.specs.Fingerprint.{Rule, fingerprint}
use Rattle.tree.specs.Node.{well_formed, frame, stored_fingerprint}
use Rattle.tree.specs.Slots.{Filled}
use Rattle.tree.specs.Reach.{Reaches, Holds, FrameOf}
use Rattle.tree.specs.Sound.{Sound}

-- ---- nodes that come in

-- a node that nothing reaches yet, ready for depth d: well formed, with no children and no frame
pub record Fresh (g : Geometry) (m : Memory) (d n : ℕ) : Type 0 where
  pub unreached : {s : ℕ} {w : List ℕ} → Reaches g m s w n → ⊥
  pub formed : well_formed g m d n ≡ true
  pub childless : m (next_at g n) ≡ 0
  pub bare : m (set_at g n) ≡ 0

-- Open: an empty slot s, whose reel no filled slot has, is to get the root n
pub record Opens (g : Geometry) (m : Memory) (s n : ℕ) : Type 0 where
  pub inside : s < g.slots
  pub empty : m (root_at s) ≡ 0
  pub new_reel : {s' : ℕ} → Filled g m s' → m (reel_at s') ≢ m (reel_at s)
  pub fresh : Fresh g m 0 n

pub record NewRoot (s n s' : ℕ) (w' : List ℕ) (n' : ℕ) : Type 0 where
  pub slot : s' ≡ s
  pub way : w' ≡ []
  pub is : n' ≡ n

-- a branch-out: the node n, with no children yet, is to get those from start on
pub record Links (g : Geometry) (m : Memory) (s : ℕ) (w : List ℕ) (n start : ℕ) : Type 0 where
  pub there : Reaches g m s w n
  pub childless : m (next_at g n) ≡ 0
  pub large : m (size_at g n) ≡ 64
  pub depth : length w < 31
  pub inside : start + fanout (length w) ≤ g.nodes
  pub fresh : (c : ℕ) → c < fanout (length w) → Fresh g m (suc (length w)) (start + c)

-- a node of the group of children from start on, of the node that the way reaches
pub record InGroup (s : ℕ) (w : List ℕ) (start s' : ℕ) (w' : List ℕ) (n' : ℕ) : Type 0 where
  pub child : ℕ
  pub low : child < fanout (length w)
  pub slot : s' ≡ s
  pub way : w' ≡ child ∷ w
  pub is : n' ≡ start + child

-- afterwards: the new ways besides the old, the same frames, sound again
pub record Grown (r : Rule) (g : Geometry) (m m' : Memory) (New : ℕ → List ℕ → ℕ → Type 0) : Type 0 where
  pub reaches : {s : ℕ} {w : List ℕ} {n : ℕ} → Reaches g m' s w n ↔ (Reaches g m s w n ⊎ New s w n)
  pub holds : {s : ℕ} {w : List ℕ} {n p f : ℕ} → Holds g m' s w n p f ↔ Holds g m s w n p f
  pub sound : Sound r g m'

-- ---- Tidy: the children of a node go, which are all empty

-- afterwards: the old ways but those that are gone, the same frames, sound again
pub record Pruned (r : Rule) (g : Geometry) (m m' : Memory) (Gone : ℕ → List ℕ → ℕ → Type 0) : Type 0 where
  pub reaches : {s : ℕ} {w : List ℕ} {n : ℕ} → Reaches g m' s w n ↔ (Reaches g m s w n × (Gone s w n → ⊥))
  pub holds : {s : ℕ} {w : List ℕ} {n p f : ℕ} → Holds g m' s w n p f ↔ Holds g m s w n p f
  pub sound : Sound r g m'

-- ---- Retire: a slot's tree goes

pub record Retired (r : Rule) (g : Geometry) (m m' : Memory) (s : ℕ) : Type 0 where
  pub reaches : {s' : ℕ} {w : List ℕ} {n : ℕ} → Reaches g m' s' w n ↔ (Reaches g m s' w n × (s' ≢ s))
  pub holds : {s' : ℕ} {w : List ℕ} {n p f : ℕ} → Holds g m' s' w n p f ↔ (Holds g m s' w n p f × (s' ≢ s))
  pub sound : Sound r g m'

-- ---- set bits

-- a set word of node n to come that differs from the present one in bit p at most
pub record OtherBits (g : Geometry) (m : Memory) (n p v : ℕ) : Type 0 where
  pub others : (q : ℕ) → q ≢ p → is_set (m (set_at g n)) q ≡ is_set v q
  pub fits : v < 2 ^ m (size_at g n)

-- Commit: place p of node n, with frame and fingerprint there and the frame not yet in the reel, is to be held
pub record Commits (r : Rule) (g : Geometry) (m : Memory) (s : ℕ) (w : List ℕ) (n p f v : ℕ) : Type 0 where
  pub there : Reaches g m s w n
  pub place : p < 64
  pub is : frame g m n p ≡ f
  pub on_path_lem : w ≡ way_of (length w) f
  pub fingerprinted : stored_fingerprint g m n p ≡ fingerprint r f
  pub new_frame_lem : FrameOf g m s f → ⊥
  pub bits : OtherBits g m n p v
  pub on : is_set v p ≡ true

pub record HeldNow (s : ℕ) (w : List ℕ) (n p f s' : ℕ) (w' : List ℕ) (n' p' f' : ℕ) : Type 0 where
  pub slot : s' ≡ s
  pub way : w' ≡ w
  pub node : n' ≡ n
  pub place : p' ≡ p
  pub is : f' ≡ f

pub record Committed (r : Rule) (g : Geometry) (m m' : Memory) (s : ℕ) (w : List ℕ) (n p f : ℕ) : Type 0 where
  pub reaches : {s' : ℕ} {w' : List ℕ} {n' : ℕ} → Reaches g m' s' w' n' ↔ Reaches g m s' w' n'
  pub holds : {s' : ℕ} {w' : List ℕ} {n' p' f' : ℕ} → Holds g m' s' w' n' p' f' ↔ (Holds g m s' w' n' p' f' ⊎ HeldNow s w n p f s' w' n' p' f')
  pub sound : Sound r g m'

-- Remove: place p of node n is to be held no more
pub record Removes (g : Geometry) (m : Memory) (s : ℕ) (w : List ℕ) (n p v : ℕ) : Type 0 where
  pub there : Reaches g m s w n
  pub bits : OtherBits g m n p v
  pub off : is_set v p ≡ false

pub record Removed (r : Rule) (g : Geometry) (m m' : Memory) (n p : ℕ) : Type 0 where
  pub reaches : {s : ℕ} {w : List ℕ} {n' : ℕ} → Reaches g m' s w n' ↔ Reaches g m s w n'
  pub holds : {s : ℕ} {w : List ℕ} {n' p' f : ℕ} → Holds g m' s w n' p' f ↔ (Holds g m s w n' p' f × ((n' ≡ n) × (p' ≡ p) → ⊥))
  pub sound : Sound r g m'
