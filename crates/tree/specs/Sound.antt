-- Sound image, clause for clause. Locate words are bounded by well-formedness alone: bitmaps may differ.
use Rattle.std.specs.Prelude.{◌≡◌, true, List, ℕ, length}
use Rattle.memory.specs.Words.{Memory}
use Rattle.tree.specs.declared.layout.Geometry.{Geometry}
use Rattle.tree.specs.Layout.{reel_at, geometry_of}
use Rattle.tree.specs.Path.{way_of}
use Rattle.tree.specs.Fingerprint.{Rule, fingerprint, rule_of, BadOwn}
use Rattle.tree.specs.Node.{well_formed, stored_fingerprint}
use Rattle.tree.specs.Slots.{Filled}
use Rattle.tree.specs.Reach.{Reaches, Holds}

pub record Sound (r : Rule) (g : Geometry) (m : Memory) : Type 0 where
  -- no node reached from the filled slots is malformed
  pub well_formed_lem : {s : ℕ} {w : List ℕ} {n : ℕ} → Reaches g m s w n → well_formed g m (length w) n ≡ true
  -- none is reached twice
  pub once : {s s' : ℕ} {w w' : List ℕ} {n : ℕ} → Reaches g m s w n → Reaches g m s' w' n → (s ≡ s') × (w ≡ w')
  -- no two filled slots have the same reel
  pub reels : {s s' : ℕ} → Filled g m s → Filled g m s' → m (reel_at s) ≡ m (reel_at s') → s ≡ s'
  -- every held frame is on its path
  pub on_path_lem : {s : ℕ} {w : List ℕ} {n p f : ℕ} → Holds g m s w n p f → w ≡ way_of (length w) f
  -- once in its reel
  pub frame_once : {s : ℕ} {w w' : List ℕ} {n n' p p' f : ℕ} → Holds g m s w n p f → Holds g m s w' n' p' f → (w ≡ w') × (p ≡ p')
  -- with its right fingerprint
  pub fingerprints : {s : ℕ} {w : List ℕ} {n p f : ℕ} → Holds g m s w n p f → stored_fingerprint g m n p ≡ fingerprint r f

-- a sound image, by its own geometry and rule: its own table is not bad, and the clauses above hold
pub record SoundImage (m : Memory) : Type 0 where
  pub good_table : BadOwn m → ⊥
  pub sound : Sound (rule_of m) (geometry_of m) m

-- one reel's tree alone: no node reached from its slot is malformed or reached twice
pub record SoundTree (g : Geometry) (m : Memory) (s : ℕ) : Type 0 where
  pub well_formed_lem : {w : List ℕ} {n : ℕ} → Reaches g m s w n → well_formed g m (length w) n ≡ true
  pub once : {w w' : List ℕ} {n : ℕ} → Reaches g m s w n → Reaches g m s w' n → w ≡ w'
