-- What is proved of a converted image: statements alone, over any memory but where a clause says otherwise.
use Rattle.std.specs.Prelude.{◌≡◌, true, false, ◌↔◌, List, [], ℕ, ◌+◌, ◌^◌, ◌≤◌, ◌<◌, length}
use Rattle.memory.specs.Words.{Memory, reads}
use Rattle.tree.specs.Test.{holds}
use Rattle.tree.specs.declared.layout.Geometry.{Geometry}
use Rattle.tree.specs.Layout.{image_words, edition_at, slots_at, nodes_at, geometry_of, reel_at, root_at, node_at, next_at, locate_at, set_at, level_at, size_at}
use Rattle.tree.specs.Fingerprint.{Rule, fingerprint, rule_for, rule_of, has_own, bad_own}
use Rattle.tree.specs.Node.{held, frame, stored_fingerprint}
use Rattle.tree.specs.Slots.{Filled, reels_present, slot_of}
use Rattle.tree.specs.Reach.{Reaches, Holds}
use Rattle.tree.specs.Sound.{Sound}
use Rattle.tree.specs.Subtree.{listing}
use Rattle.tree.specs.Recovery.{recover_stores}
use Rattle.tree.specs.Convert.{other_edition, converted, converted_image}

-- ---- its words, by ways and not by the search that the definition makes

-- a reached node: next, set, level and size are copied, locate becomes set, words 5 to 7 become 0; of each place the frame and its
-- fingerprint, by the edition's rule, where the frame is held, else 0
pub record ConvertedNode (r : Rule) (g : Geometry) (m m' : Memory) (n : ℕ) : Type 0 where
  pub next : m' (next_at g n) ≡ m (next_at g n)
  pub locate : m' (locate_at g n) ≡ m (set_at g n)
  pub set : m' (set_at g n) ≡ m (set_at g n)
  pub level : m' (level_at g n) ≡ m (level_at g n)
  pub size : m' (size_at g n) ≡ m (size_at g n)
  pub spare : (k : ℕ) → 5 ≤ k → k < 8 → m' (node_at g n + k) ≡ 0
  pub frames : (p : ℕ) → p < 64 → held g m n p ≡ true → frame g m' n p ≡ frame g m n p
  pub no_frame : (p : ℕ) → p < 64 → held g m n p ≡ false → frame g m' n p ≡ 0
  pub prints : (p : ℕ) → p < 64 → held g m n p ≡ true → stored_fingerprint g m' n p ≡ fingerprint r (frame g m n p)
  pub no_print : (p : ℕ) → p < 64 → held g m n p ≡ false → stored_fingerprint g m' n p ≡ 0
  -- so that these bytes are all that a word of fingerprints has
  pub print_words : (j : ℕ) → j < 8 → m' (node_at g n + 8 + j) < 2 ^ 64

pub record ConvertedWords (e : ℕ) (g : Geometry) (m m' : Memory) : Type 0 where
  -- header: the edition, R, N; words 3 to 63 become 0
  pub edition : m' edition_at ≡ e
  pub slots : m' slots_at ≡ m slots_at
  pub nodes : m' nodes_at ≡ m nodes_at
  pub header : (i : ℕ) → 3 ≤ i → i < 64 → m' i ≡ 0
  -- slots: a filled one is copied, an empty one becomes two zero words
  pub filled_slot : {s : ℕ} → Filled g m s → (m' (reel_at s) ≡ m (reel_at s)) × (m' (root_at s) ≡ m (root_at s))
  pub empty_slot : (s : ℕ) → s < g.slots → m (root_at s) ≡ 0 → (m' (reel_at s) ≡ 0) × (m' (root_at s) ≡ 0)
  -- nodes: one that is not reached becomes 80 zero words
  pub reached : {s : ℕ} {w : List ℕ} {n : ℕ} → Reaches g m s w n → ConvertedNode (rule_for e) g m m' n
  pub unreached : (n k : ℕ) → ((s : ℕ) (w : List ℕ) → Reaches g m s w n → ⊥) → k < 80 → m' (node_at g n + k) ≡ 0

-- ---- what it shows

-- from one memory to another
pub record SameBook (g : Geometry) (m m' : Memory) : Type 0 where
  -- slot for slot: the same ones filled, with the same reels
  pub filled : {s : ℕ} → Filled g m' s ↔ Filled g m s
  pub reel_words : {s : ℕ} → Filled g m s → m' (reel_at s) ≡ m (reel_at s)
  pub reels : reels_present g m' ≡ reels_present g m
  pub slot_of_lem : (reel : ℕ) → slot_of g m' reel ≡ slot_of g m reel
  -- place for place: the same nodes reached by the same ways, the same frames held in the same places
  pub ways : {s n : ℕ} {w : List ℕ} → Reaches g m' s w n ↔ Reaches g m s w n
  pub holds : {s n p f : ℕ} {w : List ℕ} → Holds g m' s w n p f ↔ Holds g m s w n p f
  -- every reel's listing the same, order included
  pub listings : {s : ℕ} → Filled g m s → listing g m' s ≡ listing g m s

-- an edition's own rule: no other table
pub record ByEdition (e : ℕ) (m : Memory) : Type 0 where
  pub rule : rule_of m ≡ rule_for e
  pub no_own : has_own m ≡ false
  pub good_table : holds (bad_own m) ≡ false

pub record ConvertLaws (e : ℕ) (g : Geometry) (m : Memory) : Type 0 where
  pub words : ConvertedWords e g m (converted e g m)
  pub geometry : geometry_of (converted e g m) ≡ geometry_of m
  pub by_edition : ByEdition e (converted e g m)
  pub same_book : SameBook g m (converted e g m)
  -- a recovery finds nothing to mend
  pub settled : recover_stores g (converted e g m) ≡ []
  -- of a memory that is sound by any rule, sound by the edition's
  pub sound : {r : Rule} → Sound r g m → Sound (rule_for e) g (converted e g m)
  -- what came before does not show: through another edition it is the same, word for word
  pub through : (e' : ℕ) → converted e g (converted e' g m) ≡ converted e g m
  pub fits : ((i : ℕ) → m i < 2 ^ 64) → e < 2 ^ 64 → (i : ℕ) → converted e g m i < 2 ^ 64

-- the second image: as many words, which are those above where the image has its geometry's length and its reached nodes are in
-- the pool
pub record ConvertedImage (image : List ℕ) : Type 0 where
  pub same_length : length (converted_image image) ≡ length image
  pub words : length image ≡ image_words (geometry_of (reads image))
      → ((s n : ℕ) (w : List ℕ) → Reaches (geometry_of (reads image)) (reads image) s w n → n < (geometry_of (reads image)).nodes)
      → reads (converted_image image) ≡ converted (other_edition (reads image edition_at)) (geometry_of (reads image)) (reads image)
