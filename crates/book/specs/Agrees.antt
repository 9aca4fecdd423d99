-- When a book and a plain table say the same.
use Rattle.std.specs.Prelude.{◌≡◌, true, false, ◌⊎◌, ◌↔◌, ℕ, ◌*◌, ◌^◌, ◌<◌, length}
use mathlib.Core.List.{List, map, Memᴰ}
use Rattle.tree.specs.Memory.{Memory, reads, is_set, Fit}
use Rattle.tree.specs.Test.{Says, holds}
use Rattle.tree.specs.Lists.{Distinct}
use Rattle.tree.specs.declared.layout.Geometry.{Geometry}
use Rattle.tree.specs.Layout.{in_range, image_words, map_words, edition_at, geometry_of, reel_at, locate_at, size_at}
use Rattle.tree.specs.Path.{way_of}
use Rattle.tree.specs.Fingerprint.{fingerprint, has_own, rule_of, bad_own}
use Rattle.tree.specs.Node.{held, frame, stored_fingerprint}
use Rattle.tree.specs.Slots.{Filled, reels_present}
use Rattle.tree.specs.Reach.{Reaches, FrameOf}
use Rattle.tree.specs.Sound.{Sound}
use Rattle.tree.specs.Subtree.{listing}
use Rattle.tree.specs.Pool.{used}
use Rattle.book.specs.declared.Target.{Target}
use Rattle.book.specs.declared.HeadState.{HeadState}
use Rattle.book.specs.declared.HeadState.TheVariants as heads
use Rattle.book.specs.Heads.{head_count, head_at}
use Rattle.book.specs.State.{State, memory, shape}
use Rattle.book.specs.Table.{Table, TableHead, Reel, idle, claimed, filled, table_head}

-- two lists have the same numbers, each once
pub record EachOnce (xs ys : List ℕ) : Type 0 where
  pub once : Distinct (λ x. x) xs
  pub once_too : Distinct (λ x. x) ys
  pub same : (x : ℕ) → Memᴰ x xs ↔ Memᴰ x ys

-- a node that some slot reaches
pub record Reached (g : Geometry) (m : Memory) (n : ℕ) : Type 0 where
  pub slot : ℕ
  pub way : List ℕ
  pub there : Reaches g m slot way n

-- there are editions 1 and 2
abbrev pub IsEdition : ℕ → Type 0
IsEdition e = (e ≡ 1) ⊎ (e ≡ 2)

-- an image shows a plain table: a sound image of its geometry, with its own table for fingerprints exactly if one was given, with
-- exactly its reels and of each exactly its frames
pub record Shows (image : List ℕ) (t : Table) : Type 0 where
  pub fits : Fit image
  pub edition : IsEdition (reads image edition_at)
  pub in_range_lem : Says (in_range (geometry_of (reads image)))
  pub words : length image ≡ image_words (geometry_of (reads image))
  pub slots : (geometry_of (reads image)).slots ≡ t.slots
  pub nodes : (geometry_of (reads image)).nodes ≡ t.nodes
  pub own : has_own (reads image) ≡ t.own
  pub good_table : holds (bad_own (reads image)) ≡ false
  pub sound : Sound (rule_of (reads image)) (geometry_of (reads image)) (reads image)
  pub reels : EachOnce (reels_present (geometry_of (reads image)) (reads image)) (map (λ r. r.number) t.reels)
  pub frames : (s : ℕ) (r : Reel) → Filled (geometry_of (reads image)) (reads image) s → Memᴰ r t.reels
      → reads image (reel_at s) ≡ r.number → EachOnce (listing (geometry_of (reads image)) (reads image) s) r.frames

module _ (g : Geometry) (m : Memory) where
  -- a claim: of a frame below 2^64, a place on its path, below the node's size, located and not set; its frame is not held in the reel
  pub record Claims (t : Target) (reel f : ℕ) : Type 0 where
    pub open_slot : Filled g m t.slot
    pub of_reel : m (reel_at t.slot) ≡ reel
    pub of_frame : t.frame ≡ f
    pub word : f < 2 ^ 64
    pub depth : ℕ
    pub on_path_lem : Reaches g m t.slot (way_of depth f) t.node
    pub place : t.place < m (size_at g t.node)
    pub located : is_set (m (locate_at g t.node)) t.place ≡ true
    pub not_set : held g m t.node t.place ≡ false
    pub not_held : FrameOf g m t.slot f → ⊥

  -- a filled claim has its frame and its fingerprint in place
  pub record Written (t : Target) (f : ℕ) : Type 0 where
    pub frame_there : frame g m t.node t.place ≡ f
    pub fingerprint_there : stored_fingerprint g m t.node t.place ≡ fingerprint (rule_of m) f

  pub data HeadAgrees : HeadState → TableHead → Type 0 where
    both_idle : HeadAgrees heads.Idle idle
    both_claimed : {t : Target} {reel f : ℕ} → Claims t reel f → HeadAgrees (heads.Claimed t) (claimed reel f)
    both_filled : {t : Target} {reel f : ℕ} → Claims t reel f → Written t f → HeadAgrees (heads.Filled t) (filled reel f)

-- a head that is not idle is about a target
pub data About (t : Target) : HeadState → Type 0 where
  by_claim : About t (heads.Claimed t)
  by_fill : About t (heads.Filled t)

-- head h of the heads' words claims place p of node n
pub record ClaimsPlace (ws : List ℕ) (h n p : ℕ) : Type 0 where
  pub target : Target
  pub low : h < head_count
  pub about : About target (head_at ws h)
  pub node : target.node ≡ n
  pub place : target.place ≡ p

-- the book's state agrees with a table
pub record Agrees (s : State) (t : Table) : Type 0 where
  pub shows : Shows s.image t
  -- the map marks exactly the nodes reached, and no spare bit
  pub map_words_lem : length s.pool ≡ map_words (shape s)
  pub marks : (n : ℕ) → (used s.pool n ≡ true) ↔ Reached (shape s) (memory s) n
  -- heads one by one
  pub head_words : length s.heads ≡ 5 * head_count
  pub table_heads : length t.heads ≡ head_count
  pub heads : (h : ℕ) → h < head_count → HeadAgrees (shape s) (memory s) (head_at s.heads h) (table_head t h)
  -- no two heads at one node, nor with one frame of a slot
  pub apart : (h h' : ℕ) {a b : Target} → h < head_count → h' < head_count → About a (head_at s.heads h) → About b (head_at s.heads h')
      → (a.node ≡ b.node) ⊎ ((a.slot ≡ b.slot) × (a.frame ≡ b.frame)) → h ≡ h'
  -- locate has the places held and those claimed
  pub locates : (n p : ℕ) → Reached (shape s) (memory s) n → p < 64
      → (is_set (memory s (locate_at (shape s) n)) p ≡ true)
      ↔ ((held (shape s) (memory s) n p ≡ true) ⊎ ((h : ℕ) × ClaimsPlace s.heads h n p))
