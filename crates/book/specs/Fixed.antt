-- What the paper fixes of single operations besides the demands: statements alone, over any state.
use Rattle.std.specs.Prelude.{◌≡◌, true, false, ◌⊎◌, ◌↔◌, ◌≢◌, ℕ, ◌+◌, ◌*◌, ◌/◌, ◌%◌, ◌^◌, ◌≤◌, ◌<◌, length, get_or, replicate}
use mathlib.Core.List.{List, [], ◌∷◌, Memᴰ}
use Rattle.tree.specs.Memory.{Memory, byte}
use Rattle.tree.specs.Test.{Says}
use Rattle.tree.specs.Lists.{Distinct}
use Rattle.tree.specs.declared.layout.Geometry.{Geometry}
use Rattle.tree.specs.Layout.{in_range, image_words, map_words, edition_at, slots_at, nodes_at, own_at, reel_at, root_at, next_at, locate_at, set_at, level_at, size_at}
use Rattle.tree.specs.Fingerprint.{GoodTable}
use Rattle.tree.specs.Sound.{SoundImage}
use Rattle.tree.specs.Pool.{used, mark, clear_map}
use Rattle.book.specs.Heads.{head_count}
use Rattle.book.specs.State.{State, Operation, format, recover, open_reel, claim, fill, commit, abandon, remove, retire, tidy, query, has, list, memory, shape}
use Rattle.tree.specs.Recovery.{recover_stores}
use Rattle.book.specs.Perform.{perform}
use Rattle.book.specs.Agrees.{Reached, IsEdition}
use Rattle.book.specs.Stores.{ClaimWrites, FillStores, CommitStores, AbandonStores, RemoveStores, RetireStores, TidyStores, HasSays, ListGives}

-- ---- Format

-- words 3 to 63 after a format without a table, and with one
pub data HeaderRest (m : Memory) (table : List ℕ) : Type 0 where
  no_table : table ≡ [] → ((i : ℕ) → 3 ≤ i → i < 64 → m i ≡ 0) → HeaderRest m table
  -- word 3 is 1; words 8 to 39 have eight entries each, lowest byte first; the others are 0
  own_table : GoodTable table → m own_at ≡ 1 → ((i : ℕ) → i < 256 → byte (m (8 + i / 8)) (i % 8) ≡ get_or table i 0)
      → ((j : ℕ) → j < 32 → m (8 + j) < 2 ^ 64) → ((i : ℕ) → 4 ≤ i → i < 64 → (i < 8) ⊎ (40 ≤ i) → m i ≡ 0) → HeaderRest m table

-- an answered format, from a state to a state
pub record FormatWrites (table : List ℕ) (g : Geometry) (s s' : State) : Type 0 where
  -- words 0 to 63
  pub edition : memory s' edition_at ≡ 2
  pub slots : memory s' slots_at ≡ g.slots
  pub nodes : memory s' nodes_at ≡ g.nodes
  pub rest : HeaderRest (memory s') table
  -- the roots
  pub roots : (k : ℕ) → k < g.slots → memory s' (root_at k) ≡ 0
  -- and no other word
  pub others : (i : ℕ) → 64 ≤ i → ((k : ℕ) → k < g.slots → i ≢ root_at k) → memory s' i ≡ memory s i
  -- the map and the heads are all 0
  pub map : s'.pool ≡ clear_map (map_words g)
  pub heads : s'.heads ≡ replicate (5 * head_count) 0

-- ---- Recover

-- a store of v to word i: the locate word of a reached node, whose set word is another, v
pub record Corrects (g : Geometry) (m : Memory) (i v : ℕ) : Type 0 where
  pub node : ℕ
  pub reached : Reached g m node
  pub at : i ≡ locate_at g node
  pub differs : m (locate_at g node) ≢ m (set_at g node)
  pub is : v ≡ m (set_at g node)

-- an answered recovery, from a state to a state
pub record RecoverWrites (s s' : State) : Type 0 where
  -- it stores to the differing locate words of reached nodes, to each once, and to no other word
  pub stores : (i v : ℕ) → Memᴰ (i, v) (recover_stores (shape s) (memory s)) ↔ Corrects (shape s) (memory s) i v
  pub once : Distinct (λ (w : ℕ × ℕ). w.0) (recover_stores (shape s) (memory s))
  -- so that every reached node's locate word is its set word then, and a word that changes is one of them
  pub equal : (n : ℕ) → Reached (shape s) (memory s) n → memory s' (locate_at (shape s) n) ≡ memory s (set_at (shape s) n)
  pub alone : (i : ℕ) → memory s' i ≢ memory s i → Corrects (shape s) (memory s) i (memory s' i)
  -- the map marks the nodes reached
  pub map_words_lem : length s'.pool ≡ map_words (shape s)
  pub marks : (n : ℕ) → (used s'.pool n ≡ true) ↔ Reached (shape s) (memory s) n
  -- the heads are all 0
  pub heads : s'.heads ≡ replicate (5 * head_count) 0

-- the header, the image's length and the map's length are right: none of 1, 2 and 3
pub record Right (words : ℕ) (s : State) : Type 0 where
  pub in_range_lem : Says (in_range (shape s))
  pub image_words_lem : length s.image ≡ image_words (shape s)
  pub edition : IsEdition (memory s edition_at)
  pub map_words_lem : words ≡ map_words (shape s)

-- ---- Open

-- an answered opening of a reel
pub record OpenTakes (words script reel : ℕ) (s : State) : Type 0 where
  -- the lowest empty slot
  pub slot : ℕ
  pub slot_inside : slot < (shape s).slots
  pub slot_empty : memory s (root_at slot) ≡ 0
  pub slot_lowest : (k : ℕ) → k < slot → memory s (root_at k) ≢ 0
  -- the lowest free node of the map
  pub node : ℕ
  pub node_inside : node < (shape s).nodes
  pub node_free : used s.pool node ≡ false
  pub node_lowest : (n : ℕ) → n < node → used s.pool n ≡ true
  -- the node with size 16 and the reel number; then the root
  pub script_is : (perform (open_reel words script reel) s).work.script ≡
      ((next_at (shape s) node, 0)
      ∷ (locate_at (shape s) node, 0)
      ∷ (set_at (shape s) node, 0)
      ∷ (level_at (shape s) node, 0)
      ∷ (size_at (shape s) node, 16)
      ∷ (reel_at slot, reel)
      ∷ [])
      ∷ ((root_at slot, node + 1) ∷ [])
      ∷ []
  -- the node is marked
  pub map : (perform (open_reel words script reel) s).work.after.pool ≡ mark s.pool node

-- ---- heads

-- the operations that write records of heads
pub data WritesHeads : Operation → Type 0 where
  by_format : {words slots nodes : ℕ} {table : List ℕ} → WritesHeads (format words table slots nodes)
  by_recover : {words : ℕ} → WritesHeads (recover words)
  by_claim : {words script h reel f : ℕ} → WritesHeads (claim words script h reel f)
  by_fill : {script h : ℕ} → WritesHeads (fill script h)
  by_commit : {script h : ℕ} → WritesHeads (commit script h)
  by_abandon : {script h : ℕ} → WritesHeads (abandon script h)

-- ---- all of them

pub record Fixed : Type 0 where
  pub formats : (words : ℕ) (table : List ℕ) (g : Geometry) (s : State) → (perform (format words table g.slots g.nodes) s).answer ≡ 0
      → FormatWrites table g s (perform (format words table g.slots g.nodes) s).work.after
  -- Recover is refused 4 exactly if the image is not sound: one with a bad table is not
  pub unsound : (words : ℕ) (s : State) → Right words s
      → ((perform (recover words) s).answer ≡ 4) ↔ (SoundImage (memory s) → ⊥)
  -- and answered where it is
  pub sound : (words : ℕ) (s : State) → Right words s → SoundImage (memory s) → (perform (recover words) s).answer ≡ 0
  pub recovers : (words : ℕ) (s : State) → (perform (recover words) s).answer ≡ 0 → RecoverWrites s (perform (recover words) s).work.after
  pub opens : (words script reel : ℕ) (s : State) → (perform (open_reel words script reel) s).answer ≡ 0 → OpenTakes words script reel s
  -- no other operation writes a head's record
  pub heads_left : (op : Operation) (s : State) → (WritesHeads op → ⊥) → (perform op s).work.after.heads ≡ s.heads
  -- the other operations; the driver's heads are as many words as their records have
  pub claims : (words script h reel f : ℕ) (s : State) → length s.heads ≡ 5 * head_count → (perform (claim words script h reel f) s).answer ≡ 0
      → ClaimWrites (claim words script h reel f) s h reel f
  pub fills : (script h : ℕ) (s : State) → length s.heads ≡ 5 * head_count → (perform (fill script h) s).answer ≡ 0 → FillStores (fill script h) s h
  pub commits : (script h : ℕ) (s : State) → length s.heads ≡ 5 * head_count → (perform (commit script h) s).answer ≡ 0
      → CommitStores (commit script h) s h
  pub abandons : (script h : ℕ) (s : State) → length s.heads ≡ 5 * head_count → (perform (abandon script h) s).answer ≡ 0
      → AbandonStores (abandon script h) s h
  pub removes : (script reel f : ℕ) (s : State) → (perform (remove script reel f) s).answer ≡ 0 → RemoveStores (remove script reel f) s reel f
  pub retires : (words scratch script reel : ℕ) (s : State) → (perform (retire words scratch script reel) s).answer ≡ 0
      → RetireStores (retire words scratch script reel) s reel
  pub tidies : (words scratch script reel : ℕ) (s : State) → (perform (tidy words scratch script reel) s).answer ≡ 0
      → TidyStores (tidy words scratch script reel) s reel
  pub asks : (reel f : ℕ) (s : State) → (perform (query (has reel f)) s).answer ≡ 0
      → HasSays s reel f (perform (query (has reel f)) s).work.handed.value
  pub lists : (scratch room reel : ℕ) (s : State) → (perform (query (list scratch room reel)) s).answer ≡ 0
      → ListGives s reel (perform (query (list scratch room reel)) s).work.handed.value (perform (query (list scratch room reel)) s).work.handed.listing
