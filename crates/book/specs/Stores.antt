-- What each answered operation stores, barrier by barrier, and which head record it writes: in the paper's words, over any state. Statements
-- alone; Format, Recover and Open are in Fixed.antt.
use Rattle.std.specs.Prelude.{◌≡◌, true, false, ◌⊎◌, ◌↔◌, ◌≢◌, ℕ, suc, ◌+◌, ◌*◌, ◌%◌, ◌≤◌, ◌<◌, length}
use mathlib.Core.List.{List, [], ◌∷◌, ◌++◌, map, flat_map, Memᴰ}
use Rattle.tree.specs.Memory.{Memory, reads, is_set, byte, Store}
use Rattle.tree.specs.declared.layout.Geometry.{Geometry}
use Rattle.tree.specs.Layout.{map_words, root_at, next_at, locate_at, set_at, level_at, size_at, fingerprints_at, frame_at}
use Rattle.tree.specs.Path.{fanout, child, way_of}
use Rattle.tree.specs.Fingerprint.{Rule, fingerprint, rule_of}
use Rattle.tree.specs.Node.{child_of}
use Rattle.tree.specs.Reach.{Reaches}
use Rattle.tree.specs.Subtree.{Visit, visit, Before}
use Rattle.tree.specs.Groups.{FirstGroup}
use Rattle.tree.specs.Laws.{FreeRun}
use Rattle.tree.specs.Pool.{used}
use Rattle.book.specs.declared.Target.{Target}
use Rattle.book.specs.declared.HeadState.TheVariants.{Claimed, Filled}
use Rattle.book.specs.Heads.{head_at}
use Rattle.book.specs.State.{State, Operation, memory, shape}
use Rattle.book.specs.Perform.{perform}
use Rattle.tree.specs.Lists.{range}
use Rattle.book.specs.Agrees.{About}
use Rattle.book.specs.Ways.{Full, FullAbove, FullPath, ReelAt, Matches}

-- ---- words, records, places

-- one bit of a word is on, or off, every other as it was
pub record BitOn (w p w' : ℕ) : Type 0 where
  pub on : is_set w' p ≡ true
  pub others : (q : ℕ) → q ≢ p → is_set w' q ≡ is_set w q

pub record BitOff (w p w' : ℕ) : Type 0 where
  pub off : is_set w' p ≡ false
  pub others : (q : ℕ) → q ≢ p → is_set w' q ≡ is_set w q

-- head h's record is written with these five words, and no word of another
pub record Recorded (h state : ℕ) (t : Target) (ws ws' : List ℕ) : Type 0 where
  pub state_word : reads ws' (5 * h) ≡ state
  pub slot_word : reads ws' (5 * h + 1) ≡ t.slot
  pub node_word : reads ws' (5 * h + 2) ≡ t.node
  pub place_word : reads ws' (5 * h + 3) ≡ t.place
  pub frame_word : reads ws' (5 * h + 4) ≡ t.frame
  pub others : (i : ℕ) → (i < 5 * h) ⊎ (5 * h + 5 ≤ i) → reads ws' i ≡ reads ws i

-- a record written idle is all 0
abbrev pub no_target : Target
no_target = record { slot = 0; node = 0; place = 0; frame = 0 }

-- the first node from the root, and its lowest place, where the lookup's rule is met
pub record FirstMatch (r : Rule) (g : Geometry) (m : Memory) (slot f node place : ℕ) : Type 0 where
  pub depth : ℕ
  pub is : Matches r g m slot f depth node place
  pub above : (d n p : ℕ) → d < depth → Matches r g m slot f d n p → ⊥
  pub lower : (p : ℕ) → p < place → Matches r g m slot f depth node p → ⊥

-- ---- the operations

module _ (op : Operation) (s : State) where
  abbrev pub script : List (List Store)
  script = (perform op s).work.script

  -- Fill: the frame, barrier, the fingerprint word with its other bytes kept, barrier; the record is filled
  pub record FillStores (h : ℕ) : Type 0 where
    pub target : Target
    pub claimed : head_at s.heads h ≡ Claimed target
    pub prints : ℕ
    pub printed : byte prints (target.place % 8) ≡ fingerprint (rule_of (memory s)) target.frame
    pub kept : (j : ℕ) → j ≢ target.place % 8 → byte prints j ≡ byte (memory s (fingerprints_at (shape s) target.node target.place)) j
    pub stores : script
        ≡ ((frame_at (shape s) target.node target.place, target.frame) ∷ [])
        ∷ ((fingerprints_at (shape s) target.node target.place, prints) ∷ [])
        ∷ []
    pub head : Recorded h 2 target s.heads (perform op s).work.after.heads

  -- Commit: the set word with the bit, barrier; the record is idle
  pub record CommitStores (h : ℕ) : Type 0 where
    pub target : Target
    pub filled : head_at s.heads h ≡ Filled target
    pub word : ℕ
    pub bit : BitOn (memory s (set_at (shape s) target.node)) target.place word
    pub stores : script ≡ ((set_at (shape s) target.node, word) ∷ []) ∷ []
    pub head : Recorded h 0 no_target s.heads (perform op s).work.after.heads

  -- Abandon: the locate word without the bit, barrier; the record is idle
  pub record AbandonStores (h : ℕ) : Type 0 where
    pub target : Target
    pub about : About target (head_at s.heads h)
    pub word : ℕ
    pub bit : BitOff (memory s (locate_at (shape s) target.node)) target.place word
    pub stores : script ≡ ((locate_at (shape s) target.node, word) ∷ []) ∷ []
    pub head : Recorded h 0 no_target s.heads (perform op s).work.after.heads

  -- Remove: at the first match, the set word without the bit, barrier, the locate word without it, barrier
  pub record RemoveStores (reel f : ℕ) : Type 0 where
    pub slot : ℕ
    pub of_reel : ReelAt (shape s) (memory s) reel slot
    pub node : ℕ
    pub place : ℕ
    pub first : FirstMatch (rule_of (memory s)) (shape s) (memory s) slot f node place
    pub set_word : ℕ
    pub set_bit : BitOff (memory s (set_at (shape s) node)) place set_word
    pub locate_word : ℕ
    pub locate_bit : BitOff (memory s (locate_at (shape s) node)) place locate_word
    pub stores : script ≡ ((set_at (shape s) node, set_word) ∷ []) ∷ ((locate_at (shape s) node, locate_word) ∷ []) ∷ []

  -- Retire: root 0, barrier; its nodes become free
  pub record RetireStores (reel : ℕ) : Type 0 where
    pub slot : ℕ
    pub of_reel : ReelAt (shape s) (memory s) reel slot
    pub stores : script ≡ ((root_at slot, 0) ∷ []) ∷ []
    pub map_words_lem : length (perform op s).work.after.pool ≡ length s.pool
    pub frees : (n : ℕ) → (used (perform op s).work.after.pool n ≡ true)
        ↔ ((used s.pool n ≡ true) × ((w : List ℕ) → Reaches (shape s) (memory s) slot w n → ⊥))

  -- Tidy: next 0 of the first node, in the order of List, whose children are all empty, barrier; the children become free
  pub record TidyStores (reel : ℕ) : Type 0 where
    pub slot : ℕ
    pub of_reel : ReelAt (shape s) (memory s) reel slot
    pub way : List ℕ
    pub node : ℕ
    pub first : FirstGroup (shape s) (memory s) slot way node
    pub stores : script ≡ ((next_at (shape s) node, 0) ∷ []) ∷ []
    pub map_words_lem : length (perform op s).work.after.pool ≡ length s.pool
    pub frees : (n : ℕ) → (used (perform op s).work.after.pool n ≡ true)
        ↔ ((used s.pool n ≡ true) × ((c : ℕ) → c < fanout (length way) → n ≢ child_of (shape s) (memory s) node c))

  -- Claim's room in a slot, by the nodes free in the map: its script, the place that it takes, and the nodes
  pub data ClaimStores (slot f : ℕ) : List (List Store) → (node place : ℕ) → (taken : List ℕ) → Type 0 where
    -- the first node from the root with a clear place, and the lowest such place: locate with the bit, barrier
    at_clear_place : {n p w : ℕ} (d : ℕ) → Reaches (shape s) (memory s) slot (way_of d f) n → FullAbove (shape s) (memory s) slot f d
        → p < memory s (size_at (shape s) n) → is_set (memory s (locate_at (shape s) n)) p ≡ false
        → ((q : ℕ) → q < p → is_set (memory s (locate_at (shape s) n)) q ≡ true) → BitOn (memory s (locate_at (shape s) n)) p w
        → ClaimStores slot f (((locate_at (shape s) n, w) ∷ []) ∷ []) n p []
    -- none, and the root is the only node, with size 16 or 32: size doubled, barrier; then locate with the lowest place above
    at_scale_up : {n size w : ℕ} → Reaches (shape s) (memory s) slot [] n → memory s (next_at (shape s) n) ≡ 0 → memory s (size_at (shape s) n) ≡ size
        → (size ≡ 16) ⊎ (size ≡ 32) → Full (shape s) (memory s) n → BitOn (memory s (locate_at (shape s) n)) size w
        → ClaimStores slot f (((size_at (shape s) n, 2 * size) ∷ []) ∷ ((locate_at (shape s) n, w) ∷ []) ∷ []) n size []
    -- none at size 64: the children made in turn, barrier; next of the parent, barrier; then locate of the child on the path with place 0
    at_branch_out : {d start w : ℕ} (x : FullPath (shape s) (memory s) slot f d) → d < 31 → FreeRun (shape s) (reads s.pool) (fanout d) start
        → ((a : ℕ) → FreeRun (shape s) (reads s.pool) (fanout d) a → start ≤ a) → BitOn 0 0 w
        → ClaimStores slot f (flat_map (λ n. (next_at (shape s) n, 0) ∷ (locate_at (shape s) n, 0) ∷ (set_at (shape s) n, 0) ∷ (level_at (shape s) n, suc d) ∷ (size_at (shape s) n, 64) ∷ [])
        (range start (fanout d))
        ∷ ((next_at (shape s) x.last, start + 1) ∷ [])
        ∷ ((locate_at (shape s) (start + child d f), w) ∷ [])
        ∷ []) (start + child d f) 0 (range start (fanout d))

  pub record ClaimWrites (h reel f : ℕ) : Type 0 where
    pub slot : ℕ
    pub of_reel : ReelAt (shape s) (memory s) reel slot
    pub node : ℕ
    pub place : ℕ
    pub taken : List ℕ
    pub stores : ClaimStores slot f script node place taken
    pub head : Recorded h 1 (record { slot = slot; node = node; place = place; frame = f }) s.heads (perform op s).work.after.heads
    -- the children made become used, and no other node of the map
    pub map_words_lem : length (perform op s).work.after.pool ≡ length s.pool
    pub marks : length s.pool ≡ map_words (shape s) → (n : ℕ) → (used (perform op s).work.after.pool n ≡ true)
        ↔ (Memᴰ n taken ⊎ (used s.pool n ≡ true))

-- Has: yes or no, by the lookup's rule
pub data HasSays (s : State) (reel f : ℕ) : ℕ → Type 0 where
  yes : {slot d n p : ℕ} → ReelAt (shape s) (memory s) reel slot → Matches (rule_of (memory s)) (shape s) (memory s) slot f d n p → HasSays s reel f 1
  no : {slot : ℕ} → ReelAt (shape s) (memory s) reel slot → ((d n p : ℕ) → Matches (rule_of (memory s)) (shape s) (memory s) slot f d n p → ⊥)
      → HasSays s reel f 0

-- List: of each node that the slot reaches, in the order of `Before`, the places whose set bit is 1, rising; their frames, and how many.
-- `Before` is asymmetric, so that no node's way is there twice
pub record ListGives (s : State) (reel count : ℕ) (frames : List ℕ) : Type 0 where
  pub slot : ℕ
  pub of_reel : ReelAt (shape s) (memory s) reel slot
  pub visits : List Visit
  pub reached : (w : List ℕ) (n : ℕ) → Memᴰ (visit w n) visits ↔ Reaches (shape s) (memory s) slot w n
  pub in_order : (earlier later : List Visit) (v : Visit) → visits ≡ earlier ++ v ∷ later → (u : Visit) → Memᴰ u later → Before v.way u.way
  pub places : (node : ℕ) → List ℕ
  pub held : (n p : ℕ) → Memᴰ p (places n) ↔ ((p < 64) × (is_set (memory s (set_at (shape s) n)) p ≡ true))
  pub rising : (n : ℕ) (lower higher : List ℕ) (p : ℕ) → places n ≡ lower ++ p ∷ higher → (q : ℕ) → Memᴰ q higher → p < q
  pub are : frames ≡ flat_map (λ (v : Visit). map (λ (p : ℕ). memory s (frame_at (shape s) v.node p)) (places v.node)) visits
  pub counted : count ≡ length frames
