-- The refusal that is due: each number in its sequence with what it means, by words and ways and not by the book's own searches.
-- Statements alone, over any state.
use Rattle.std.specs.Prelude.{◌≡◌, false, ◌⊎◌, ◌≢◌, ℕ, ◌+◌, ◌*◌, ◌/◌, ◌≤◌, ◌<◌, length, get_or}
use mathlib.Core.List.{List, [], ◌∷◌, Memᴰ}
use Rattle.tree.specs.Memory.{reads}
use Rattle.tree.specs.Lists.{Distinct}
use Rattle.tree.specs.declared.layout.Geometry.{Geometry}
use Rattle.tree.specs.Layout.{edition_at, root_at, frame_at}
use Rattle.tree.specs.Path.{fanout}
use Rattle.tree.specs.Fingerprint.{rule_of, LacksByte, BadOwn}
use Rattle.tree.specs.Node.{well_formed, frame}
use Rattle.tree.specs.Reach.{Reaches, Holds}
use Rattle.tree.specs.Sound.{SoundImage}
use Rattle.tree.specs.Groups.{NoGroup}
use Rattle.tree.specs.declared.path.Spot.{Spot}
use Rattle.tree.specs.Laws.{Malformed, FreeRun}
use Rattle.book.specs.Heads.{head_count}
use Rattle.book.specs.State.{State, Operation, format, recover, open_reel, claim, fill, commit, abandon, remove, retire, tidy, query, has, list, convert, memory, shape}
use Rattle.book.specs.Perform.{perform}
use Rattle.book.specs.Ways.{FullPath, SlotHas, ReelAt, Matches, Uses}

-- a number, and when it is due
pub record Due : Type 1 where
  pub number : ℕ
  pub condition : Type 0

infix 20 ◌when◌
abbrev pub ◌when◌ : ℕ → Type 0 → Due
n when P = record { number = n; condition = P }

-- the number of the first condition that holds, 0 where none does
pub data First : List Due → ℕ → Type 1 where
  here : {P : Type 0} {n : ℕ} {ds : List Due} → P → First ((n when P) ∷ ds) n
  later : {P : Type 0} {n k : ℕ} {ds : List Due} → (P → ⊥) → First ds k → First ((n when P) ∷ ds) k
  none : First [] 0

-- ---- what is borrowed

-- 1 unless: R is 1 to 4,096, N is 1 to 65,536, and the image has 64 + 2R + 80N words
pub record RightImage (words : ℕ) (g : Geometry) : Type 0 where
  pub slots_from : 1 ≤ g.slots
  pub slots_to : g.slots ≤ 4096
  pub nodes_from : 1 ≤ g.nodes
  pub nodes_to : g.nodes ≤ 65536
  pub right_length : words ≡ 64 + 2 * g.slots + 80 * g.nodes

-- 3: a map or a scratch map is not of the map's length
abbrev pub WrongMap : Geometry → (words : ℕ) → Type 0
WrongMap g words = words ≢ (g.nodes + 63) / 64

-- 3: a script is too short
abbrev pub ShortScript : (words : ℕ) → Type 0
ShortScript words = words < 50

-- 1: the image, by its own R and N
abbrev pub WrongImage : State → Type 0
WrongImage s = RightImage (length s.image) (shape s) → ⊥

-- 2: its edition, neither 1 nor 2
abbrev pub NoEdition : State → Type 0
NoEdition s = (memory s edition_at ≢ 1) × (memory s edition_at ≢ 2)

-- these two come first
abbrev pub header : State → List Due → List Due
header s ds = (1 when WrongImage s) ∷ (2 when NoEdition s) ∷ ds

-- 16: a given table is not 256 bytes long, or lacks some byte; one of length 0 is none
abbrev pub BadGiven : (table : List ℕ) → Type 0
BadGiven table = (0 < length table) × ((length table ≢ 256) ⊎ LacksByte (λ i. get_or table i 0))

-- 1, 2, 3, and just after 3 a 4 for a bad own table, before all else
abbrev pub checked : State → (buffers : Type 0) → List Due → List Due
checked s buffers ds = header s ((3 when buffers) ∷ (4 when BadOwn (memory s)) ∷ ds)

-- ---- heads, by their words

module _ (s : State) where
  -- a record's words: state, slot, node, place, frame
  abbrev pub state_word : (head : ℕ) → ℕ
  state_word h = reads s.heads (5 * h)

  abbrev pub slot_word : (head : ℕ) → ℕ
  slot_word h = reads s.heads (5 * h + 1)

  abbrev pub node_word : (head : ℕ) → ℕ
  node_word h = reads s.heads (5 * h + 2)

  abbrev pub place_word : (head : ℕ) → ℕ
  place_word h = reads s.heads (5 * h + 3)

  abbrev pub frame_word : (head : ℕ) → ℕ
  frame_word h = reads s.heads (5 * h + 4)

  -- 1 is claimed, 2 is filled, any other state word is read as idle
  abbrev pub Idle : ℕ → Type 0
  Idle h = (state_word h ≢ 1) × (state_word h ≢ 2)

  -- 4 in Fill, Commit and Abandon: node or place is outside
  abbrev pub Outside : ℕ → Type 0
  Outside h = ((shape s).nodes ≤ node_word h) ⊎ (64 ≤ place_word h)

  -- busy: some head that is not idle names the slot
  pub record Busy (slot : ℕ) : Type 0 where
    pub head : ℕ
    pub low : head < head_count
    pub not_idle : Idle head → ⊥
    pub names : slot_word head ≡ slot

  -- ---- reels

  -- something is so of the reel's slot
  pub record OfReel (reel : ℕ) (P : ℕ → Type 0) : Type 0 where
    pub slot : ℕ
    pub is : ReelAt (shape s) (memory s) reel slot
    pub so : P slot

  -- 5: no such reel
  abbrev pub NoReel : ℕ → Type 0
  NoReel reel = (slot : ℕ) → SlotHas (shape s) (memory s) reel slot → ⊥

  -- 6: reel already open
  abbrev pub OpenReel : ℕ → Type 0
  OpenReel reel = (slot : ℕ) × SlotHas (shape s) (memory s) reel slot

  -- 7: no empty slot
  abbrev pub NoEmptySlot : Type 0
  NoEmptySlot = (k : ℕ) → k < (shape s).slots → memory s (root_at k) ≢ 0

  -- ---- paths and trees, from a reel's slot

  -- 4 on a path: a node of it is malformed
  abbrev pub BadPath : (f slot : ℕ) → Type 0
  BadPath f slot = Malformed (shape s) (memory s) slot f

  -- 4 in Claim: or it ends at level 31 with no clear place in any node
  abbrev pub NoRoom : (f slot : ℕ) → Type 0
  NoRoom f slot = BadPath f slot ⊎ FullPath (shape s) (memory s) slot f 31

  -- 4 in List, Retire and Tidy: a node reached from the root is malformed, or reached twice
  pub data BadTree (slot : ℕ) : Type 0 where
    malformed : {w : List ℕ} {n : ℕ} → Reaches (shape s) (memory s) slot w n → well_formed (shape s) (memory s) (length w) n ≡ false → BadTree slot
    twice : {w w' : List ℕ} {n : ℕ} → Reaches (shape s) (memory s) slot w n → Reaches (shape s) (memory s) slot w' n → w ≢ w' → BadTree slot

  -- 9, and 10 where it is not so: some place on the path has its set bit 1, the frame, and the frame's fingerprint
  pub record Finds (f slot : ℕ) : Type 0 where
    pub level : ℕ
    pub node : ℕ
    pub place : ℕ
    pub is : Matches (rule_of (memory s)) (shape s) (memory s) slot f level node place

  -- 14: more frames are held in the nodes reached than a list has room for, each place counted once
  pub record MoreFrames (room slot : ℕ) : Type 0 where
    pub places : List Spot
    pub once : Distinct (λ t. frame_at (shape s) t.node t.place) places
    pub each : (t : Spot) → Memᴰ t places
        → (w : List ℕ) × Holds (shape s) (memory s) slot w t.node t.place (frame (shape s) (memory s) t.node t.place)
    pub more : room < length places

  -- 8: no run of k adjacent nodes is free in the map
  abbrev pub NoRun : ℕ → Type 0
  NoRun k = (n : ℕ) → FreeRun (shape s) (reads s.pool) k n → ⊥

  -- the lowest run of k adjacent nodes that are free in the map
  pub record LowestFree (k a : ℕ) : Type 0 where
    pub run : FreeRun (shape s) (reads s.pool) k a
    pub lowest : (b : ℕ) → FreeRun (shape s) (reads s.pool) k b → a ≤ b

  -- 13 in Claim: a head that is not idle names the slot, and with it the same frame or the very node that this claim would use;
  -- it is another one, since by 12 the claim's own is idle
  pub record Conflict (f slot : ℕ) : Type 0 where
    pub by : Busy slot
    pub same : (frame_word by.head ≡ f) ⊎ Uses LowestFree (shape s) (memory s) slot f (node_word by.head)

  -- 8 in Claim: the path is full to its end, at size 64, and there is no run for the children
  pub record NoChildren (f slot : ℕ) : Type 0 where
    pub level : ℕ
    pub full : FullPath (shape s) (memory s) slot f level
    pub no_run_lem : NoRun (fanout level)

-- ---- the operations' sequences

unfoldable pub due : Operation → State → List Due
due (format map table slots nodes) s =
    let g : Geometry = record { slots = slots; nodes = nodes } in
    (1 when (RightImage (length s.image) g → ⊥)) ∷ (3 when WrongMap g map) ∷ (16 when BadGiven table) ∷ []
due (recover map) s =
    header s ((3 when WrongMap (shape s) map) ∷ (4 when (SoundImage (memory s) → ⊥)) ∷ [])
due (open_reel map script reel) s =
    checked s (WrongMap (shape s) map ⊎ ShortScript script)
    ((6 when OpenReel s reel)
    ∷ (7 when NoEmptySlot s)
    ∷ (8 when NoRun s 1)
    ∷ [])
due (claim map script h reel f) s =
    checked s (WrongMap (shape s) map ⊎ ShortScript script)
    ((11 when (head_count ≤ h))
    ∷ (12 when (Idle s h → ⊥))
    ∷ (5 when NoReel s reel)
    ∷ (4 when OfReel s reel (NoRoom s f))
    ∷ (9 when OfReel s reel (Finds s f))
    ∷ (13 when OfReel s reel (Conflict s f))
    ∷ (8 when OfReel s reel (NoChildren s f))
    ∷ [])
due (fill script h) s =
    checked s (ShortScript script) ((11 when (head_count ≤ h)) ∷ (12 when (state_word s h ≢ 1)) ∷ (4 when Outside s h) ∷ [])
due (commit script h) s =
    checked s (ShortScript script) ((11 when (head_count ≤ h)) ∷ (12 when (state_word s h ≢ 2)) ∷ (4 when Outside s h) ∷ [])
due (abandon script h) s =
    checked s (ShortScript script) ((11 when (head_count ≤ h)) ∷ (12 when Idle s h) ∷ (4 when Outside s h) ∷ [])
due (remove script reel f) s =
    checked s (ShortScript script)
    ((5 when NoReel s reel)
    ∷ (13 when OfReel s reel (Busy s))
    ∷ (4 when OfReel s reel (BadPath s f))
    ∷ (10 when OfReel s reel (λ slot. Finds s f slot → ⊥))
    ∷ [])
due (retire map scratch script reel) s =
    checked s (WrongMap (shape s) map ⊎ (WrongMap (shape s) scratch ⊎ ShortScript script))
    ((5 when NoReel s reel)
    ∷ (13 when OfReel s reel (Busy s))
    ∷ (4 when OfReel s reel (BadTree s))
    ∷ [])
due (tidy map scratch script reel) s =
    checked s (WrongMap (shape s) map ⊎ (WrongMap (shape s) scratch ⊎ ShortScript script))
    ((5 when NoReel s reel)
    ∷ (13 when OfReel s reel (Busy s))
    ∷ (4 when OfReel s reel (BadTree s))
    ∷ (18 when OfReel s reel (NoGroup (shape s) (memory s)))
    ∷ [])
due (query (has reel f)) s =
    header s ((4 when BadOwn (memory s)) ∷ (5 when NoReel s reel) ∷ (4 when OfReel s reel (BadPath s f)) ∷ [])
due (query (list scratch room reel)) s =
    checked s (WrongMap (shape s) scratch)
    ((5 when NoReel s reel)
    ∷ (4 when OfReel s reel (BadTree s))
    ∷ (14 when OfReel s reel (MoreFrames s room))
    ∷ [])
-- 17: the image is of edition 2 and word 3 is 1, so that it has an own table
due (query (convert scratch copy)) s =
    (1 when (WrongImage s ⊎ (copy ≢ length s.image)))
    ∷ (2 when NoEdition s)
    ∷ (3 when WrongMap (shape s) scratch)
    ∷ (4 when (SoundImage (memory s) → ⊥))
    ∷ (17 when ((memory s 0 ≡ 2) × (memory s 3 ≡ 1)))
    ∷ []

-- an operation's answer is the number that is due, over any memory contents, numbers and lengths
abbrev pub RefusalsDue : Type 1
RefusalsDue = (op : Operation) (s : State) → First (due op s) (perform op s).answer
