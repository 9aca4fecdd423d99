-- What is proved of this layer's definitions: statements alone, each with its proof in proofs/. A law that holds only under
-- conditions has them among the parameters of its record.
use Rattle.std.specs.Prelude.{◌≡◌, Bool, true, false, not, cond, ◌⊎◌, ◌↔◌, ◌≢◌, ℕ, suc, ◌+◌, ◌-◌, ◌*◌, ◌/◌, ◌%◌, ◌^◌, ◌≤◌, ◌<◌, length, ltb}
use Rattle.std.proofs.Math.Option.{none, some}
use mathlib.Core.List.{List, [], ◌∷◌, ◌++◌, Memᴰ}
use Rattle.std.specs.Int.Bits.{bit_xor}
use Rattle.std.proofs.Math.ListN.{get_elem?}
use Rattle.memory.specs.Words.{Memory, byte, marked}
use Rattle.memory.specs.Search.{first}
use Rattle.memory.specs.Apply.{is_some}
use Rattle.tree.specs.Test.{holds}
use Rattle.tree.specs.Lists.{Distinct}
use Rattle.tree.specs.declared.layout.Geometry.{Geometry}
use Rattle.tree.specs.Layout.{table_at, reel_at, root_at, next_at, locate_at, set_at, level_at, size_at, fingerprints_at, frame_at, geometry_of}
use Rattle.tree.specs.Path.{fanout, child, way_of, bits_to}
use Rattle.tree.specs.Fingerprint.{Rule, folded, fingerprint, table_entry, the_table, rule_for, entry_in, own_rule, has_own, packed, stored_table, rule_of, has_every, bad_own, bad_given, OnceEach, GoodTable, LacksByte, BadOwn}
use Rattle.tree.specs.Node.{child_of, well_formed, held, frame}
use Rattle.tree.specs.Slots.{Filled, filled_slots, slot_of, empty_slot}
use Rattle.tree.specs.Reach.{Reaches, Holds, FrameOf}
use Rattle.tree.specs.Sound.{Sound, SoundTree}
use Rattle.tree.specs.Lookup.{spot, first_spot, path_from, clear_at, matches, lookup, find, is_free_run, free_run}
use Rattle.tree.specs.declared.path.Room.TheVariants.{ScaleUp, BranchOut}
use Rattle.tree.specs.Room.{clear_places, left_at, places_left}
use Rattle.tree.specs.Subtree.{Visit, visit, Before, tree, frames_in, listing}
use Rattle.tree.specs.Check.{is_sound_tree, is_sound}
use Rattle.tree.specs.Groups.{first_group, EmptyGroup, NoGroup, FirstGroup, found_way}
use Rattle.tree.specs.Outline.{outline}
use Rattle.tree.specs.Same.{Same, Stores}
use Rattle.tree.specs.Changes.{Opens, NewRoot, Links, InGroup, Grown, Pruned, Retired, Commits, Committed, Removes, Removed}

-- ---- the layout

-- where each word stands, by the paper's numbers
pub record LayoutLaws (g : Geometry) : Type 0 where
  pub reel : (s : ℕ) → reel_at s ≡ 64 + 2 * s
  pub root : (s : ℕ) → root_at s ≡ 65 + 2 * s
  pub next : (n : ℕ) → next_at g n ≡ 64 + 2 * g.slots + 80 * n
  pub locate : (n : ℕ) → locate_at g n ≡ next_at g n + 1
  pub set : (n : ℕ) → set_at g n ≡ next_at g n + 2
  pub level : (n : ℕ) → level_at g n ≡ next_at g n + 3
  pub size : (n : ℕ) → size_at g n ≡ next_at g n + 4
  pub fingerprints : (n p : ℕ) → fingerprints_at g n p ≡ next_at g n + 8 + p / 8
  pub frames : (n p : ℕ) → frame_at g n p ≡ next_at g n + 16 + p
  -- R and N are words 1 and 2
  pub geometry : (m : Memory) → ((geometry_of m).slots ≡ m 1) × ((geometry_of m).nodes ≡ m 2)

-- ---- children and ways

pub record ChildLaws : Type 0 where
  pub below : (k f : ℕ) → k < 31 → child k f < fanout k
  -- a child number by a quotient and a remainder: a frame's digits, lowest first, are three of base 2, then of base 4
  pub digit : (k f : ℕ) → child k f ≡ f / 2 ^ bits_to k % cond (ltb k 3) 2 4
  -- where there are children, the base is their number
  pub remainder : (k f : ℕ) → k < 31 → child k f ≡ f / 2 ^ bits_to k % fanout k
  -- frames go one way to level k exactly if they agree in the bits that it reads
  pub same_way : (k f f' : ℕ) → (way_of k f ≡ way_of k f') ↔ (f % 2 ^ bits_to k ≡ f' % 2 ^ bits_to k)
  pub length_way : (k f : ℕ) → length (way_of k f) ≡ k

pub record ReachLaws (g : Geometry) (m : Memory) : Type 0 where
  pub one_node : {s : ℕ} {w : List ℕ} {n n' : ℕ} → Reaches g m s w n → Reaches g m s w n' → n ≡ n'
  pub depth : {s : ℕ} {w : List ℕ} {n : ℕ} → Reaches g m s w n → length w ≤ 31
  pub slot_filled : {s : ℕ} {w : List ℕ} {n : ℕ} → Reaches g m s w n → Filled g m s

-- ---- nodes

-- a well-formed node at depth d, fact by fact
pub record WellFormed (g : Geometry) (m : Memory) (d n : ℕ) : Type 0 where
  pub inside : n < g.nodes
  pub level : m (level_at g n) ≡ d
  pub size : (m (size_at g n) ≡ 64) ⊎ ((d ≡ 0) × ((m (size_at g n) ≡ 16) ⊎ (m (size_at g n) ≡ 32)))
  pub locate : m (locate_at g n) < 2 ^ m (size_at g n)
  pub set : m (set_at g n) < 2 ^ m (size_at g n)
  pub next : (m (next_at g n) ≡ 0) ⊎ ((m (size_at g n) ≡ 64) × ((d < 31) × (child_of g m n (fanout d) ≤ g.nodes)))

pub record NodeLaws (g : Geometry) (m : Memory) : Type 0 where
  pub facts : (d n : ℕ) → (well_formed g m d n ≡ true) ↔ WellFormed g m d n

-- ---- slots

pub record SlotLaws (g : Geometry) (m : Memory) : Type 0 where
  pub listed : {s : ℕ} → Memᴰ s (filled_slots g m) ↔ Filled g m s
  pub listed_once : Distinct (λ s. s) (filled_slots g m)
  -- a reel's slot is filled, has its number, and is the lowest such
  pub reel : (reel : ℕ) → slot_of g m reel < g.slots → Filled g m (slot_of g m reel) × (m (reel_at (slot_of g m reel)) ≡ reel)
  pub lowest : {s : ℕ} → Filled g m s → slot_of g m (m (reel_at s)) ≤ s
  pub empty : empty_slot g m < g.slots → m (root_at (empty_slot g m)) ≡ 0
  pub lowest_empty : (s : ℕ) → s < g.slots → m (root_at s) ≡ 0 → empty_slot g m ≤ s

-- ---- fingerprints

pub record FingerprintLaws : Type 0 where
  -- entry i of the paper's table; edition 1 folds four bytes, edition 2 eight
  pub entries : (i : ℕ) → table_entry i ≡ (167 * i + 13) % 256
  pub editions : ((rule_for 1).bytes ≡ 4) × ((rule_for 2).bytes ≡ 8) × ((rule_for 1).table ≡ table_entry) × ((rule_for 2).table ≡ table_entry)
  -- from 0, and for each byte in turn, lowest first, entry (h xor byte)
  pub fold_none : (table : ℕ → ℕ) (f : ℕ) → folded table 0 f ≡ 0
  pub fold_next : (table : ℕ → ℕ) (k f : ℕ) → folded table (suc k) f ≡ table (bit_xor (folded table k f) (byte f k))
  pub by_rule : (r : Rule) (f : ℕ) → fingerprint r f ≡ folded r.table r.bytes f
  -- in the paper's table every byte occurs once
  pub table_once : OnceEach table_entry
  -- with such a table a fingerprint is a byte, whatever number of bytes is folded
  pub fits : {table : ℕ → ℕ} → OnceEach table → (k f : ℕ) → folded table k f < 256
  -- it goes by the bytes folded alone
  pub alike : (table : ℕ → ℕ) (k f f' : ℕ) → ((i : ℕ) → i < k → byte f i ≡ byte f' i) → folded table k f ≡ folded table k f'
  -- and by each of them: of frames that differ in one of them alone it is not the same
  pub by_each : {table : ℕ → ℕ} → OnceEach table → (k j f f' : ℕ) → j < k → ((i : ℕ) → i < k → i ≢ j → byte f i ≡ byte f' i)
      → folded table k f ≡ folded table k f' → byte f j ≡ byte f' j
  -- by the rule of any image it is a byte
  pub rule_fits : (m : Memory) (f : ℕ) → fingerprint (rule_of m) f < 256

-- ---- a mill's own table

pub record TableLaws : Type 0 where
  -- 256 entries lack no byte exactly if each byte occurs once among them
  pub lacks_none : (table : List ℕ) → length table ≡ 256 → (has_every table ≡ true) ↔ OnceEach (entry_in table)
  -- so what may be given is no table, or one of 256 entries in which each byte occurs once
  pub given : (table : List ℕ) → (holds (bad_given table) ≡ false) ↔ ((table ≡ []) ⊎ GoodTable table)
  -- a table packed into words 8 to 39 is read back, and its words are below 2^64
  pub read_back : {table : List ℕ} → GoodTable table → (m : Memory) → ((j : ℕ) → j < 32 → m (table_at + j) ≡ packed table j)
      → stored_table m ≡ table
  pub word_fits : {table : List ℕ} → GoodTable table → (j : ℕ) → j < 32 → packed table j < 2 ^ 64
  -- the paper's is such a table; given as an own one it makes the same fingerprints
  pub ours : GoodTable the_table
  pub ours_alike : (f : ℕ) → fingerprint (own_rule the_table) f ≡ fingerprint (rule_for 2) f
  -- the test for a bad own table says what it is, byte by byte
  pub bad : (m : Memory) → (holds (bad_own m) ≡ true) ↔ BadOwn m
  pub lacks : (table : List ℕ) → length table ≡ 256 → (has_every table ≡ false) ↔ LacksByte (entry_in table)
  -- in the table by which an image is read, its own or the paper's, every byte occurs once, unless it is bad
  pub image_once : (m : Memory) → holds (bad_own m) ≡ false → OnceEach (rule_of m).table

-- the rule by which an image is read, by its words: nothing else of the image goes in
pub record RuleLaws (m : Memory) : Type 0 where
  -- edition 1 has no table of its own, whatever words 3 to 63 have
  pub edition_1 : m 0 ≡ 1 → (has_own m ≡ false) × (rule_of m ≡ rule_for 1)
  -- edition 2 goes by the paper's where word 3 is 0, whatever the others have
  pub no_table : m 0 ≡ 2 → m 3 ≡ 0 → (has_own m ≡ false) × (rule_of m ≡ rule_for 2)
  -- and by the bytes of words 8 to 39 where it is 1
  pub own_table : m 0 ≡ 2 → m 3 ≡ 1
      → (has_own m ≡ true) × ((rule_of m).bytes ≡ 8) × ((i : ℕ) → i < 256 → (rule_of m).table i ≡ byte (m (8 + i / 8)) (i % 8))

-- ---- the path of a frame

-- a malformed node that one of the frame's ways reaches
pub record Malformed (g : Geometry) (m : Memory) (s f : ℕ) : Type 0 where
  pub level : ℕ
  pub node : ℕ
  pub there : Reaches g m s (way_of level f) node
  pub is : well_formed g m level node ≡ false

pub record PathLaws (g : Geometry) (m : Memory) (s f : ℕ) (filled : Filled g m s) : Type 0 where
  -- the nodes of the path are those that the frame's ways reach, level by level, and they are well formed
  pub nodes : (ns : List ℕ) → path_from g m s f ≡ some ns → (d n : ℕ) → (get_elem? ns d ≡ some n) ↔ Reaches g m s (way_of d f) n
  pub formed : (ns : List ℕ) → path_from g m s f ≡ some ns → (d n : ℕ) → get_elem? ns d ≡ some n → well_formed g m d n ≡ true
  -- there is none exactly if one of them is malformed
  pub malformed : (path_from g m s f ≡ none) ↔ Malformed g m s f

-- ---- the lookup

-- the first node of a list at which a search ends below its bound
pub record FirstAt (search bound : ℕ → ℕ) (ns : List ℕ) (n p : ℕ) : Type 0 where
  pub above : List ℕ
  pub below : List ℕ
  pub split : ns ≡ above ++ n ∷ below
  pub is : search n ≡ p
  pub within : p < bound n
  pub none_above : (x : ℕ) → Memᴰ x above → bound x ≤ search x

pub record SpotLaws (search bound : ℕ → ℕ) (ns : List ℕ) : Type 0 where
  pub found : (n p : ℕ) → (first_spot search bound ns ≡ some (spot n p)) ↔ FirstAt search bound ns n p
  pub nowhere : (first_spot search bound ns ≡ none) ↔ ((n : ℕ) → Memᴰ n ns → bound n ≤ search n)

-- ---- places left

-- a claim's place is one of its node's clear places, and the others are left; no bit of the node stands at or above its size
pub record LeftLaws (g : Geometry) (m : Memory) : Type 0 where
  pub clear : (n : ℕ) → m (locate_at g n) < 2 ^ m (size_at g n) → clear_at g m n < m (size_at g n)
      → left_at g m (spot n (clear_at g m n)) + 1 ≡ length (clear_places (m (locate_at g n)) (m (size_at g n)))
  -- a full node that is scaled up has its own number of places more
  pub scaled_up : (n : ℕ) → m (locate_at g n) < 2 ^ m (size_at g n) → 0 < m (size_at g n) → m (size_at g n) ≤ clear_at g m n
      → places_left g m (ScaleUp n (m (size_at g n))) + 1 ≡ m (size_at g n)
  -- a child made anew has 64
  pub branched_out : (parent d : ℕ) → places_left g m (BranchOut parent d) + 1 ≡ 64

-- a place of some of the nodes where the lookup finds a frame
pub record Match (r : Rule) (g : Geometry) (m : Memory) (f : ℕ) (ns : List ℕ) : Type 0 where
  pub node : ℕ
  pub place : ℕ
  pub member : Memᴰ node ns
  pub low : place < 64
  pub is : matches r g m f node place ≡ true

-- on any image: yes exactly if some place on the path has its set bit 1, the frame, and the frame's fingerprint
pub record LookupSays (r : Rule) (g : Geometry) (m : Memory) : Type 0 where
  pub yes : (f : ℕ) (ns : List ℕ) → (is_some (lookup r g m f ns) ≡ true) ↔ Match r g m f ns

-- the lookup's rule, for every table and number of bytes, so for each table in which every byte occurs once: on a sound image it
-- finds a frame exactly where it is held, so that its answer is that of comparing all
pub record LookupRule (r : Rule) (g : Geometry) (m : Memory) (s : ℕ) (sound : Sound r g m) (filled : Filled g m s) : Type 0 where
  pub at : (f n p : ℕ) → (find r g m s f ≡ some (spot n p)) ↔ ((w : List ℕ) × Holds g m s w n p f)
  pub yes : (f : ℕ) → (is_some (find r g m s f) ≡ true) ↔ FrameOf g m s f

-- ---- trees and listings

pub record TreeLaws (g : Geometry) (m : Memory) (s : ℕ) (filled : Filled g m s) : Type 0 where
  -- the nodes of a filled slot's tree are those that it reaches, and what it lists are its frames
  pub visited : (w : List ℕ) (n : ℕ) → Memᴰ (visit w n) (tree g m s) ↔ Reaches g m s w n
  pub listed : (f : ℕ) → Memᴰ f (listing g m s) ↔ FrameOf g m s f
  -- they come in the order that `Before` says, a node before all that come after it
  pub in_order : (earlier later : List Visit) (v : Visit) → tree g m s ≡ earlier ++ v ∷ later
      → (u : Visit) → Memᴰ u later → Before v.way u.way
  pub visited_once : SoundTree g m s → Distinct (λ v. v.node) (tree g m s)
  pub listed_once : (r : Rule) → Sound r g m → Distinct (λ f. f) (listing g m s)

-- the order of List is one: with `in_order` it is that in which a tree's nodes come
pub record OrderLaws : Type 0 where
  pub asymmetric : (w w' : List ℕ) → Before w w' → Before w' w → ⊥

-- ---- empty groups

pub record GroupLaws (g : Geometry) (m : Memory) (s : ℕ) (filled : Filled g m s) : Type 0 where
  -- the search finds the first empty group in the order of List
  pub found : (v : Visit) → first_group g m s ≡ some v → FirstGroup g m s v.way v.node
  -- and none exactly where there is none
  pub nowhere : (first_group g m s ≡ none) ↔ NoGroup g m s
  -- it goes by the outline alone: of another tree with the same outline it finds the same way, or none in both
  pub by_outline : (g' : Geometry) (m' : Memory) (s' : ℕ) → Filled g' m' s' → outline g m s ≡ outline g' m' s'
      → found_way (first_group g m s) ≡ found_way (first_group g' m' s')

-- ---- soundness

pub record SoundLaws (r : Rule) (g : Geometry) (m : Memory) : Type 0 where
  -- the tests decide
  pub tree : {s : ℕ} → Filled g m s → (is_sound_tree g m s ≡ true) ↔ SoundTree g m s
  pub image : (is_sound r g m ≡ true) ↔ Sound r g m
  -- with no slot filled, as after a Format, an image is sound
  pub formatted : ((s : ℕ) → s < g.slots → m (root_at s) ≡ 0) → Sound r g m
  -- on a sound image every frame has its path, every tree is sound, and a filled slot is its reel's
  pub path : {s : ℕ} → Sound r g m → Filled g m s → (f : ℕ) → (ns : List ℕ) × (path_from g m s f ≡ some ns)
  pub trees : {s : ℕ} → Sound r g m → SoundTree g m s
  pub own_slot : {s : ℕ} → Sound r g m → Filled g m s → slot_of g m (m (reel_at s)) ≡ s

-- ---- the pool map

-- k adjacent nodes from n on inside the pool, none of them used
pub record FreeRun (g : Geometry) (map : Memory) (k n : ℕ) : Type 0 where
  pub inside : n + k ≤ g.nodes
  pub free : (i : ℕ) → i < k → marked map (n + i) ≡ false

pub record RunLaws (g : Geometry) (map : Memory) (k : ℕ) : Type 0 where
  pub free : (n : ℕ) → (is_free_run g map k n ≡ true) ↔ FreeRun g map k n
  -- one is found if there is any, and it is the lowest
  pub found : free_run g map k < g.nodes → FreeRun g map k (free_run g map k)
  pub lowest : (n : ℕ) → 0 < k → FreeRun g map k n → (free_run g map k ≤ n) × (free_run g map k < g.nodes)

-- ---- level 31

-- n places, of which those set are told apart by numbers below b: with b below n one is clear
pub record RoomLaw : Type 0 where
  pub clear : (set : ℕ → Bool) (n b : ℕ) (key : ℕ → ℕ) → b < n → ((p : ℕ) → p < n → set p ≡ true → key p < b)
      → ((p q : ℕ) → p < n → q < n → set p ≡ true → set q ≡ true → key p ≡ key q → p ≡ q) → first (λ p. not (set p)) n < n

-- the frames of a node of level 31 agree in bits 0 to 58 and are told apart by the others, so that at most 32 exist
pub record LevelLaws (r : Rule) (g : Geometry) (m : Memory) (sound : Sound r g m) : Type 0 where
  pub agree : {s : ℕ} {w : List ℕ} {n p p' f f' : ℕ} → length w ≡ 31 → Holds g m s w n p f → Holds g m s w n p' f' → f % 2 ^ 59 ≡ f' % 2 ^ 59
  pub told : {s : ℕ} {w : List ℕ} {n : ℕ} → Reaches g m s w n → length w ≡ 31 → (p q : ℕ) → (p < 64) × (held g m n p ≡ true) → (q < 64) × (held g m n q ≡ true)
      → frame g m n p / 2 ^ 59 ≡ frame g m n q / 2 ^ 59 → p ≡ q
  pub few : {s : ℕ} {w : List ℕ} {n : ℕ} → ((i : ℕ) → m i < 2 ^ 64) → Reaches g m s w n → length w ≡ 31 → length (frames_in g m n) ≤ 32

-- ---- congruence

pub record SameLaws (g : Geometry) (m m' : Memory) (same : Same g m m') : Type 0 where
  pub reversed : Same g m' m
  pub reaches : {s : ℕ} {w : List ℕ} {n : ℕ} → Reaches g m s w n ↔ Reaches g m' s w n
  pub holds : {s : ℕ} {w : List ℕ} {n p f : ℕ} → Holds g m s w n p f ↔ Holds g m' s w n p f
  pub trees : {s : ℕ} → Filled g m s → tree g m s ≡ tree g m' s
  pub listings : {s : ℕ} → Filled g m s → listing g m s ≡ listing g m' s
  -- of a sound memory the other is sound too, if every node reached is well formed there
  pub sound : {r : Rule} → Sound r g m → ((s : ℕ) (w : List ℕ) (n : ℕ) → Reaches g m s w n → well_formed g m' (length w) n ≡ true) → Sound r g m'

-- ---- the changes of one word

pub record ChangeLaws (r : Rule) (g : Geometry) (m m' : Memory) (sound : Sound r g m) : Type 0 where
  pub opened : {s n : ℕ} → Opens g m s n → Stores m (root_at s) (suc n) m' → Grown r g m m' (NewRoot s n)
  pub linked : {s : ℕ} {w : List ℕ} {n start : ℕ} → Links g m s w n start → Stores m (next_at g n) (suc start) m' → Grown r g m m' (InGroup s w start)
  pub unlinked : {s : ℕ} {w : List ℕ} {n : ℕ} → EmptyGroup g m s w n → Stores m (next_at g n) 0 m'
      → Pruned r g m m' (InGroup s w (m (next_at g n) - 1))
  pub retired : {s : ℕ} → Filled g m s → Stores m (root_at s) 0 m' → Retired r g m m' s
  pub committed : {s : ℕ} {w : List ℕ} {n p f v : ℕ} → Commits r g m s w n p f v → Stores m (set_at g n) v m' → Committed r g m m' s w n p f
  pub removed : {s : ℕ} {w : List ℕ} {n p v : ℕ} → Removes g m s w n p v → Stores m (set_at g n) v m' → Removed r g m m' n p
