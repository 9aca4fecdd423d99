-- The customer's demands, and with them where frames sit and what a script may hold: statements alone, for histories on either
-- memory module.
use Rattle.std.specs.Prelude.{◌≡◌, true, cond, ◌⊎◌, ◌↔◌, ◌≢◌, ℕ, ◌≤◌, ◌<◌, length, eqb}
use mathlib.Core.List.{List, [], ◌∷◌, ◌++◌, Memᴰ}
use Rattle.tree.specs.Memory.{reads, Entry, barrier, encode, segmented, Module, entries_on, passed, Inside, Fit, FitStores}
use Rattle.tree.specs.Test.{Says}
use Rattle.tree.specs.declared.layout.Geometry.{Geometry}
use Rattle.tree.specs.Layout.{in_range, image_words, map_words, reel_at, geometry_of}
use Rattle.tree.specs.Fingerprint.{GoodTable}
use Rattle.tree.specs.Reach.{Holds}
use Rattle.book.specs.declared.Target.{Target}
use Rattle.book.specs.declared.HeadState.TheVariants.{Claimed, Filled}
use Rattle.book.specs.Heads.{head_count, head_at}
use Rattle.book.specs.Refusals.{comes_to}
use Rattle.book.specs.State.{State, Operation, format, recover, open_reel, claim, fill, commit, abandon, remove, retire, tidy, query, Query, has, list, convert, arguments, nothing_handed}
use Rattle.book.specs.Perform.{perform}
use Rattle.book.specs.CarryOut.{carry, carried}
use Rattle.book.specs.Table.{Table, nothing, table_refusals, all_idle}
use Rattle.book.specs.Agrees.{EachOnce, Shows, About, Agrees}
use Rattle.book.specs.Held.{table_of}
use Rattle.book.specs.Ways.{Takes, SlotHas, Lacks, LacksGroup, InTheWay}
use Rattle.book.specs.Histories.{done, replied, Interrupted, Attempts, Recovered, Next, Starts, Follows}

-- ---- 1: over any state, an operation is answered or refused; a refusal hands out nothing and leaves everything

-- the numbers that the paper gives an operation; Due.antt says when each is due, and in which sequence
abbrev pub query_numbers : Query → List ℕ
query_numbers (has reel f) = 1 ∷ 2 ∷ 4 ∷ 5 ∷ 4 ∷ []
query_numbers (list scratch room reel) = 1 ∷ 2 ∷ 3 ∷ 4 ∷ 5 ∷ 4 ∷ 14 ∷ []
query_numbers (convert scratch copy) = 1 ∷ 2 ∷ 3 ∷ 4 ∷ 17 ∷ []

abbrev pub numbers : Operation → List ℕ
numbers (format words table slots nodes) = 1 ∷ 3 ∷ 16 ∷ []
numbers (recover words) = 1 ∷ 2 ∷ 3 ∷ 4 ∷ []
numbers (open_reel words script reel) = 1 ∷ 2 ∷ 3 ∷ 4 ∷ 6 ∷ 7 ∷ 8 ∷ []
numbers (claim words script h reel f) = 1 ∷ 2 ∷ 3 ∷ 4 ∷ 11 ∷ 12 ∷ 5 ∷ 4 ∷ 9 ∷ 13 ∷ 8 ∷ []
numbers (fill script h) = 1 ∷ 2 ∷ 3 ∷ 4 ∷ 11 ∷ 12 ∷ 4 ∷ []
numbers (commit script h) = 1 ∷ 2 ∷ 3 ∷ 4 ∷ 11 ∷ 12 ∷ 4 ∷ []
numbers (abandon script h) = 1 ∷ 2 ∷ 3 ∷ 4 ∷ 11 ∷ 12 ∷ 4 ∷ []
numbers (remove script reel f) = 1 ∷ 2 ∷ 3 ∷ 4 ∷ 5 ∷ 13 ∷ 4 ∷ 10 ∷ []
numbers (retire words scratch script reel) = 1 ∷ 2 ∷ 3 ∷ 4 ∷ 5 ∷ 13 ∷ 4 ∷ []
numbers (tidy words scratch script reel) = 1 ∷ 2 ∷ 3 ∷ 4 ∷ 5 ∷ 13 ∷ 4 ∷ 18 ∷ []
numbers (query q) = query_numbers q

-- a recovery refused 4 clears the map
pub data ClearsMap : Operation → ℕ → Type 0 where
  unsound : {words : ℕ} → ClearsMap (recover words) 4

-- List, Retire, Tidy and Convert borrow a scratch map
pub data BorrowsScratch : Operation → Type 0 where
  by_list : {scratch room reel : ℕ} → BorrowsScratch (query (list scratch room reel))
  by_retire : {words scratch script reel : ℕ} → BorrowsScratch (retire words scratch script reel)
  by_tidy : {words scratch script reel : ℕ} → BorrowsScratch (tidy words scratch script reel)
  by_convert : {scratch copy : ℕ} → BorrowsScratch (query (convert scratch copy))

-- what a refusal leaves: everything, but for the map that a recovery refused 4 clears
pub data Leaves (s : State) : Operation → ℕ → State → Type 0 where
  as_before : {op : Operation} {n : ℕ} {s' : State} → (ClearsMap op n → ⊥) → s' ≡ s → Leaves s op n s'
  map_cleared : {words : ℕ} {s' : State} → s'.image ≡ s.image → s'.heads ≡ s.heads → length s'.pool ≡ words
      → ((i : ℕ) → reads s'.pool i ≡ 0) → Leaves s (recover words) 4 s'

pub record Refused (op : Operation) (s : State) : Type 0 where
  pub number : Memᴰ (perform op s).answer (numbers op)
  pub no_store : (perform op s).work.script ≡ []
  pub none_handed : (perform op s).work.handed ≡ nothing_handed
  pub places_left_lem : (perform op s).places_left_lem ≡ 0
  pub left : Leaves s op (perform op s).answer (perform op s).work.after

pub record Demand1 : Type 0 where
  pub refused : (op : Operation) (s : State) → (perform op s).answer ≢ 0 → Refused op s
  -- the scratch map is all 0 after any end but 1, 2 or 3
  pub scratch : (op : Operation) (s : State)
      → ((perform op s).cleared ≡ true) ↔ (BorrowsScratch op × (((perform op s).answer ≡ 0) ⊎ (3 < (perform op s).answer)))

-- ---- 2: in every history, book and table answer alike

-- 1 comes only from Format, and from Convert for a second image that is not as long as the image
pub data GivesOne (s : State) : Operation → Type 0 where
  by_format : {words slots nodes : ℕ} {table : List ℕ} → GivesOne s (format words table slots nodes)
  by_convert : {scratch copy : ℕ} → copy ≢ length s.image → GivesOne s (query (convert scratch copy))

pub record Alike (op : Operation) (s : State) (t : Table) : Type 0 where
  pub answer : (perform op s).answer ≡ (replied op s t).answer
  pub value : (perform op s).work.handed.value ≡ (replied op s t).work.handed.value
  pub listing : EachOnce (perform op s).work.handed.listing (replied op s t).work.handed.listing
  pub not_edition : (perform op s).answer ≢ 2
  pub not_malformed : (perform op s).answer ≢ 4
  pub one_from : (perform op s).answer ≡ 1 → GivesOne s op
  -- where the table comes to an 8, it comes exactly if the operation lacks the nodes that it needs
  pub no_run_lem : comes_to 8 (table_refusals op nothing t) ≡ true → ((perform op s).answer ≡ 8) ↔ Lacks s op
  -- where it comes to an 18, that comes exactly if no node that the reel reaches has children that are all empty
  pub no_group : comes_to 18 (table_refusals op nothing t) ≡ true → ((perform op s).answer ≡ 18) ↔ LacksGroup s op
  -- where it comes to a 13, that comes exactly if a head is in the operation's way
  pub busy : comes_to 13 (table_refusals op nothing t) ≡ true → ((perform op s).answer ≡ 13) ↔ InTheWay s op

pub record Demand2 (on : Module) : Type 0 where
  -- a format is answered over any memory, map and heads where numbers and lengths are right, without a table or with one in which
  -- every byte occurs once, so that histories start
  pub starts : (table : List ℕ) (g : Geometry) (s : State) → (table ≡ []) ⊎ GoodTable table → Says (in_range g) → length s.image ≡ image_words g
      → (perform (format (map_words g) table g.slots g.nodes) s).answer ≡ 0
  -- an image that a recovery accepts, with whatever map and heads, shows the table of the frames held there
  pub shown : (words : ℕ) (s : State) → Fit s.image → (perform (recover words) s).answer ≡ 0
      → Shows s.image (table_of s.image)
  -- where an image shows a table, recovery is answered, or refused 3 for a map of another length, however often it was refused or
  -- interrupted there before
  pub accepted : (m m' : List ℕ) (t : Table) → Shows m t → Attempts on m m' → (words : ℕ) (r : State) → r.image ≡ m'
      → (perform (recover words) r).answer ≡ cond (eqb words (map_words (geometry_of (reads m')))) 0 3
  -- so histories start on every image that a recovery accepts, with the one that ends, from the frames held there
  pub starts_on : (words : ℕ) (s : State) → Fit s.image → (perform (recover words) s).answer ≡ 0
      → (s' : State) → Recovered on s.image s' → Starts on s' (table_of s.image)
  pub alike : (s : State) (t : Table) → Follows on s t → (op : Operation) → Fit (arguments op) → Alike op s t

-- ---- 3: every history agrees with its table, through every crash

-- whatever a crash after k entries, and any recoveries refused or interrupted after it, leave
pub record Survives (on : Module) (op : Operation) (s : State) (t : Table) (k : ℕ) (m : List ℕ) : Type 0 where
  -- a recovery answers 0, or 3 for a map of another length
  pub accepted : (words : ℕ) (r : State) → r.image ≡ m
      → (perform (recover words) r).answer ≡ cond (eqb words (map_words (geometry_of (reads m)))) 0 3
  -- one that ends leaves the table before or the one after, whole, and the one after once no barrier is left to pass
  pub whole : (s' : State) → Recovered on m s'
      → ((passed (entries_on on (segmented (perform op s).work.script)) k → ⊥) × Agrees s' (all_idle t))
      ⊎ Agrees s' (all_idle (replied op s t).work.after)

pub record Kept (on : Module) (s : State) (t : Table) : Type 0 where
  pub agrees : Agrees s t
  pub survives : (op : Operation) → Fit (arguments op) → (k : ℕ) (m m' : List ℕ) → Interrupted on op s k m → Attempts on m m' → Survives on op s t k m'

abbrev pub Demand3 : Module → Type 0
Demand3 on = (s : State) (t : Table) → Follows on s t → Kept on s t

-- ---- where frames sit

-- an answered claim's head names the place that its frame takes
pub record ClaimPlaced (op : Operation) (s : State) (h reel f : ℕ) : Type 0 where
  pub target : Target
  pub claimed : head_at (done op s).heads h ≡ Claimed target
  pub of_frame : target.frame ≡ f
  pub of_reel : SlotHas (geometry_of (reads s.image)) (reads s.image) reel target.slot
  pub takes : Takes (geometry_of (reads s.image)) (reads s.image) (reads (done op s).image) target.slot f target.node target.place

-- a head has filled that place with that frame
pub record FilledBy (ws : List ℕ) (slot n p f : ℕ) : Type 0 where
  pub head : ℕ
  pub low : head < head_count
  pub target : Target
  pub filled : head_at ws head ≡ Filled target
  pub of_slot : target.slot ≡ slot
  pub of_node : target.node ≡ n
  pub of_place : target.place ≡ p
  pub of_frame : target.frame ≡ f

-- what a step keeps, a crash and its recoveries included
pub record StaysPut (s s' : State) : Type 0 where
  -- a frame that a reel held, and holds still, is where it was
  pub same_place : {slot slot' n n' p p' f : ℕ} {w w' : List ℕ}
      → Holds (geometry_of (reads s.image)) (reads s.image) slot w n p f
      → Holds (geometry_of (reads s'.image)) (reads s'.image) slot' w' n' p' f
      → reads s.image (reel_at slot) ≡ reads s'.image (reel_at slot')
      → (slot ≡ slot') × (w ≡ w') × (n ≡ n') × (p ≡ p')
  -- a frame held after it was held there before, or a head had filled that very place with it
  pub came_from : {slot n p f : ℕ} {w : List ℕ} → Holds (geometry_of (reads s'.image)) (reads s'.image) slot w n p f
      → Holds (geometry_of (reads s.image)) (reads s.image) slot w n p f ⊎ FilledBy s.heads slot n p f
  -- a head that is not idle before and after is about the same place and frame
  pub targets : (h : ℕ) {a b : Target} → h < head_count → About a (head_at s.heads h) → About b (head_at s'.heads h) → a ≡ b

-- so a frame comes to be held only in the place that its claim took
pub record Places (on : Module) (s : State) : Type 0 where
  pub claim : (words script h reel f : ℕ) → Fit (h ∷ reel ∷ f ∷ []) → (perform (claim words script h reel f) s).answer ≡ 0
      → ClaimPlaced (claim words script h reel f) s h reel f
  pub stays : (s' : State) → Next on s s' → StaysPut s s'

abbrev pub Placed : Module → Type 0
Placed on = (s : State) (t : Table) → Follows on s t → Places on s

-- ---- scripts, over any state of words below 2^64

-- the operations that write the image themselves
pub data WritesImage : Operation → Type 0 where
  by_format : {words slots nodes : ℕ} {table : List ℕ} → WritesImage (format words table slots nodes)
  by_recover : {words : ℕ} → WritesImage (recover words)

pub record GoodScript (op : Operation) (s : State) : Type 0 where
  -- an operation stores by its script, or writes the image itself and has no script
  pub one_way : (WritesImage op × ((perform op s).work.script ≡ [])) ⊎ ((perform op s).work.after.image ≡ s.image)
  pub short : length (segmented (perform op s).work.script) ≤ 25
  pub ends_in_barrier : (segmented (perform op s).work.script ≡ []) ⊎ ((es : List Entry) × (segmented (perform op s).work.script ≡ es ++ barrier ∷ []))
  pub inside : Inside (length s.image) (segmented (perform op s).work.script)
  pub fits : FitStores (segmented (perform op s).work.script)
  -- carried out as words, it answers 0 and leaves the image that a history goes on with
  pub carried_out : (perform op s).answer ≡ 0
      → carry (perform op s).work.after.image (encode (segmented (perform op s).work.script)) ≡ carried 0 (done op s).image

abbrev pub Scripts : Type 0
Scripts = (op : Operation) (s : State) → Fit s.image → Fit s.heads → Fit (arguments op) → GoodScript op s
