-- The chain from the exported contracts to the demands: statements alone. A contract says that what the driver finds is `ends op s b`; the
-- demands speak of histories, whose steps are `done op s`. A driver that carries out the words that it was handed makes that step.
use Rattle.std.specs.Prelude.{◌≡◌, cond, ◌⊎◌, ◌≢◌, ℕ, ◌≤◌, ◌<◌, length, take, drop, eqb}
use Rattle.std.proofs.Math.Option.{none, some}
use mathlib.Core.List.{List, [], ◌∷◌, Memᴰ}
use Rattle.tree.specs.Memory.{reads, segmented, encode, decode, translate, Module, plain, flushing, entries_on, Fit}
use Rattle.tree.specs.Layout.{map_words, geometry_of}
use Rattle.tree.specs.Fingerprint.{is_given}
use Rattle.book.specs.State.{State, Operation, format, recover, open_reel, claim, fill, commit, abandon, remove, retire, tidy, query, Query, has, list, convert, arguments}
use Rattle.book.specs.Perform.{perform}
use Rattle.book.specs.CarryOut.{carry, carried}
use Rattle.book.specs.Due.{First, due}
use Rattle.book.specs.Table.{Table, empty_table}
use Rattle.book.specs.Agrees.{EachOnce}
use Rattle.book.specs.Held.{table_of}
use Rattle.book.specs.Demands.{BorrowsScratch, Leaves}
use Rattle.book.specs.Histories.{done, replied, Follows}
use Rattle.operations.specs.Ends.{Buffers, state, Ends, ended, ends}

-- ---- what the driver has been handed

-- what the count handed back is a count of; a number alone is an answer in itself, and counts nothing in a buffer
pub data Counted : Type 0 where
  nothing script_words number_alone frames : Counted

abbrev pub query_counted : Query → Counted
query_counted (has reel f) = number_alone
query_counted (list scratch room reel) = frames
query_counted (convert scratch copy) = nothing

abbrev pub counted : Operation → Counted
counted (format words table slots nodes) = nothing
counted (recover words) = nothing
counted (open_reel words script reel) = script_words
counted (claim words script h reel f) = script_words
counted (fill script h) = script_words
counted (commit script h) = script_words
counted (abandon script h) = script_words
counted (remove script reel f) = script_words
counted (retire words scratch script reel) = script_words
counted (tidy words scratch script reel) = script_words
counted (query q) = query_counted q

-- the script's words
abbrev pub words_in : Counted → Ends → List ℕ
words_in script_words e = take e.count e.buffers.script
words_in nothing e = []
words_in number_alone e = []
words_in frames e = []

-- List's frames
abbrev pub frames_in : Counted → Ends → List ℕ
frames_in frames e = take e.count e.buffers.list
frames_in nothing e = []
frames_in script_words e = []
frames_in number_alone e = []

-- Has's yes or no, and how many frames List has
abbrev pub value_in : Counted → Ends → ℕ
value_in number_alone e = e.count
value_in frames e = e.count
value_in nothing e = 0
value_in script_words e = 0

-- the words that it carries out on either memory module, for an image of n words: on the one with line flushes those that the
-- translator has put into the buffer lent to it
abbrev pub words_on : Module → (n : ℕ) (buffer ws : List ℕ) → List ℕ
words_on plain n buffer ws = ws
words_on flushing n buffer ws = let t = translate n ws buffer in take t.count t.buffer

-- the driver's state once it has carried out the script's words: on either module, by `CarriedOn`
abbrev pub next : Operation → Ends → State
next op e = state (carry e.after.image (words_in (counted op) e)).image e.after.pool e.after.heads

-- ---- how an operation ends

pub record Answered (op : Operation) (s : State) (e : Ends) : Type 0 where
  -- the words are the entries of which histories say what a crash leaves
  pub entries : decode (length s.image) (words_in (counted op) e) ≡ some (segmented (perform op s).work.script)
  -- carried out, they answer 0 and leave the image that a history goes on with; map and heads are as it has them already
  pub carried_out : carry e.after.image (words_in (counted op) e) ≡ carried 0 (done op s).image
  pub pool : e.after.pool ≡ (done op s).pool
  pub heads : e.after.heads ≡ (done op s).heads

-- what the driver is told by every call, answered or refused, over any state: all that it is handed, and what stays of its buffers
pub record Tells (op : Operation) (s : State) (b : Buffers) (e : Ends) : Type 1 where
  -- the number is the one that is due
  pub number_due : First (due op s) e.answer
  -- the words are those of the stores and barriers, the value and the frames those of which `Fixed` (book, specs) speaks
  pub words : words_in (counted op) e ≡ encode (segmented (perform op s).work.script)
  pub value : value_in (counted op) e ≡ (perform op s).work.handed.value
  pub listing : frames_in (counted op) e ≡ (perform op s).work.handed.listing
  -- of places left what `PlacesLeft` (book, specs) says, of a frame's path what `PathNodes` does
  pub places_left_lem : e.places_left_lem ≡ (perform op s).places_left_lem
  pub path_nodes : e.path_nodes ≡ (perform op s).work.handed.path_nodes
  -- in the second image the words of which `Conversions` (book, specs) speaks; where there are none it stays
  pub copied : (ws : List ℕ) → (perform op s).work.handed.copy ≡ some ws → e.buffers.copy ≡ ws
  pub copy_stays : (perform op s).work.handed.copy ≡ none → e.buffers.copy ≡ b.copy
  -- image, map and heads as it leaves them, before the words are carried out
  pub after : e.after ≡ (perform op s).work.after
  -- of script and list the words after those handed over stay
  pub script_tail : drop (length (words_in (counted op) e)) e.buffers.script ≡ drop (length (words_in (counted op) e)) b.script
  pub list_tail : drop (length (frames_in (counted op) e)) e.buffers.list ≡ drop (length (frames_in (counted op) e)) b.list

-- on either memory module, with a buffer lent to the translator
pub record CarriedOn (on : Module) (op : Operation) (s : State) (e : Ends) (buffer : List ℕ) : Type 0 where
  -- the translator takes the words that were handed out
  pub taken : (translate (length s.image) (words_in (counted op) e) buffer).answer ≡ 0
  -- the words carried out are the entries of which histories say what a crash leaves there
  pub entries : decode (length s.image) (words_on on (length s.image) buffer (words_in (counted op) e))
      ≡ some (entries_on on (segmented (perform op s).work.script))
  -- and leave the same image
  pub carried_out : e.answer ≡ 0 → carry e.after.image (words_on on (length s.image) buffer (words_in (counted op) e)) ≡ carried 0 (done op s).image

pub record Refused (op : Operation) (s : State) (b : Buffers) (e : Ends) : Type 0 where
  pub count : e.count ≡ 0
  pub places_left_lem : e.places_left_lem ≡ 0
  pub path_nodes : e.path_nodes ≡ 0
  pub script : e.buffers.script ≡ b.script
  pub list : e.buffers.list ≡ b.list
  pub copy : e.buffers.copy ≡ b.copy
  pub after : e.after ≡ done op s
  -- whatever map it was lent: everything is as before, but for the map that a recovery refused 4 clears
  pub left : Leaves s op e.answer e.after

-- the scratch map is all 0, after any end but 1, 2 or 3 of an operation that borrows one
pub record Cleared (scratch scratch' : List ℕ) : Type 0 where
  pub same_length : length scratch' ≡ length scratch
  pub zeros : (i : ℕ) → reads scratch' i ≡ 0

abbrev pub Clears : Operation → Ends → Type 0
Clears op e = BorrowsScratch op × ((e.answer ≡ 0) ⊎ (3 < e.answer))

-- ---- a map of another length

-- the operation is lent a map of another length than the geometry's
pub data OtherMap (image : List ℕ) : Operation → Type 0 where
  by_format : {words slots nodes : ℕ} {table : List ℕ} → words ≢ map_words (record { slots = slots; nodes = nodes }) → OtherMap image (format words table slots nodes)
  by_recover : {words : ℕ} → words ≢ map_words (geometry_of (reads image)) → OtherMap image (recover words)
  by_open : {words script reel : ℕ} → words ≢ map_words (geometry_of (reads image)) → OtherMap image (open_reel words script reel)
  by_claim : {words script h reel f : ℕ} → words ≢ map_words (geometry_of (reads image)) → OtherMap image (claim words script h reel f)
  by_retire : {words scratch script reel : ℕ} → words ≢ map_words (geometry_of (reads image)) → OtherMap image (retire words scratch script reel)
  by_tidy : {words scratch script reel : ℕ} → words ≢ map_words (geometry_of (reads image)) → OtherMap image (tidy words scratch script reel)

-- it is refused with the same number whatever the map has, and leaves everything: so the book's own map may stand in the contract for the one lent
pub record Unread (op : Operation) (image heads : List ℕ) (b : Buffers) (e : Ends) : Type 0 where
  pub number : Memᴰ e.answer (1 ∷ 2 ∷ 3 ∷ [])
  pub same : (pool : List ℕ) → (perform op (state image pool heads)).answer ≡ e.answer
  pub leaves_all : (pool : List ℕ) → ends op (state image pool heads) b ≡ ended e.answer 0 (state image pool heads) b

-- ---- in a history

-- image, heads and arguments are words of 64 bits, as they are in the code
pub record Fits (op : Operation) (s : State) : Type 0 where
  pub image : Fit s.image
  pub heads : Fit s.heads
  pub numbers : Fit (arguments op)

-- a buffer that is not the book's map: one of another length, or whatever a format is lent, whose N is its own
pub data OtherBuffer (image : List ℕ) : Operation → Type 0 where
  another_length : {op : Operation} → OtherMap image op → OtherBuffer image op
  to_format : {words slots nodes : ℕ} {table : List ℕ} → OtherBuffer image (format words table slots nodes)

-- a call on the book's image and heads: with its map, or with another buffer. What the contract then says
pub data Called (op : Operation) (s : State) (b : Buffers) (e : Ends) : Type 0 where
  with_its_map : e ≡ ends op s b → Called op s b e
  with_another : (map : List ℕ) → OtherBuffer s.image op → e ≡ ends op (state s.image map s.heads) b → Called op s b e

-- the driver's state then, the words carried out. Its map is the one lent, or its own where it lent another and was refused
abbrev pub after_call : {op : Operation} {s : State} {b : Buffers} {e : Ends} → Called op s b e → State
after_call {op} {e = e} (with_its_map q) = next op e
after_call {op} {s} {e = e} (with_another map o q) = state (next op e).image (cond (eqb e.answer 0) e.after.pool s.pool) e.after.heads

-- the driver is told what the table replies, and with its next state the history goes on
pub record GoesOn (on : Module) (op : Operation) (s : State) (t : Table) (e : Ends) (s' : State) : Type 0 where
  pub answer : e.answer ≡ (replied op s t).answer
  pub value : value_in (counted op) e ≡ (replied op s t).work.handed.value
  pub listing : EachOnce (frames_in (counted op) e) (replied op s t).work.handed.listing
  pub follows : Follows on s' (replied op s t).work.after

pub record Chain : Type 1 where
  pub tells : (op : Operation) (s : State) (b : Buffers) (e : Ends) → e ≡ ends op s b → Tells op s b e
  pub answered : (op : Operation) (s : State) (b : Buffers) (e : Ends) → Fits op s → e ≡ ends op s b → e.answer ≡ 0 → Answered op s e
  pub on_module : (on : Module) (op : Operation) (s : State) (b : Buffers) (e : Ends) (buffer : List ℕ) → Fits op s → e ≡ ends op s b
      → 98 ≤ length buffer → CarriedOn on op s e buffer
  pub refused : (op : Operation) (s : State) (b : Buffers) (e : Ends) → e ≡ ends op s b → e.answer ≢ 0 → Refused op s b e
  pub scratch_cleared : (op : Operation) (s : State) (b : Buffers) (e : Ends) → e ≡ ends op s b → Clears op e
      → Cleared b.scratch e.buffers.scratch
  pub scratch_left : (op : Operation) (s : State) (b : Buffers) (e : Ends) → e ≡ ends op s b → (Clears op e → ⊥)
      → e.buffers.scratch ≡ b.scratch
  pub other_map : (op : Operation) (image pool heads : List ℕ) (b : Buffers) (e : Ends) → OtherMap image op
      → e ≡ ends op (state image pool heads) b → Unread op image heads b e
  pub starts : {on : Module} (words : ℕ) (table : List ℕ) (slots nodes : ℕ) (s : State) (b : Buffers) (e : Ends) → Fits (format words table slots nodes) s
      → e ≡ ends (format words table slots nodes) s b → e.answer ≡ 0 → Follows on (next (format words table slots nodes) e) (empty_table (is_given table) slots nodes)
  pub starts_on : {on : Module} (words : ℕ) (s : State) (b : Buffers) (e : Ends) → Fits (recover words) s
      → e ≡ ends (recover words) s b → e.answer ≡ 0 → Follows on (next (recover words) e) (table_of s.image)
  pub goes_on : {on : Module} (op : Operation) (s : State) (t : Table) (b : Buffers) (e : Ends) → Follows on s t → Fits op s → (c : Called op s b e)
      → GoesOn on op s t e (after_call c)
