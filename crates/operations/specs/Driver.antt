-- A driver's whole history, power lost included: statements alone, in the driver's own terms. These are the equations that the exported
-- contracts give it, the words that it was handed, and what power lost leaves of these.
use Rattle.std.specs.Prelude.{◌≡◌, true, cond, ◌⊎◌, ◌≢◌, ℕ, ◌/◌, ◌≤◌, ◌<◌, length, eqb}
use Rattle.std.proofs.Math.Option.{some}
use mathlib.Core.List.{List, [], ◌∷◌, Memᴰ}
use Rattle.tree.specs.Memory.{reads, Entry, Store, stores, apply, decode, Module, flushing, CrashOn, Lasting, EachLine, passed, Fit}
use Rattle.tree.specs.Layout.{map_words, geometry_of}
use Rattle.tree.specs.Fingerprint.{is_given}
use Rattle.book.specs.State.{State, Operation, format, recover, open_reel, claim, retire, tidy, query, has, convert, arguments}
use Rattle.book.specs.Table.{Table, is_present, empty_table, all_idle}
use Rattle.book.specs.Agrees.{Shows, Agrees}
use Rattle.book.specs.Held.{table_of}
use Rattle.book.specs.Histories.{replied, Steady, Interrupted, Attempts, Recovered, Follows}
use Rattle.book.specs.Demands.{Alike, Places, WritesImage}
use Rattle.book.specs.Growth.{Growing}
use Rattle.book.specs.Tidy.{Tidies}
use Rattle.book.specs.PathNodes.{in_use, OpensReel, StaysSmall}
use Rattle.operations.specs.Ends.{Buffers, no_buffers, state, Ends, ends}
use Rattle.operations.specs.Chain.{counted, words_in, words_on, next, Fits, Called, after_call, GoesOn}

-- ---- power lost (the paper's cut)

-- the images that power lost can leave, from an operation's call to the last barrier of the words that it handed out: the call, where it
-- writes the image itself, has left each word old or new; then the words, translated into a buffer where the memory module has line
-- flushes, and read as entries, are cut after k of these
pub record CutShort (on : Module) (op : Operation) (s : State) (e : Ends) (k : ℕ) (m : List ℕ) : Type 0 where
  pub unsteady : Steady op e.answer → ⊥
  pub itself : List ℕ
  pub same_length : length itself ≡ length s.image
  pub old_or_new : (i : ℕ) → (reads itself i ≡ reads s.image i) ⊎ (reads itself i ≡ reads e.after.image i)
  pub buffer : List ℕ
  pub room : 98 ≤ length buffer
  pub entries : List Entry
  pub decoded : decode (length s.image) (words_on on (length s.image) buffer (words_in (counted op) e)) ≡ some entries
  pub cut : CrashOn on itself entries k m

-- ---- an image that a call has written itself

-- the lines that a driver flushes before its barrier, after a call that has made an image of another one itself
abbrev pub Flushed : Type 0
Flushed = (before after : List ℕ) → List ℕ

-- such a call has ended for that driver when what it wrote lasts behind these flushes, where the memory module asks for them, and the barrier.
-- An operation that does not write the image itself, or is refused, has nothing to last but its script
abbrev pub Ended : Module → Flushed → Operation → State → Ends → Type 0
Ended on lines op s e = WritesImage op → e.answer ≡ 0 → Lasting on s.image e.after.image (lines s.image e.after.image)

-- ---- recovery

-- what the contract of recover says of a call with this image, this map and these heads
abbrev pub RecoverEnds : (image map heads : List ℕ) → Ends → Type 0
RecoverEnds image map heads e = e ≡ ends (recover (length map)) (state image map heads) no_buffers

-- power is back, or an image is found: calls of recover that are refused, or in which power is lost, from image to image. Map and heads
-- hold anything
pub data Retries (on : Module) : (image image' : List ℕ) → Type 0 where
  none_yet : {m : List ℕ} → Retries on m m
  refused : {m m' : List ℕ} (map heads : List ℕ) (e : Ends) → RecoverEnds m map heads e → e.answer ≢ 0
      → Retries on e.after.image m' → Retries on m m'
  cut_short : {m m' m'' : List ℕ} (map heads : List ℕ) (e : Ends) → RecoverEnds m map heads e
      → (k : ℕ) → CutShort on (recover (length map)) (state m map heads) e k m' → Retries on m' m'' → Retries on m m''

-- then one that answers 0, and whose image lasts: the driver's state is as that call left image, map and heads
pub record Recovers (on : Module) (lines : Flushed) (m : List ℕ) (s' : State) : Type 0 where
  pub image : List ℕ
  pub retries : Retries on m image
  pub map : List ℕ
  pub heads : List ℕ
  pub e : Ends
  pub contract : RecoverEnds image map heads e
  pub answered : e.answer ≡ 0
  pub lasts : Lasting on image e.after.image (lines image e.after.image)
  pub is : s' ≡ e.after

-- the table that a recovered book has, heads idle: the one before the operation, while a barrier of its entries was left to pass, or the
-- one after it; the whole book agrees with it
pub data Whole (es : List Entry) (k : ℕ) (before after : Table) (s' : State) : Table → Type 0 where
  as_before : (passed es k → ⊥) → Agrees s' (all_idle before) → Whole es k before after s' (all_idle before)
  as_after : Agrees s' (all_idle after) → Whole es k before after s' (all_idle after)

-- ---- a driver

-- whatever a driver that keeps to the contracts can come to, and the plain table for it
pub data Driven (on : Module) (lines : Flushed) : State → Table → Type 0 where
  -- a format that is answered, over any memory, any map and any heads
  formats : (words : ℕ) (table : List ℕ) (slots nodes : ℕ) (s : State) (b : Buffers) (e : Ends) → Fits (format words table slots nodes) s
      → e ≡ ends (format words table slots nodes) s b → e.answer ≡ 0 → Ended on lines (format words table slots nodes) s e
      → Driven on lines (next (format words table slots nodes) e) (empty_table (is_given table) slots nodes)
  -- an image of either edition that lasts and shows a table, and recover called until it answers 0
  finds : {m : List ℕ} {s : State} {t : Table} → Shows m t → Recovers on lines m s → Driven on lines s (all_idle t)
  -- any operation, answered or refused; the words that it handed out are carried out, or what it wrote itself lasts
  calls : {s : State} {t : Table} → Driven on lines s t → (op : Operation) (b : Buffers) (e : Ends) → Fits op s → (c : Called op s b e) → Ended on lines op s e
      → Driven on lines (after_call c) (replied op s t).work.after
  -- power lost from an operation's call to its last barrier, and recover called until it answers 0. Between two calls that is k = 0 of any
  -- next one
  loses_power : {s s' : State} {t t' : Table} {m : List ℕ} → Driven on lines s t → (op : Operation) (b : Buffers) (e : Ends) → Fits op s → Called op s b e
      → (k : ℕ) (c : CutShort on op s e k m) → Recovers on lines m s' → Whole c.entries k t (replied op s t).work.after s' t' → Driven on lines s' t'

-- the driver opened the reel, which is there, and since then it never had more than 64 frames held, claimed and filled, a claim cut
-- short counted in: `Small` (book, specs/PathNodes), for what the driver has done. A reel that it found, on a converted copy of its book
-- too, it did not open
abbrev pub KeptSmall : (reel : ℕ) {on : Module} {lines : Flushed} {s : State} {t : Table} → Driven on lines s t → Type 0
KeptSmall reel (formats words table slots nodes s b e fit q h w) = ⊥
KeptSmall reel (finds v r) = ⊥
KeptSmall reel (calls {s} {t} d op b e fit c w) = StaysSmall reel op s t (replied op s t).work.after (KeptSmall reel d)
KeptSmall reel (loses_power {s} {t = t} {t' = t'} d op b e fit call k c r w) = StaysSmall reel op s t t' (KeptSmall reel d)

-- however often recover was refused or cut short since power was lost
pub record Survives (on : Module) (lines : Flushed) (op : Operation) (s : State) (t : Table) (e : Ends) (k : ℕ) (m : List ℕ) (c : CutShort on op s e k m) : Type 0 where
  -- a call of it answers 0, or 3 for a map of another length
  pub accepted : (m' map heads : List ℕ) (e' : Ends) → Retries on m m' → RecoverEnds m' map heads e'
      → e'.answer ≡ cond (eqb (length map) (map_words (geometry_of (reads m')))) 0 3
  -- once one has answered 0, the book has the table before or the one after, whole: the driver goes on with that by `loses-power`
  pub whole : (s' : State) → Recovers on lines m s' → (t' : Table) × Whole c.entries k t (replied op s t).work.after s' t'

-- where the driver then stands
pub record Stands (on : Module) (lines : Flushed) (s : State) (t : Table) : Type 0 where
  -- its history is one of those that the demands speak of; reels, frames and heads are the table's, the map marks exactly the nodes reached
  pub follows : Follows on s t
  pub agrees : Agrees s t
  -- whatever it calls next, it is told what the table replies
  pub goes_on : (op : Operation) (b : Buffers) (e : Ends) → Fits op s → (c : Called op s b e) → GoesOn on op s t e (after_call c)
  -- book and table answer every operation alike, an 8 exactly where nodes lack, an 18 exactly where no group is empty, a 13 exactly
  -- where a head is in the way; frames sit where the tree's rule puts them; nodes come and go by that rule; and Tidy keeps its promises
  pub alike : (op : Operation) → Fit (arguments op) → Alike op s t
  pub places : Places on s
  pub growing : Growing on s
  pub tidies : (words scratch script reel : ℕ) → Fit (reel ∷ []) → Tidies on words scratch script reel s t
  -- and if it loses power in that, anywhere, recover comes to answer 0
  pub survives : (op : Operation) (b : Buffers) (e : Ends) → Fits op s → Called op s b e → (k : ℕ) (m : List ℕ) (c : CutShort on op s e k m)
      → Survives on lines op s t e k m c

-- ---- not too small

-- the operation borrows the book's map, of so many words
pub data BorrowsMap : Operation → (words : ℕ) → Type 0 where
  by_recover : {words : ℕ} → BorrowsMap (recover words) words
  by_open : {words script reel : ℕ} → BorrowsMap (open_reel words script reel) words
  by_claim : {words script h reel f : ℕ} → BorrowsMap (claim words script h reel f) words
  by_retire : {words scratch script reel : ℕ} → BorrowsMap (retire words scratch script reel) words
  by_tidy : {words scratch script reel : ℕ} → BorrowsMap (tidy words scratch script reel) words

-- whatever the histories of the demands have, a driver can meet: each crash, each recovery refused or cut short, each that ends
pub record AllMet (on : Module) (lines : Flushed) : Type 0 where
  -- in its own terms: every image that the words of a call can leave, cut after any number of entries, but for a format that is answered
  pub every_cut : (op : Operation) (s : State) (e : Ends) (k : ℕ) (itself m buffer : List ℕ) (es : List Entry)
      → ((words slots nodes : ℕ) (table : List ℕ) → op ≡ format words table slots nodes → e.answer ≢ 0) → length itself ≡ length s.image
      → ((i : ℕ) → (reads itself i ≡ reads s.image i) ⊎ (reads itself i ≡ reads e.after.image i)) → 98 ≤ length buffer
      → decode (length s.image) (words_on on (length s.image) buffer (words_in (counted op) e)) ≡ some es → CrashOn on itself es k m
      → CutShort on op s e k m
  pub cuts : (op : Operation) (s : State) (b : Buffers) (e : Ends) (k : ℕ) (m : List ℕ) → Fits op s → e ≡ ends op s b → Interrupted on op s k m
      → CutShort on op s e k m
  -- where it flushes each line of an image before its barrier, whatever a call wrote to that image lasts
  pub each_line : ((before after : List ℕ) → EachLine before (lines before after)) → (before after : List ℕ) → Lasting on before after (lines before after)
  -- every call: with words of 64 bits, with the book's map, with one of another length, a format with any
  pub any_words : (op : Operation) (s : State) → Fit s.image → Fit s.heads → Fit (arguments op) → Fits op s
  pub its_map : (op : Operation) (s : State) (b : Buffers) (e : Ends) → e ≡ ends op s b → Called op s b e
  pub other_length : (op : Operation) (words : ℕ) (s : State) (b : Buffers) (e : Ends) → BorrowsMap op words → words ≢ map_words (geometry_of (reads s.image))
      → (map : List ℕ) → e ≡ ends op (state s.image map s.heads) b → Called op s b e
  pub format_lent : (words slots nodes : ℕ) (table : List ℕ) (s : State) (b : Buffers) (e : Ends) (map : List ℕ)
      → e ≡ ends (format words table slots nodes) (state s.image map s.heads) b → Called (format words table slots nodes) s b e
  pub retries : (m m' : List ℕ) → Attempts on m m' → Retries on m m'
  pub recovers : ((before after : List ℕ) → EachLine before (lines before after)) → (m : List ℕ) (s' : State) → Recovered on m s' → Recovers on lines m s'

-- a driver that calls the exported functions, carries out the words that it was handed, loses power anywhere, and then calls recover
-- until this answers 0, stands with its table, wherever it has come to
pub record Driver (on : Module) (lines : Flushed) : Type 0 where
  pub stands : (s : State) (t : Table) → Driven on lines s t → Stands on lines s t
  -- a format that is answered, over any memory, any map and any heads, is a start
  pub starts : (words : ℕ) (table : List ℕ) (slots nodes : ℕ) (s : State) (b : Buffers) (e : Ends) → Fits (format words table slots nodes) s
      → e ≡ ends (format words table slots nodes) s b → e.answer ≡ 0 → Ended on lines (format words table slots nodes) s e
      → Driven on lines (next (format words table slots nodes) e) (empty_table (is_given table) slots nodes)
  -- where it finds an image that recover accepts, it may start there, with the one that ends, from the frames held there
  pub starts_on : (image map heads : List ℕ) (e : Ends) → Fit image → RecoverEnds image map heads e → e.answer ≡ 0
      → (s : State) → Recovers on lines image s → Driven on lines s (table_of image)
  -- where it has its book converted and the copy lasts, it may go on with that: an image that shows the same table
  pub converts : (scratch copy : ℕ) (s s' : State) (t : Table) (b : Buffers) (e : Ends) → Driven on lines s t
      → e ≡ ends (query (convert scratch copy)) s b → e.answer ≡ 0 → Lasting on b.copy e.buffers.copy (lines b.copy e.buffers.copy)
      → Recovers on lines e.buffers.copy s' → Driven on lines s' (all_idle t)
  -- of a reel that it has kept small, Has tells it that a lookup goes to one node
  pub one_node : {s : State} {t : Table} (d : Driven on lines s t) (reel f : ℕ) (b : Buffers) (e : Ends) → KeptSmall reel d → Fits (query (has reel f)) s
      → e ≡ ends (query (has reel f)) s b → e.path_nodes ≡ 1
  -- what keeps a reel small: calls, and power lost in them, with no more than 64 frames counted
  pub small_calls : {s : State} {t : Table} (d : Driven on lines s t) (reel : ℕ) (op : Operation) (b : Buffers) (e : Ends) (fit : Fits op s) (c : Called op s b e)
      (w : Ended on lines op s e) → OpensReel reel s op ⊎ KeptSmall reel d → length (in_use (replied op s t).work.after reel) ≤ 64
      → is_present (replied op s t).work.after reel ≡ true → KeptSmall reel (calls d op b e fit c w)
  pub small_cuts : {s s' : State} {t t' : Table} {m : List ℕ} (d : Driven on lines s t) (reel : ℕ) (op : Operation) (b : Buffers) (e : Ends) (fit : Fits op s)
      (call : Called op s b e) (k : ℕ) (c : CutShort on op s e k m) (r : Recovers on lines m s') (w : Whole c.entries k t (replied op s t).work.after s' t')
      → OpensReel reel s op ⊎ KeptSmall reel d → length (in_use (replied op s t).work.after reel) ≤ 64
      → is_present t' reel ≡ true → KeptSmall reel (loses_power d op b e fit call k c r w)
  -- however often recover was refused or cut short on an image that shows a table, it comes to answer 0
  pub accepted : (m m' map heads : List ℕ) (t : Table) (e : Ends) → Shows m t → Retries on m m' → RecoverEnds m' map heads e
      → e.answer ≡ cond (eqb (length map) (map_words (geometry_of (reads m')))) 0 3
  -- on the module with line flushes a driver that leaves out a line of an image is not covered: for it the call that wrote the image has not
  -- ended, and the copy does not last
  pub left_out : (op : Operation) (s : State) (e : Ends) (own : List Store) (i : ℕ) → WritesImage op → e.answer ≡ 0
      → apply s.image (stores own) ≡ e.after.image → i < length s.image
      → (Memᴰ (i / 8) (lines s.image e.after.image) → ⊥) → Ended flushing lines op s e → ⊥
  pub all_met : AllMet on lines
