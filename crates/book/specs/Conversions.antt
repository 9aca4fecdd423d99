-- Converting from edition 1 to 2 and back: statements alone. When 1 comes for the second image's length, and 17, Due.antt says.
use Rattle.std.specs.Prelude.{◌≡◌, List, [], ℕ, length}
use Rattle.std.proofs.Math.Option.{some}
use Rattle.tree.specs.Memory.{reads, Module, Fit}
use Rattle.tree.specs.Layout.{map_words, edition_at}
use Rattle.tree.specs.Sound.{SoundImage}
use Rattle.tree.specs.ConvertLaws.{ConvertedWords, SameBook}
use Rattle.book.specs.State.{State, Operation, recover, query, list, convert, memory, shape}
use Rattle.book.specs.Perform.{perform}
use Rattle.book.specs.Table.{Table, all_idle}
use Rattle.book.specs.Agrees.{Shows, Agrees}
use Rattle.book.specs.Held.{table_of}
use Rattle.book.specs.Histories.{Interrupted, Recovered, Starts, Follows}

-- an answered conversion writes these words to the second image
pub data Writes : Operation → State → List ℕ → Type 0 where
  written : {scratch copy : ℕ} {s : State} {ws : List ℕ} → (perform (query (convert scratch copy)) s).answer ≡ 0
      → (perform (query (convert scratch copy)) s).work.handed.copy ≡ some ws → Writes (query (convert scratch copy)) s ws

-- the image of a state, converted
pub record Converts (s : State) (ws : List ℕ) : Type 0 where
  pub by : Operation
  pub writes : Writes by s ws

-- the other edition
pub data OtherEdition : ℕ → ℕ → Type 0 where
  to_2 : OtherEdition 1 2
  to_1 : OtherEdition 2 1

-- every List is answered alike on two images, and hands back the same frames in the same order
abbrev pub ListsAlike : (s s' : State) → Type 0
ListsAlike s s' = (scratch room reel : ℕ)
    → ((perform (query (list scratch room reel)) s').answer ≡ (perform (query (list scratch room reel)) s).answer)
    × ((perform (query (list scratch room reel)) s').work.handed ≡ (perform (query (list scratch room reel)) s).work.handed)

-- what is written
pub record Converted (s : State) (ws : List ℕ) : Type 0 where
  -- as long, of the other edition, and word for word as the request has it
  pub same_length : length ws ≡ length s.image
  pub edition : OtherEdition (memory s edition_at) (reads ws edition_at)
  pub words : ConvertedWords (reads ws edition_at) (shape s) (memory s) (reads ws)
  -- sound in its edition, with the same reels and frames, slot for slot and place for place
  pub sound : SoundImage (reads ws)
  pub same_book : SameBook (shape s) (memory s) (reads ws)
  pub lists : (r : State) → r.image ≡ ws → ListsAlike s r
  -- Recover takes it, with a map of the book's length, and finds nothing to mend
  pub recovered : (r : State) → r.image ≡ ws → (perform (recover (map_words (shape s))) r).answer ≡ 0
  pub not_mended : (words : ℕ) (r : State) → r.image ≡ ws → (perform (recover words) r).work.after.image ≡ ws
  -- and another conversion takes it
  pub taken : (r : State) → r.image ≡ ws → (perform (query (convert (map_words (shape s)) (length s.image))) r).answer ≡ 0

-- there and back: of the edition that it was, with the same reels and frames; every listing the same, order included
pub record ThereAndBack (s : State) (ws : List ℕ) : Type 0 where
  pub edition : reads ws edition_at ≡ memory s edition_at
  pub same_book : SameBook (shape s) (memory s) (reads ws)
  pub lists : (r : State) → r.image ≡ ws → ListsAlike s r

pub record Conversions (on : Module) : Type 0 where
  -- an answered conversion writes a second image; nothing else does, a refused one neither
  pub answered : (scratch copy : ℕ) (s : State) → (perform (query (convert scratch copy)) s).answer ≡ 0
      → (ws : List ℕ) × Writes (query (convert scratch copy)) s ws
  pub alone : (op : Operation) (s : State) (ws : List ℕ) → (perform op s).work.handed.copy ≡ some ws → Writes op s ws
  -- of all of these the following speaks
  pub all : (op : Operation) (s : State) (ws : List ℕ) → Writes op s ws → Converts s ws
  -- the image is only read: there is no script, and image, map and heads are as they were, answered or refused
  pub only_reads : (scratch copy : ℕ) (s : State) → let w = (perform (query (convert scratch copy)) s).work in
      (w.script ≡ []) × (w.after ≡ s)
  -- what is written
  pub there : (s : State) (ws : List ℕ) → Converts s ws → Converted s ws
  pub and_back : (s s' : State) (ws ws' : List ℕ) → Converts s ws → s'.image ≡ ws → Converts s' ws' → ThereAndBack s ws'
  -- a copy converted back and again has the same words
  pub again : (s s' s'' : State) (ws ws' ws'' : List ℕ) → Converts s ws → s'.image ≡ ws → Converts s' ws' → s''.image ≡ ws'
      → Converts s'' ws'' → ws'' ≡ ws
  -- a history may start on the copy with Recover, of either edition: with the frames held in the image
  pub starts_on : (s s' : State) (ws : List ℕ) → Fit s.image → Converts s ws → Recovered on ws s' → Starts on s' (table_of s.image)
  -- where the image is a history's, with the table that this has come to
  pub shows : (s : State) (t : Table) (ws : List ℕ) → Follows on s t → Converts s ws → Shows ws t
  pub starts : (s s' : State) (t : Table) (ws : List ℕ) → Follows on s t → Converts s ws → Recovered on ws s' → Starts on s' (all_idle t)
  -- power lost in a conversion costs the copy, and any open claim: the image is as it was, and the history goes on with its table
  pub interrupted : (scratch copy : ℕ) (s : State) (k : ℕ) (m : List ℕ) → Interrupted on (query (convert scratch copy)) s k m
      → m ≡ s.image
  pub goes_on : (scratch copy : ℕ) (s s' : State) (t : Table) (k : ℕ) (m : List ℕ) → Follows on s t
      → Interrupted on (query (convert scratch copy)) s k m → Recovered on m s' → Agrees s' (all_idle t)
