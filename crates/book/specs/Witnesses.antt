-- That the model of histories is not too small: crashes and formats that document 01 speaks of are in it. Statements alone.
-- (That every mixture of stores kept and lost is a crash image is `possible` of the memory layer. The other memory module has the
-- same histories: `same-histories` of Flushing.)
use Rattle.std.specs.Prelude.{◌≡◌, false, ◌⊎◌, ◌≢◌, List, [], ◌∷◌, ◌++◌, map, ℕ, zero, suc, ◌+◌, ◌-◌, ◌*◌, ◌^◌, ◌<◌, length, take, set, replicate}
use Rattle.std.proofs.Math.Option.{Option, some}
use Rattle.tree.specs.Memory.{reads, Store, stores, segmented, apply, Module, plain, entries_on, CrashOn, passed, Fit}
use Rattle.tree.specs.Layout.{edition_at, reel_at, locate_at}
use Rattle.tree.specs.Lists.{up_to}
use Rattle.tree.specs.Slots.{empty_slot}
use Rattle.book.specs.declared.HeadState.TheVariants.{Claimed, Filled}
use Rattle.book.specs.Heads.{head_count, head_at}
use Rattle.book.specs.State.{State, Operation, format, recover, open_reel, claim, fill, commit, abandon, remove, retire, tidy, query, has, list, convert, arguments, memory, shape}
use Rattle.book.specs.Perform.{perform}
use Rattle.book.specs.Table.{Table, Reel, idle, claimed, filled, empty_table, all_idle}
use Rattle.book.specs.Agrees.{Agrees}
use Rattle.book.specs.Held.{table_of}
use Rattle.book.specs.Histories.{done, replied, Interrupted, Attempts, Recovered, Next, Follows}
use Rattle.book.specs.PathNodes.{has_of, in_use, Small}
use Rattle.book.specs.Starred.{run, formatted, with_frames}

-- ---- a crash in Commit

-- a crash in an operation after k entries, with a recovery that ends in a state
pub record CutAt (op : Operation) (s : State) (k : ℕ) (s' : State) : Type 0 where
  pub left : List ℕ
  pub interrupted : Interrupted plain op s k left
  pub recovered : Recovered plain left s'

-- its script is one store and a barrier
pub record CommitCut (s : State) (t : Table) (script h : ℕ) : Type 0 where
  -- the store issued and lost: the barrier is left to pass, and the book recovered has the table before
  pub before : (s' : State) × CutAt (commit script h) s 1 s' × (passed (segmented (perform (commit script h) s).work.script) 1 → ⊥) × Agrees s' (all_idle t)
  -- both entries carried out: the book recovered has the table after
  pub after : (s' : State) × CutAt (commit script h) s 2 s' × Agrees s' (all_idle (replied (commit script h) s t).work.after)

-- ---- a crash with four claims open

-- four reels are opened; each of the four heads claims a place in one of them, and heads 2 and 3 fill theirs
abbrev pub claims_of_all : List Operation
claims_of_all =
    open_reel 1 50 7 ∷ open_reel 1 50 8 ∷ open_reel 1 50 9 ∷ open_reel 1 50 10
    ∷ claim 1 50 0 7 12 ∷ claim 1 50 1 8 12 ∷ claim 1 50 2 9 12 ∷ claim 1 50 3 10 12 ∷ fill 50 2 ∷ fill 50 3 ∷ []

-- the book and the table that this comes to
unfoldable pub all_claimed : State
all_claimed = run claims_of_all (formatted 4 4)

abbrev pub no_frames : ℕ → Reel
no_frames reel = record { number = reel; frames = [] }

abbrev pub four_open : Table
four_open = record {
  slots = 4;
  nodes = 4;
  own = false;
  reels = no_frames 10 ∷ no_frames 9 ∷ no_frames 8 ∷ no_frames 7 ∷ [];
  heads = claimed 7 12 ∷ claimed 8 12 ∷ filled 9 12 ∷ filled 10 12 ∷ [];
}

-- the locate words of nodes 0 to 3, a root each
abbrev pub locate_words : State → List ℕ
locate_words s = map (λ n. memory s (locate_at (shape s) n)) (0 ∷ 1 ∷ 2 ∷ 3 ∷ [])

pub record FourClaims : Type 0 where
  pub history : Follows plain all_claimed four_open
  -- a fifth head is none
  pub no_fifth : (perform (claim 1 50 4 7 12) all_claimed).answer ≡ 11
  -- the commit of head 3 may be cut before and after
  pub answered : (perform (commit 50 3) all_claimed).answer ≡ 0
  pub cut : CommitCut all_claimed four_open 50 3
  -- and there the two ends differ: no book agrees with both tables
  pub told_apart : (t : Table) → Follows plain all_claimed t → (s' : State)
      → Agrees s' (all_idle t) → Agrees s' (all_idle (replied (commit 50 3) all_claimed t).work.after) → ⊥
  -- a recovery has four words to change, so that any of them old and the others new is among the mixtures that a crash in it may leave
  pub recovers : (perform (recover 1) all_claimed).answer ≡ 0
  pub all_old : locate_words all_claimed ≡ 1 ∷ 1 ∷ 1 ∷ 1 ∷ []
  pub all_new : locate_words (perform (recover 1) all_claimed).work.after ≡ 0 ∷ 0 ∷ 0 ∷ 0 ∷ []
  pub all_idle_lem : (perform (recover 1) all_claimed).work.after.heads ≡ replicate 20 0

-- ---- a crash with two claims in one tree

-- reel 7 holds frames 0 to 63, all in its root; heads 0 and 1 claim frames 64 and 65, in children 0 and 1, and head 0 fills its
-- place
unfoldable pub two_in_tree : State
two_in_tree = run (claim 1 50 0 7 64 ∷ claim 1 50 1 7 65 ∷ fill 50 0 ∷ []) (with_frames 3 64)

pub record TwoInTree : Type 0 where
  pub history : (t : Table) × Follows plain two_in_tree t
  -- two heads name slot 0, at nodes of their own
  pub head_0 : head_at two_in_tree.heads 0 ≡ Filled (record { slot = 0; node = 1; place = 0; frame = 64 })
  pub head_1 : head_at two_in_tree.heads 1 ≡ Claimed (record { slot = 0; node = 2; place = 0; frame = 65 })
  -- a third finds head 0 at its node
  pub third : (perform (claim 1 50 2 7 66) two_in_tree).answer ≡ 13
  -- the commit of head 0 may be cut before and after
  pub answered : (perform (commit 50 0) two_in_tree).answer ≡ 0
  pub cut : (t : Table) → Follows plain two_in_tree t → CommitCut two_in_tree t 50 0
  pub told_apart : (t : Table) → Follows plain two_in_tree t → (s' : State)
      → Agrees s' (all_idle t) → Agrees s' (all_idle (replied (commit 50 0) two_in_tree t).work.after) → ⊥

-- ---- a claim cut short

-- reel 7 holds frames 0 to 63, all in its root; power is lost in the claim of frame 64 after 13 entries, with all of them kept, and a
-- recovery follows: the root has its children, and the claim is gone
unfoldable pub cut_claim : State
cut_claim =
    let s = with_frames 3 64 in
    let entries = take 13 (segmented (perform (claim 1 50 0 7 64) s).work.script) in
    done (recover 1) (record { image = apply s.image entries; pool = 9 ∷ []; heads = replicate 20 9 })

-- reel 7 is small, with 64 frames; after the claim cut short its table has 64 still, and the path of frame 64 has two nodes. So the
-- promise of `one` (PathNodes) would be false if a claim cut short were not counted in
pub record CutClaim : Type 0 where
  pub history : (t : Table) × (h : Follows plain (with_frames 3 64) t) × Small 7 h
  pub cut : CutAt (claim 1 50 0 7 64) (with_frames 3 64) 13 cut_claim
  pub goes_on : (t : Table) × Follows plain cut_claim t × (length (in_use t 7) ≡ 64)
  pub two : (has_of 7 64 cut_claim).work.handed.path_nodes ≡ 2

-- ---- a crash in Recover

-- from an image that a crash, and recoveries after it that did not end, have left: a recovery that ends, and a history from there on
pub record GoesOn (on : Module) (m : List ℕ) : Type 0 where
  pub state : State
  pub table : Table
  pub recovered : Recovered on m state
  pub follows : Follows on state table

-- ---- a history that starts on an image of edition 1

-- the words of an image with one slot and one node: reel 7 holds frame 2^32 with fingerprint 144, which is edition 1's, and a claim
-- cut short has left the locate bit of place 1
abbrev pub held_words : (edition : ℕ) → List Store
held_words edition =
    (0, edition) ∷ (1, 1) ∷ (2, 1) ∷ (64, 7) ∷ (65, 1) ∷ (67, 3) ∷ (68, 1) ∷ (70, 16) ∷ (74, 144) ∷ (82, 2 ^ 32) ∷ []

-- with a map and heads that mean nothing
unfoldable pub held_book : (edition : ℕ) → State
held_book edition = record { image = apply (replicate 146 0) (stores (held_words edition)); pool = 9 ∷ []; heads = replicate 20 9 }

abbrev pub old_book : State
old_book = done (recover 1) (held_book 1)

abbrev pub one_frame : Table
one_frame = record { slots = 1; nodes = 1; own = false; reels = record { number = 7; frames = 2 ^ 32 ∷ [] } ∷ []; heads = replicate head_count idle }

pub record OldBook : Type 0 where
  -- a recovery is answered there, and a history starts with that frame; Has says yes
  pub recovers : (perform (recover 1) (held_book 1)).answer ≡ 0
  pub history : Follows plain old_book one_frame
  pub says_yes : (perform (query (has 7 (2 ^ 32))) old_book).work.handed.value ≡ 1
  -- Fill folds four bytes there: frame 0 gets 144, at place 1; in a book just formatted it gets 32
  pub fills : (perform (fill 50 0) (done (claim 1 50 0 7 0) old_book)).work.script ≡ ((83, 0) ∷ []) ∷ ((74, 144 + 144 * 256) ∷ []) ∷ []
  pub fills_new : (perform (fill 50 0) (run (open_reel 1 50 7 ∷ claim 1 50 0 7 0 ∷ []) (formatted 1 1))).work.script
      ≡ ((82, 0) ∷ []) ∷ ((74, 32) ∷ []) ∷ []
  -- a format in this history makes it one of edition 2
  pub goes_on : Follows plain (done (format 1 [] 1 1) old_book) (empty_table false 1 1)
  pub anew : memory (done (format 1 [] 1 1) old_book) edition_at ≡ 2
  -- the same words as edition 2: Has is answered, and says no; a recovery is refused
  pub asked : (perform (query (has 7 (2 ^ 32))) (held_book 2)).answer ≡ 0
  pub says_no : (perform (query (has 7 (2 ^ 32))) (held_book 2)).work.handed.value ≡ 0
  pub unsound : (perform (recover 1) (held_book 2)).answer ≡ 4

-- ---- a book converted

-- an image of edition 1 with two slots and two nodes: reel 7 has slot 1 and node 1, which holds frame 2^32 at place 2; place 0 is
-- claimed and filled. All else is stale: header words 3 and 63, the reel number of slot 0, node 0, of node 1 words 5 and 7 and
-- the frame of place 1
abbrev pub stale_words : List Store
stale_words =
    (0, 1) ∷ (1, 2) ∷ (2, 2) ∷ (3, 1) ∷ (63, 9) ∷ (64, 8) ∷ (66, 7) ∷ (67, 2) ∷ (68, 2) ∷ (70, 1) ∷ (147, 9)
    ∷ (149, 5) ∷ (150, 4) ∷ (152, 16) ∷ (153, 9) ∷ (155, 9) ∷ (156, 113 + 144 * 2 ^ 16) ∷ (164, 1) ∷ (165, 9) ∷ (166, 2 ^ 32) ∷ []

-- what it becomes, the edition and the fingerprint of 2^32 left open
abbrev pub clean_words : (edition print : ℕ) → List Store
clean_words edition print =
    (0, edition) ∷ (1, 2) ∷ (2, 2) ∷ (66, 7) ∷ (67, 2)
    ∷ (149, 4) ∷ (150, 4) ∷ (152, 16) ∷ (156, print * 2 ^ 16) ∷ (166, 2 ^ 32) ∷ []

-- with a map and heads that mean nothing
unfoldable pub book_of : List Store → State
book_of words = record { image = apply (replicate 228 0) (stores words); pool = 9 ∷ []; heads = replicate 20 9 }

-- what a conversion of it hands back
abbrev pub copy_of : List Store → Option (List ℕ)
copy_of words = (perform (query (convert 1 228)) (book_of words)).work.handed.copy

pub record ConvertedBook : Type 0 where
  -- there, and back
  pub there : copy_of stale_words ≡ some (book_of (clean_words 2 1)).image
  pub back : copy_of (clean_words 2 1) ≡ some (book_of (clean_words 1 144)).image
  -- a history starts on the copy of edition 2, with the reel and its frame
  pub recovers : (perform (recover 1) (book_of (clean_words 2 1))).answer ≡ 0
  pub history : Follows plain (done (recover 1) (book_of (clean_words 2 1))) (table_of (book_of (clean_words 2 1)).image)
  pub table : (table_of (book_of (clean_words 2 1)).image).reels ≡ record { number = 7; frames = 2 ^ 32 ∷ [] } ∷ []
  -- with the old edition's fingerprint the copy is not sound
  pub old_print : (perform (recover 1) (book_of (clean_words 2 144))).answer ≡ 4

-- ---- Tidy makes room

-- an image of edition 2 with two slots and four nodes: reel 8 has frames 0 to 63 in its root, node 0; reel 7 has no frame, and below
-- its root, node 1, an empty group, nodes 2 and 3
abbrev pub group_words : List Store
group_words =
    (0, 2) ∷ (1, 2) ∷ (2, 4) ∷ (64, 8) ∷ (65, 1) ∷ (66, 7) ∷ (67, 2)
    ∷ (69, 2 ^ 64 - 1) ∷ (70, 2 ^ 64 - 1) ∷ (72, 64)
    ∷ (76, 7468908976493748512) ∷ (77, 8047630359198361896) ∷ (78, 8626351741902975280) ∷ (79, 9205073124607588664)
    ∷ (80, 9783513032335425856) ∷ (81, 10362234415040039240) ∷ (82, 10940955797744652624) ∷ (83, 11519677180449266008)
    ∷ (148, 3) ∷ (152, 64) ∷ (231, 1) ∷ (232, 64) ∷ (311, 1) ∷ (312, 64) ∷ []

-- and the frames
abbrev pub room_words : List Store
room_words = group_words ++ map (λ p. (84 + p, p)) (up_to 64)

-- with a map and heads that mean nothing, and once it is recovered
unfoldable pub room_book : State
room_book = record { image = apply (replicate 388 0) (stores room_words); pool = 9 ∷ []; heads = replicate 20 9 }

abbrev pub full_book : State
full_book = done (recover 1) room_book

abbrev pub tidy_book : State
tidy_book = done (tidy 1 1 50 7) full_book

-- a claim of reel 8 lacks two nodes; Tidy of reel 7 gives them back, and the claim is answered. Reel 8 has no empty group, and
-- then reel 7 has none left
pub record TidyRoom : Type 0 where
  pub recovers : (perform (recover 1) room_book).answer ≡ 0
  pub history : Follows plain full_book (table_of room_book.image)
  pub refused : (perform (claim 1 50 0 8 64) full_book).answer ≡ 8
  pub none_there : (perform (tidy 1 1 50 8) full_book).answer ≡ 18
  pub tidied : (perform (tidy 1 1 50 7) full_book).answer ≡ 0
  pub script : (perform (tidy 1 1 50 7) full_book).work.script ≡ ((148, 0) ∷ []) ∷ []
  pub map_before : full_book.pool ≡ (2 ^ 0 + 2 ^ 1 + 2 ^ 2 + 2 ^ 3) ∷ []
  pub map_after : tidy_book.pool ≡ (2 ^ 0 + 2 ^ 1) ∷ []
  pub answered : (perform (claim 1 50 0 8 64) tidy_book).answer ≡ 0
  pub none_left : (perform (tidy 1 1 50 7) tidy_book).answer ≡ 18

-- ---- which group Tidy takes

-- an image with one slot and seven nodes, reel 7's: its root, nodes 1 and 2, and below each of these an empty group, nodes 3 and 4
-- and nodes 5 and 6; node 4 with a given locate word
abbrev pub nested_words : (locate : ℕ) → List Store
nested_words locate =
    (0, 2) ∷ (1, 1) ∷ (2, 7) ∷ (64, 7) ∷ (65, 1) ∷ (66, 2) ∷ (70, 64)
    ∷ (146, 4) ∷ (149, 1) ∷ (150, 64) ∷ (226, 6) ∷ (229, 1) ∷ (230, 64)
    ∷ (309, 2) ∷ (310, 64) ∷ (387, locate) ∷ (389, 2) ∷ (390, 64) ∷ (469, 2) ∷ (470, 64) ∷ (549, 2) ∷ (550, 64) ∷ []

unfoldable pub nested : (locate : ℕ) → State
nested locate = record { image = apply (replicate 626 0) (stores (nested_words locate)); pool = 127 ∷ []; heads = replicate 20 0 }

-- the book after a number of them, and what the next stores
abbrev pub tidied_times : ℕ → State → State
tidied_times zero s = s
tidied_times (suc k) s = tidied_times k (done (tidy 1 1 50 7) s)

abbrev pub tidy_stores : State → List (List Store)
tidy_stores s = (perform (tidy 1 1 50 7) s).work.script

pub record TidyOrder : Type 0 where
  -- a group for each Tidy: that below node 1, that below node 2, then the root's, which has become one; then none is left
  pub first : tidy_stores (nested 0) ≡ ((146, 0) ∷ []) ∷ []
  pub second : tidy_stores (tidied_times 1 (nested 0)) ≡ ((226, 0) ∷ []) ∷ []
  pub third : tidy_stores (tidied_times 2 (nested 0)) ≡ ((66, 0) ∷ []) ∷ []
  pub map : (tidied_times 3 (nested 0)).pool ≡ 1 ∷ []
  pub none_left : (perform (tidy 1 1 50 7) (tidied_times 3 (nested 0))).answer ≡ 18
  -- with a place of node 4 located, the group below node 1 is not empty, nor is the root's; a recovery clears the place
  pub located : tidy_stores (nested 1) ≡ ((226, 0) ∷ []) ∷ []
  pub located_left : (perform (tidy 1 1 50 7) (tidied_times 1 (nested 1))).answer ≡ 18
  pub recovered : tidy_stores (done (recover 1) (nested 1)) ≡ ((146, 0) ∷ []) ∷ []

-- ---- Format in mid-history

-- a format to another geometry of the same image length, 226 words
pub record OtherGeometry : Type 0 where
  -- a history has come to a book of 41 slots and 1 node
  pub history : Follows plain (formatted 41 1) (empty_table false 41 1)
  -- there a format to 1 slot and 2 nodes is answered
  pub answered : (perform (format 1 [] 1 2) (formatted 41 1)).answer ≡ 0
  -- and the history goes on with the table of that geometry
  pub table : (replied (format 1 [] 1 2) (formatted 41 1) (empty_table false 41 1)).work.after ≡ empty_table false 1 2

-- ---- a map of two words

-- an image with two slots and 66 nodes: reel 7 has slot 0 and node 65, whose bit is in the map's second word
abbrev pub high_words : List Store
high_words = (0, 2) ∷ (1, 2) ∷ (2, 66) ∷ (64, 7) ∷ (65, 66) ∷ (5272, 16) ∷ []

-- with a map and heads that mean nothing; and with a map that has nodes 0 to 63 and node 65 used, heads idle
unfoldable pub high_book : (pool heads : List ℕ) → State
high_book pool heads = record { image = apply (replicate 5348 0) (stores high_words); pool = pool; heads = heads }

abbrev pub crowded : State
crowded = high_book ((2 ^ 64 - 1) ∷ 2 ^ 1 ∷ []) (replicate 20 0)

-- bit n mod 64 of word n div 64, in the second word as in the first
pub record HighNode : Type 0 where
  pub recovers : (perform (recover 2) (high_book (9 ∷ 9 ∷ []) (replicate 20 9))).answer ≡ 0
  pub map : (done (recover 2) (high_book (9 ∷ 9 ∷ []) (replicate 20 9))).pool ≡ 0 ∷ 2 ^ 1 ∷ []
  -- the lowest free node is 64, and Retire of reel 7 gives node 65 back
  pub opens : (done (open_reel 2 50 8) crowded).pool ≡ (2 ^ 64 - 1) ∷ (2 ^ 0 + 2 ^ 1) ∷ []
  pub retires : (done (retire 2 2 50 7) crowded).pool ≡ (2 ^ 64 - 1) ∷ 0 ∷ []

-- ---- an operation's numbers

-- each below 2^64, and nothing else is asked of them
abbrev pub NumbersFit : Operation → Type 0
NumbersFit (format map table slots nodes) = (slots < 2 ^ 64) × (nodes < 2 ^ 64)
NumbersFit (recover map) = Unit {0}
NumbersFit (open_reel map script reel) = reel < 2 ^ 64
NumbersFit (claim map script h reel f) = (h < 2 ^ 64) × (reel < 2 ^ 64) × (f < 2 ^ 64)
NumbersFit (fill script h) = h < 2 ^ 64
NumbersFit (commit script h) = h < 2 ^ 64
NumbersFit (abandon script h) = h < 2 ^ 64
NumbersFit (remove script reel f) = (reel < 2 ^ 64) × (f < 2 ^ 64)
NumbersFit (retire map scratch script reel) = reel < 2 ^ 64
NumbersFit (tidy map scratch script reel) = reel < 2 ^ 64
NumbersFit (query (has reel f)) = (reel < 2 ^ 64) × (f < 2 ^ 64)
NumbersFit (query (list scratch room reel)) = reel < 2 ^ 64
NumbersFit (query (convert scratch copy)) = Unit {0}

-- ---- all of them but TwoInTree, CutClaim, TidyRoom, TidyOrder and HighNode, which are computed in the crate `starred`

pub record Witnesses : Type 0 where
  -- power may be lost in every operation but a format that is answered: whatever it stored itself kept or lost, word by word, then
  -- after any number of the entries carried out for its script, with whatever these can leave
  pub cuts : (on : Module) (op : Operation) (s : State) (k : ℕ) (itself m : List ℕ)
      → ((words slots nodes : ℕ) (table : List ℕ) → op ≡ format words table slots nodes → (perform op s).answer ≢ 0) → length itself ≡ length s.image
      → ((i : ℕ) → (reads itself i ≡ memory s i) ⊎ (reads itself i ≡ memory (perform op s).work.after i))
      → CrashOn on itself (entries_on on (segmented (perform op s).work.script)) k m → Interrupted on op s k m
  -- then recoveries, with any map and any heads: none, one that is refused, or one that is interrupted, and others after it
  pub none_tried : (on : Module) (m : List ℕ) → Attempts on m m
  pub refused_tried : (on : Module) (words : ℕ) (s : State) (m : List ℕ) → (perform (recover words) s).answer ≢ 0
      → Attempts on (done (recover words) s).image m → Attempts on s.image m
  pub cut_tried : (on : Module) (words : ℕ) (s : State) (k : ℕ) (m m' : List ℕ) → Interrupted on (recover words) s k m → Attempts on m m'
      → Attempts on s.image m'
  -- and one that is answered ends them
  pub ends_there : (on : Module) (m : List ℕ) (words : ℕ) (s : State) → Attempts on m s.image → (perform (recover words) s).answer ≡ 0
      → Recovered on m (done (recover words) s)
  -- what may come next in a history: any operation, with any words for its numbers, done, or interrupted and recovered from
  pub any_numbers : (op : Operation) → NumbersFit op → Fit (arguments op)
  pub done_next : (on : Module) (op : Operation) (s : State) → Fit (arguments op) → Next on s (done op s)
  pub crash_next : (on : Module) (op : Operation) (s s' : State) (k : ℕ) (m : List ℕ) → Fit (arguments op) → Interrupted on op s k m → Recovered on m s'
      → Next on s s'
  -- an answered commit may be cut before and after, in every history
  pub commit_cut : (s : State) (t : Table) → Follows plain s t → (script h : ℕ) → h < head_count → (perform (commit script h) s).answer ≡ 0
      → CommitCut s t script h
  -- there is a history with such a commit, with a claim of every head open
  pub four_claims : FourClaims
  -- a crash of Open may keep a later store, the reel number, and lose the five before it
  pub later_kept : (s : State) (words script reel : ℕ) → (perform (open_reel words script reel) s).answer ≡ 0
      → Interrupted plain (open_reel words script reel) s 6 (set s.image (reel_at (empty_slot (shape s) (memory s))) reel)
  -- a crash of Recover may leave any mixture of old and new words
  pub mixed : (s : State) (words : ℕ) (image : List ℕ) → length image ≡ length s.image
      → ((i : ℕ) → (reads image i ≡ memory s i) ⊎ (reads image i ≡ memory (perform (recover words) s).work.after i))
      → Interrupted plain (recover words) s 0 image
  -- a second crash may come, in the recovery from the first
  pub second_crash : (on : Module) (s s' : State) (m m' : List ℕ) (words k : ℕ) → s.image ≡ m → Interrupted on (recover words) s k m' → Recovered on m' s' → Recovered on m s'
  -- after any crash and any attempts some recovery ends, and the history goes on
  pub goes_on : (on : Module) (s : State) (t : Table) → Follows on s t → (op : Operation) → Fit (arguments op) → (k : ℕ) (m m' : List ℕ) → Interrupted on op s k m
      → Attempts on m m' → GoesOn on m'
  -- a history may start on an image of edition 1
  pub old_book_lem : OldBook
  -- an image full of stale words may be converted, and a history may start on the copy
  pub converted_book : ConvertedBook
  -- a format to another geometry may come in mid-history
  pub other_geometry : OtherGeometry
