-- What is proved of this layer's definitions: the statements alone. proofs/Laws.antt has a proof of each record.
use Rattle.std.specs.Prelude.{◌≡◌, Bool, true, false, ◌⊎◌, ◌↔◌, ◌≢◌, ℕ, zero, suc, ◌+◌, ◌-◌, ◌*◌, ◌%◌, ◌^◌, ◌≤◌, ◌<◌, length, set, take, drop}
use Rattle.std.proofs.Math.Option.{some}
use mathlib.Core.List.{List, [], ◌∷◌, ◌++◌, map, Memᴰ}
use Rattle.std.proofs.Math.ListN.{get_elem?}
use Rattle.memory.specs.Words.{reads, is_set, with_bit, without_bit, byte, with_byte}
use Rattle.memory.specs.Search.{first}
use Rattle.memory.specs.Script.{Entry, store, barrier, flush, barrier_word, flush_word, encode, written, decode, Store, stores, segmented, store_count, stores_in}
use Rattle.memory.specs.Crash.{apply, CrashImage, passed}
use Rattle.memory.specs.Apply.{outcome, carry_out}

-- ---- bits and bytes

-- a bit is what it was changed to, every other bit is as it was, and a word below 2^n stays below it
pub record BitLaws : Type 0 where
  pub with_sets : (w k : ℕ) → is_set (with_bit w k) k ≡ true
  pub without_clears : (w k : ℕ) → is_set (without_bit w k) k ≡ false
  pub with_keeps : (w k j : ℕ) → j ≢ k → is_set (with_bit w k) j ≡ is_set w j
  pub without_keeps : (w k j : ℕ) → j ≢ k → is_set (without_bit w k) j ≡ is_set w j
  pub with_fits : (w k n : ℕ) → k < n → w < 2 ^ n → with_bit w k < 2 ^ n
  pub without_fits : (w k n : ℕ) → w < 2 ^ n → without_bit w k < 2 ^ n
  pub none_above : (w n k : ℕ) → w < 2 ^ n → n ≤ k → is_set w k ≡ false
  pub same_word : (w v n : ℕ) → w < 2 ^ n → v < 2 ^ n → ((k : ℕ) → k < n → is_set w k ≡ is_set v k) → w ≡ v

-- the same of bytes
pub record ByteLaws : Type 0 where
  pub byte_fits : (w j : ℕ) → byte w j < 256
  pub with_puts : (w j b : ℕ) → b < 256 → byte (with_byte w j b) j ≡ b
  pub with_keeps : (w j b i : ℕ) → b < 256 → i ≢ j → byte (with_byte w j b) i ≡ byte w i
  pub with_fits : (w j b n : ℕ) → b < 256 → 8 * j + 8 ≤ n → w < 2 ^ n → with_byte w j b < 2 ^ n

-- ---- the search

-- p holds at no index below i: what every search loop knows
abbrev pub NoneBelow : (ℕ → Bool) → ℕ → Type 0
NoneBelow p i = (k : ℕ) → k < i → p k ≡ false

pub record SearchLaws (p : ℕ → Bool) (n : ℕ) : Type 0 where
  pub within : first p n ≤ n
  pub holds : first p n < n → p (first p n) ≡ true
  pub none_before : NoneBelow p (first p n)
  pub least : (i : ℕ) → i < n → p i ≡ true → first p n ≤ i
  pub equal_tests : (q : ℕ → Bool) → ((i : ℕ) → i < n → p i ≡ q i) → first p n ≡ first q n
  -- the loop lemma: a search that found nothing below i, and stops there, has the answer
  pub stops : (i : ℕ) → i ≤ n → NoneBelow p i → (i < n → p i ≡ true) → i ≡ first p n

-- ---- scripts

-- every store is inside an image of n words
abbrev pub Inside : ℕ → List Entry → Type 0
Inside n es = (i v : ℕ) → Memᴰ (store i v) es → (i < n) × (i ≢ barrier_word) × (i ≢ flush_word)

-- no entry stores to word i
abbrev pub Avoids : ℕ → List Entry → Type 0
Avoids i es = (v : ℕ) → Memᴰ (store i v) es → ⊥

-- every word, and every value stored, is below 2^64
abbrev pub Fit : List ℕ → Type 0
Fit m = (i : ℕ) → reads m i < 2 ^ 64

abbrev pub FitStores : List Entry → Type 0
FitStores es = (i v : ℕ) → Memᴰ (store i v) es → v < 2 ^ 64

pub record ScriptLaws : Type 0 where
  -- an entry is two words: index and value for a store, 2^64 − 1 and 0 for a barrier, 2^64 − 2 and the line for a flush
  pub none_words : encode [] ≡ []
  pub store_words_lem : (i v : ℕ) (es : List Entry) → encode (store i v ∷ es) ≡ i ∷ v ∷ encode es
  pub barrier_words : (es : List Entry) → encode (barrier ∷ es) ≡ (2 ^ 64 - 1) ∷ 0 ∷ encode es
  pub flush_words : (line : ℕ) (es : List Entry) → encode (flush line ∷ es) ≡ (2 ^ 64 - 2) ∷ line ∷ encode es
  pub length_encode : (es : List Entry) → length (encode es) ≡ 2 * length es
  -- what is encoded is read back, and what is read back was encoded
  pub read_back : (n : ℕ) (es : List Entry) → Inside n es → decode n (encode es) ≡ some es
  pub was_encoded : (n : ℕ) (ws : List ℕ) (es : List Entry) → decode n ws ≡ some es → (encode es ≡ ws) × Inside n es
  pub no_words : (n : ℕ) → decode n [] ≡ some []
  pub carried_out : (m : List ℕ) (es : List Entry) → Inside (length m) es → carry_out m (encode es) ≡ outcome 0 (apply m es)
  pub none_carried_out : (m : List ℕ) → carry_out m [] ≡ outcome 0 m
  -- words that no entries inside the image are written as are refused, and the image stays
  pub refused : (m ws : List ℕ) → ((es : List Entry) → Inside (length m) es → encode es ≡ ws → ⊥) → carry_out m ws ≡ outcome 3 m
  -- a flush is skipped, whatever line it names and wherever it stands
  pub flush_skipped : (m ws vs : List ℕ) (line : ℕ) → length ws % 2 ≡ 0 → carry_out m (ws ++ flush_word ∷ line ∷ vs) ≡ carry_out m (ws ++ vs)
  -- entries, then others written to the rest of the buffer, are all of them written
  pub written_append : (es fs : List Entry) (buffer : List ℕ)
      → take (2 * length es) (written es buffer) ++ written fs (drop (2 * length es) (written es buffer)) ≡ written (es ++ fs) buffer
  pub length_written : (es : List Entry) (buffer : List ℕ) → 2 * length es ≤ length buffer → length (written es buffer) ≡ length buffer
  -- a buffer that keeps its length has room for them, and its first words are theirs
  pub room_written : (es : List Entry) (buffer : List ℕ) → length (written es buffer) ≡ length buffer → 2 * length es ≤ length buffer
  pub take_written : (es : List Entry) (buffer : List ℕ) → take (2 * length es) (written es buffer) ≡ encode es
  -- its other words stay
  pub drop_written : (es : List Entry) (buffer : List ℕ) → drop (2 * length es) (written es buffer) ≡ drop (2 * length es) buffer
  -- the stores counted in words are those of the entries
  pub stores_counted : (n : ℕ) (es : List Entry) → Inside n es → stores_in (encode es) ≡ store_count es

pub record ApplyLaws : Type 0 where
  pub length_apply : (m : List ℕ) (es : List Entry) → length (apply m es) ≡ length m
  pub in_turn : (m : List ℕ) (es fs : List Entry) → apply m (es ++ fs) ≡ apply (apply m es) fs
  -- a word holds the last store to it; one that is not stored to stays
  pub last_store : (m : List ℕ) (es fs : List Entry) (i v : ℕ) → i < length m → Avoids i fs → reads (apply m (es ++ store i v ∷ fs)) i ≡ v
  pub avoided : (m : List ℕ) (es : List Entry) (i : ℕ) → Avoids i es → reads (apply m es) i ≡ reads m i
  pub fits : (m : List ℕ) (es : List Entry) → Fit m → FitStores es → Fit (apply m es)

-- ---- scripts in segments

-- how many entries segments have
abbrev pub entries : List (List Store) → ℕ
entries [] = 0
entries (seg ∷ segs) = length seg + suc (entries segs)

-- segments of one store each
abbrev pub single : List Store → List (List Store)
single ss = map (λ s. s ∷ []) ss

-- stores made one after the other, and their words
abbrev pub set_all : List ℕ → List Store → List ℕ
set_all m [] = m
set_all m (s ∷ ss) = set_all (set m s.0 s.1) ss

abbrev pub store_words : List Store → List ℕ
store_words [] = []
store_words (s ∷ ss) = s.0 ∷ s.1 ∷ store_words ss

pub record SegmentLaws : Type 0 where
  -- stores as entries
  pub length_stores : (seg : List Store) → length (stores seg) ≡ length seg
  pub stores_append : (seg seg' : List Store) → stores (seg ++ seg') ≡ stores seg ++ stores seg'
  pub stored : (seg : List Store) (i v : ℕ) → Memᴰ (store i v) (stores seg) → Memᴰ (i, v) seg
  pub stores_written : (seg : List Store) (buffer : List ℕ) → written (stores seg) buffer ≡ store_words seg ++ drop (2 * length seg) buffer
  pub apply_stores : (m : List ℕ) (seg : List Store) → apply m (stores seg) ≡ set_all m seg
  -- segments as entries: none, the first and the others, and what the writers of one and of two fenced stores write
  pub no_segment : segmented [] ≡ []
  pub first_segment : (seg : List Store) (segs : List (List Store)) → segmented (seg ∷ segs) ≡ stores seg ++ barrier ∷ segmented segs
  pub fenced_one : (s : Store) → segmented ((s ∷ []) ∷ []) ≡ store s.0 s.1 ∷ barrier ∷ []
  pub fenced_pair : (s t : Store)
      → segmented ((s ∷ []) ∷ (t ∷ []) ∷ []) ≡ store s.0 s.1 ∷ barrier ∷ store t.0 t.1 ∷ barrier ∷ []
  pub segmented_append : (segs segs' : List (List Store)) → segmented segs ++ segmented segs' ≡ segmented (segs ++ segs')
  pub length_segmented : (segs : List (List Store)) → length (segmented segs) ≡ entries segs
  -- a store of a script in segments is one of a segment; the script ends in a barrier, if there is anything in it
  pub stored_in : (segs : List (List Store)) (i v : ℕ) → Memᴰ (store i v) (segmented segs)
      → (seg : List Store) × Memᴰ seg segs × Memᴰ (i, v) seg
  pub ends_in_barrier : (segs : List (List Store)) → (segmented segs ≡ []) ⊎ ((es : List Entry) × (segmented segs ≡ es ++ barrier ∷ []))
  -- no segments are no words, and leave a buffer as it was
  pub none_encoded : encode (segmented []) ≡ []
  pub none_written : (buffer : List ℕ) → written (segmented []) buffer ≡ buffer
  -- carried out: none, one segment after the other, and segments of one store each
  pub apply_none : (m : List ℕ) → apply m (segmented []) ≡ m
  pub apply_first : (m : List ℕ) (seg : List Store) (segs : List (List Store))
      → apply m (segmented (seg ∷ segs)) ≡ apply (apply m (stores seg)) (segmented segs)
  pub apply_single : (m : List ℕ) (ss : List Store) → apply m (segmented (single ss)) ≡ set_all m ss

-- ---- crashes

-- b is the number of entries up to the last barrier among the first k: 0, or entry b − 1 is that barrier
pub record LastBarrier (es : List Entry) (k b : ℕ) : Type 0 where
  pub passed_at : (b ≡ 0) ⊎ ((c : ℕ) × (b ≡ suc c) × (get_elem? es c ≡ some barrier))
  pub within : b ≤ k
  pub none_since : (j : ℕ) → b ≤ j → j < k → get_elem? es j ≢ some barrier

-- entry j, since the last barrier and among the first k, stores v to word i
pub record StoredSince (es : List Entry) (b k i j v : ℕ) : Type 0 where
  pub since : b ≤ j
  pub before : j < k
  pub entry : get_elem? es j ≡ some (store i v)

-- what may be chosen for word i: its content at the last barrier, or the value of a store to it since
pub data Choice (m : List ℕ) (es : List Entry) (b k i : ℕ) : ℕ → Type 0 where
  old : Choice m es b k i (reads (apply m (take b es)) i)
  new : {v : ℕ} (j : ℕ) → StoredSince es b k i j v → Choice m es b k i v

-- the image of n words with the word f i at each index i
abbrev pub image : ℕ → (ℕ → ℕ) → List ℕ
image zero f = []
image (suc n) f = f 0 ∷ image n (λ i. f (suc i))

-- power was lost among a segment's stores: each word by itself is old or one of them. The image is torn between words; no word
-- itself ever is
pub record Torn (m : List ℕ) (seg : List Store) (m' : List ℕ) : Type 0 where
  pub same_length : length m' ≡ length m
  pub each : (i : ℕ) → (reads m' i ≡ reads m i) ⊎ Memᴰ (i, reads m' i) seg

-- where a crash of a script in segments falls: in one of them, those before it carried out, or after them all
pub data FallsIn (m' : List ℕ) : List ℕ → List (List Store) → Type 0 where
  after_all : {m : List ℕ} → m' ≡ m → FallsIn m' m []
  here : {m : List ℕ} {seg : List Store} {segs : List (List Store)} → Torn m seg m' → FallsIn m' m (seg ∷ segs)
  later : {m : List ℕ} {seg : List Store} {segs : List (List Store)} → FallsIn m' (apply m (stores seg)) segs → FallsIn m' m (seg ∷ segs)

pub record CrashLaws : Type 0 where
  -- a crash falls after none to all of the entries, and leaves an image of the same length
  pub within : (m : List ℕ) (es : List Entry) (k : ℕ) (m' : List ℕ) → CrashImage m es k m' → k ≤ length es
  pub same_length : (m : List ℕ) (es : List Entry) (k : ℕ) (m' : List ℕ) → CrashImage m es k m' → length m' ≡ length m
  -- there is a last barrier (or none yet) to speak of
  pub last_barrier : (es : List Entry) (k : ℕ) → (b : ℕ) × LastBarrier es k b
  -- possibility: whatever is chosen, word by word, is an image that a crash after k entries can leave
  pub possible : (m : List ℕ) (es : List Entry) (k b : ℕ) → k ≤ length es → LastBarrier es k b
      → (f : ℕ → ℕ) → ((i : ℕ) → i < length m → Choice m es b k i (f i)) → CrashImage m es k (image (length m) f)
  -- and no other image
  pub only_chosen : (m : List ℕ) (es : List Entry) (k b : ℕ) (m' : List ℕ) → LastBarrier es k b → CrashImage m es k m'
      → (i : ℕ) → Choice m es b k i (reads m' i)
  -- among them the image as carried out
  pub as_carried_out : (m : List ℕ) (es : List Entry) (k : ℕ) → k ≤ length es → CrashImage m es k (apply m (take k es))
  -- with no entry carried out the image is as it was; with no barrier left to pass it is as carried out
  pub none_yet : (m : List ℕ) (es : List Entry) (m' : List ℕ) → CrashImage m es 0 m' ↔ (m' ≡ m)
  pub all_done : (m : List ℕ) (es : List Entry) (m' : List ℕ)
      → CrashImage m (es ++ barrier ∷ []) (length (es ++ barrier ∷ [])) m' ↔ (m' ≡ apply m (es ++ barrier ∷ []))
  pub all_passed : (m : List ℕ) (segs : List (List Store)) (k : ℕ) (m' : List ℕ)
      → passed (segmented segs) k → CrashImage m (segmented segs) k m' → m' ≡ apply m (segmented segs)
  -- what "no barrier left to pass" means, by the entries' numbers; after all entries there is none
  pub passed_means : (es : List Entry) (k : ℕ) → passed es k ↔ ((j : ℕ) → k ≤ j → get_elem? es j ≢ some barrier)
  pub passed_at_end : (es : List Entry) → passed es (length es)
  pub passed_or : (es : List Entry) (k : ℕ) → passed es k ⊎ (passed es k → ⊥)
  -- words not stored to since the last barrier passed are as they were then
  pub outside : (m : List ℕ) (es : List Entry) (k b : ℕ) (m' : List ℕ) (i : ℕ) → LastBarrier es k b → CrashImage m es k m'
      → Avoids i (drop b (take k es)) → reads m' i ≡ reads (apply m (take b es)) i
  -- the crash lemma
  pub falls_in : (m : List ℕ) (segs : List (List Store)) (k : ℕ) (m' : List ℕ) → CrashImage m (segmented segs) k m' → FallsIn m' m segs
  pub crash_none : (m : List ℕ) (k : ℕ) (m' : List ℕ) → CrashImage m (segmented []) k m' → m' ≡ m
  -- carried out whole is one way to be torn
  pub torn_whole : (m : List ℕ) (seg : List Store) → Torn m seg (apply m (stores seg))
  -- in the first segment every mixture of its stores kept and lost is possible, and a barrier is left to pass
  pub torn_possible : (m : List ℕ) (seg : List Store) (segs : List (List Store)) (m' : List ℕ) → Torn m seg m'
      → CrashImage m (segmented (seg ∷ segs)) (length seg) m'
  pub left_to_pass : (k : ℕ) (seg : List Store) (segs : List (List Store)) → k ≤ length seg → passed (segmented (seg ∷ segs)) k → ⊥
  pub fits : (m : List ℕ) (es : List Entry) (k : ℕ) (m' : List ℕ) → Fit m → FitStores es → CrashImage m es k m' → Fit m'
  -- entries that are not reached change no possibility
  pub unreached : (m : List ℕ) (es fs : List Entry) (k : ℕ) (m' : List ℕ) → k ≤ length es
      → CrashImage m (es ++ fs) k m' ↔ CrashImage m es k m'
  -- a store of the value that a word has already changes no possibility
  pub same_value : (m : List ℕ) (es fs : List Entry) (i j : ℕ) (m' : List ℕ)
      → CrashImage m (es ++ store i (reads (apply m es) i) ∷ fs) (length es + suc j) m' ↔ CrashImage m (es ++ fs) (length es + j) m'
