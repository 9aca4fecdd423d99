-- What is proved of the module with line flushes, of the translator and of both modules: the statements alone.
use Rattle.std.specs.Prelude.{◌≡◌, ◌⊎◌, ◌↔◌, ◌≢◌, ℕ, suc, ◌+◌, ◌-◌, ◌*◌, ◌^◌, ◌≤◌, ◌<◌, length, take, set, replicate}
use Rattle.std.proofs.Math.Option.{some}
use mathlib.Core.List.{List, [], ◌∷◌, ◌++◌, Memᴰ}
use Rattle.std.proofs.Math.ListN.{get_elem?}
use Rattle.memory.specs.Words.{reads}
use Rattle.memory.specs.Script.{Entry, store, barrier, flush, encode, written, Store, stores, segmented}
use Rattle.memory.specs.Crash.{apply, CrashImage, passed}
use Rattle.memory.specs.Laws.{Inside, Choice, image, Torn}
use Rattle.flushes.specs.Crash.{line_of, FlushCrash}
use Rattle.flushes.specs.Module.{Module, flushing, entries_on, CrashOn, ours_on, flushed_after, Lasting}
use Rattle.flushes.specs.Translate.{flushes, translated, unflushing, as_far, translate, translation}

-- ---- the module, by the numbers of the entries

-- entry j, which stores to the line, is flushed and fenced among the first k: a flush of its line, then a barrier, come after it
pub record Lasts (es : List Entry) (k line j : ℕ) : Type 0 where
  pub flush_at : ℕ
  pub barrier_at : ℕ
  pub after : j < flush_at
  pub flushes : get_elem? es flush_at ≡ some (flush line)
  pub followed : flush_at < barrier_at
  pub fences : get_elem? es barrier_at ≡ some barrier
  pub before : barrier_at < k

-- b is the number of entries up to the last flush of the line that a barrier has followed, among the first k: 0, or entry
-- b − 1 is that flush
pub record LastFlush (es : List Entry) (k line b : ℕ) : Type 0 where
  pub flushed_at : (b ≡ 0) ⊎ ((c d : ℕ) × (b ≡ suc c) × (get_elem? es c ≡ some (flush line)) × (c < d) × (d < k) × (get_elem? es d ≡ some barrier))
  pub within : b ≤ k
  pub none_since : (c d : ℕ) → b ≤ c → get_elem? es c ≡ some (flush line) → c < d → d < k → get_elem? es d ≢ some barrier

-- a script without a flush
abbrev pub NoFlush : List Entry → Type 0
NoFlush es = (l : ℕ) → Memᴰ (flush l) es → ⊥

pub record FlushCrashLaws : Type 0 where
  -- line l has the words 8 * l to 8 * l + 7
  pub eight_words : (i l : ℕ) → (line_of i ≡ l) ↔ ((8 * l ≤ i) × (i < 8 * l + 8))
  pub last_flush : (es : List Entry) (k line : ℕ) → (b : ℕ) × LastFlush es k line b
  -- a store to the line is before that number exactly if it is flushed and fenced
  pub lasts : (es : List Entry) (k b i v j : ℕ) → LastFlush es k (line_of i) b → j < k → get_elem? es j ≡ some (store i v)
      → (j < b) ↔ Lasts es k (line_of i) j
  -- possibility: whatever is chosen, word by word, among the content then and the stores since, is an image that a crash after k entries can leave
  pub possible : (m : List ℕ) (es : List Entry) (k : ℕ) (b : ℕ → ℕ) → k ≤ length es → ((line : ℕ) → LastFlush es k line (b line))
      → (f : ℕ → ℕ) → ((i : ℕ) → i < length m → Choice m es (b (line_of i)) k i (f i)) → FlushCrash m es k (image (length m) f)
  -- and no other image
  pub only_chosen : (m : List ℕ) (es : List Entry) (k b : ℕ) (m' : List ℕ) (i : ℕ) → LastFlush es k (line_of i) b → FlushCrash m es k m'
      → Choice m es b k i (reads m' i)
  -- so a script of ours, carried out as it is, may be lost whole, barriers or not
  pub untranslated : (m : List ℕ) (es : List Entry) (k : ℕ) → NoFlush es → k ≤ length es → FlushCrash m es k m

-- ---- the translator

-- empty, or a barrier at its end
abbrev pub EndsFenced : List Entry → Type 0
EndsFenced es = (es ≡ []) ⊎ ((ds : List Entry) × (es ≡ ds ++ barrier ∷ []))

pub record TranslatorLaws : Type 0 where
  -- the refinement: a crash of the translation is a crash of our script on the present module, cut as far into it, and the other way round
  pub refines : (m : List ℕ) (es : List Entry) (k : ℕ) (m' : List ℕ) → NoFlush es → FlushCrash m (translated es) k m' → CrashImage m es (as_far es k) m'
  pub as_possible : (m : List ℕ) (es : List Entry) (k : ℕ) (m' : List ℕ) → NoFlush es → k ≤ length (translated es)
      → CrashImage m es (as_far es k) m' → FlushCrash m (translated es) k m'
  -- how far that is: but for its flushes, the translation is our script; no barrier is left to pass in the one where none is in the other
  pub same_entries : (es : List Entry) → NoFlush es → unflushing (translated es) ≡ es
  pub so_far : (es : List Entry) (k : ℕ) → NoFlush es → unflushing (take k (translated es)) ≡ take (as_far es k) es
  pub passed_alike : (es : List Entry) (k : ℕ) → NoFlush es → passed (translated es) k ↔ passed es (as_far es k)
  -- all of it carried out, every store lasts
  pub all_lasting : (m : List ℕ) (es : List Entry) (m' : List ℕ) → NoFlush es → EndsFenced es
      → FlushCrash m (translated es) (length (translated es)) m' ↔ (m' ≡ apply m es)
  -- so the next script starts from there: in a crash of that, nothing of this one is pending
  pub next_script : (m : List ℕ) (es fs : List Entry) (k : ℕ) (m' : List ℕ) → NoFlush es → EndsFenced es
      → FlushCrash m (translated es ++ fs) (length (translated es) + k) m' ↔ FlushCrash (apply m es) fs k m'
  -- Carry out does the same with both
  pub applied_alike : (m : List ℕ) (es : List Entry) → apply m (translated es) ≡ apply m es
  pub inside_alike : (n : ℕ) (es : List Entry) → Inside n es → Inside n (translated es)
  -- a script in segments is a script of ours
  pub in_segments : (segs : List (List Store)) → NoFlush (segmented segs) × EndsFenced (segmented segs)
  -- word for word: nothing of nothing, and up to the first barrier the stores, their flushes, that barrier
  pub nothing : translated [] ≡ []
  pub first_barrier : (ds es : List Entry) → NoFlush ds → (Memᴰ barrier ds → ⊥)
      → translated (ds ++ barrier ∷ es) ≡ ds ++ (flushes ds ++ barrier ∷ translated es)
  -- the flushes of a segment: none of an empty one, and a store adds its line's behind the others unless its line was stored to before
  pub none_stored : flushes [] ≡ []
  pub line_first : (es : List Entry) (i v : ℕ) → ((j u : ℕ) → Memᴰ (store j u) es → line_of j ≢ line_of i)
      → flushes (es ++ store i v ∷ []) ≡ flushes es ++ flush (line_of i) ∷ []
  pub line_again : (es : List Entry) (i v j u : ℕ) → Memᴰ (store j u) es → line_of j ≡ line_of i → flushes (es ++ store i v ∷ []) ≡ flushes es
  -- in numbers: three stores to two lines and a barrier; behind them the buffer's words stay
  pub in_numbers : translate 16 (9 ∷ 5 ∷ 0 ∷ 6 ∷ 10 ∷ 7 ∷ (2 ^ 64 - 1) ∷ 0 ∷ []) (replicate 98 3)
      ≡ translation 0 12 (9 ∷ 5 ∷ 0 ∷ 6 ∷ 10 ∷ 7 ∷ (2 ^ 64 - 2) ∷ 1 ∷ (2 ^ 64 - 2) ∷ 0 ∷ (2 ^ 64 - 1) ∷ 0 ∷ replicate 86 3)
  -- 98 words are enough
  pub short : (es : List Entry) → EndsFenced es → length es ≤ 25 → 2 * length (translated es) ≤ 98
  -- a script of ours is translated, whatever the rest of the buffer; any other is refused and the buffer stays
  pub accepts : (n : ℕ) (es : List Entry) (buffer : List ℕ) → 98 ≤ length buffer → length es ≤ 25 → Inside n es → NoFlush es → EndsFenced es
      → translate n (encode es) buffer ≡ translation 0 (2 * length (translated es)) (written (translated es) buffer)
  pub refuses : (n : ℕ) (ws buffer : List ℕ)
      → ((es : List Entry) → 98 ≤ length buffer → length es ≤ 25 → Inside n es → NoFlush es → EndsFenced es → encode es ≡ ws → ⊥)
      → translate n ws buffer ≡ translation 3 0 buffer

-- ---- an operation that writes an image itself: its stores, then a flush of each line, then a barrier

-- every line of the image is among the lines
abbrev pub EachLine : List ℕ → List ℕ → Type 0
EachLine m lines = (l : ℕ) → 8 * l < length m → Memᴰ l lines

pub record OwnWritesLaws : Type 0 where
  -- each line of an image: the line of each of its words, and no other is asked for
  pub each_line : (m lines : List ℕ) → EachLine m lines ↔ ((i : ℕ) → i < length m → Memᴰ (line_of i) lines)
  -- a crash in it leaves each word old or as one of the stores
  pub torn : (m : List ℕ) (own : List Store) (lines : List ℕ) (k : ℕ) (m' : List ℕ) → FlushCrash m (flushed_after own lines) k m' → Torn m own m'
  -- when the barrier has passed, all stores last
  pub lasting : (m : List ℕ) (own : List Store) (lines : List ℕ) (m' : List ℕ) → EachLine m lines
      → FlushCrash m (flushed_after own lines) (length (flushed_after own lines)) m' → m' ≡ apply m (stores own)
  -- and the next script starts from there
  pub next_script : (m : List ℕ) (own : List Store) (lines : List ℕ) (fs : List Entry) (k : ℕ) (m' : List ℕ) → EachLine m lines
      → FlushCrash m (flushed_after own lines ++ fs) (length (flushed_after own lines) + k) m' ↔ FlushCrash (apply m (stores own)) fs k m'
  -- no line may be left out: a word of such a line may be as it was before all of them, barrier or not
  pub left_out : (m : List ℕ) (own : List Store) (lines : List ℕ) (i : ℕ) → (Memᴰ (line_of i) lines → ⊥)
      → FlushCrash m (flushed_after own lines) (length (flushed_after own lines)) (set (apply m (stores own)) i (reads m i))

-- ---- either module, for scripts in segments

pub record ModuleLaws : Type 0 where
  -- whatever a crash leaves there, one can leave on the present module, cut as far into our script; no barrier is left to pass in the
  -- one where none is in the other
  pub refines : (on : Module) (m : List ℕ) (segs : List (List Store)) (k : ℕ) (m' : List ℕ) → CrashOn on m (entries_on on (segmented segs)) k m'
      → CrashImage m (segmented segs) (ours_on on (segmented segs) k) m'
  pub passed_alike : (on : Module) (segs : List (List Store)) (k : ℕ)
      → passed (entries_on on (segmented segs)) k ↔ passed (segmented segs) (ours_on on (segmented segs) k)
  -- and the other way round: wherever our script is cut, a cut there is as far into it, and can leave the same
  pub as_far_lem : (on : Module) (segs : List (List Store)) (k : ℕ) → k ≤ length (segmented segs)
      → (k' : ℕ) × (k' ≤ length (entries_on on (segmented segs))) × (ours_on on (segmented segs) k' ≡ k)
  pub as_possible : (on : Module) (m : List ℕ) (segs : List (List Store)) (k : ℕ) (m' : List ℕ) → k ≤ length (entries_on on (segmented segs))
      → CrashImage m (segmented segs) (ours_on on (segmented segs) k) m' → CrashOn on m (entries_on on (segmented segs)) k m'
  -- who flushes each line of an image that an operation has written itself makes it last, on either module
  pub each_line_lasts : (on : Module) (before after lines : List ℕ) → EachLine before lines → Lasting on before after lines
  -- and who leaves out a line of it does not, on that one
  pub left_out : (before after lines : List ℕ) (own : List Store) (i : ℕ) → apply before (stores own) ≡ after → i < length before
      → (Memᴰ (line_of i) lines → ⊥) → Lasting flushing before after lines → ⊥
  -- and there translation is needed: a script of ours, carried out as it is, may be lost whole, barriers or not
  pub lost_whole : (m : List ℕ) (segs : List (List Store)) (k : ℕ) → k ≤ length (segmented segs) → CrashOn flushing m (segmented segs) k m
