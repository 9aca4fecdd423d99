-- The translator's passes in code, over words, and what it answers.
use Rattle.std.specs.Prelude.{◌≡◌, Bool, true, false, cond, ◌||◌, List, [], ◌∷◌, ◌++◌, map, ℕ, ◌≤◌, length, eqb, Result, Ok, Err}
use Rattle.memory.specs.Script.{Entry, store, barrier, flush, barrier_word, flush_word}
use Rattle.flushes.specs.Crash.{line_of}
use Rattle.flushes.specs.Translate.{firsts, any_flush, ends_fenced}
use Rattle.memory.specs.declared.apply.Refused.{Refused}

-- two words as an entry, and a script of words as entries, whatever the image
unfoldable pub entry_in : ℕ → ℕ → Entry
entry_in i v = cond (eqb i barrier_word) barrier (cond (eqb i flush_word) (flush v) (store i v))

unfoldable pub entries_in : List ℕ → List Entry
entries_in [] = []
entries_in (i ∷ []) = []
entries_in (i ∷ v ∷ ws) = entry_in i v ∷ entries_in ws

-- the line of each entry's first word
unfoldable pub line_words : List ℕ → List ℕ
line_words [] = []
line_words (i ∷ []) = []
line_words (i ∷ v ∷ ws) = line_of i ∷ line_words ws

unfoldable pub elem : ℕ → List ℕ → Bool
elem l [] = false
elem l (k ∷ ks) = eqb k l || elem l ks

-- a flush of a line that no entry of a segment stores to
unfoldable pub new_flush : List ℕ → ℕ → List Entry
new_flush segment line = cond (elem line (line_words segment)) [] (flush line ∷ [])

unfoldable pub line_flushes : List ℕ → List Entry
line_flushes segment = map flush (firsts (line_words segment))

-- what an entry becomes; the segment has the words since the barrier before
unfoldable pub piece_of : List ℕ → ℕ → ℕ → List Entry
piece_of segment i v = cond (eqb i barrier_word) (line_flushes segment ++ barrier ∷ []) (store i v ∷ [])

-- where the segment of the next entry starts
unfoldable pub segment_start : ℕ → ℕ → ℕ → ℕ
segment_start i start next = cond (eqb i barrier_word) next start

-- a script of ours, in words: at most 25 entries
pub record Ours (ws : List ℕ) : Type 0 where
  pub few : length ws ≤ 50
  pub no_flush : any_flush (entries_in ws) ≡ false
  pub fenced_end : ends_fenced (entries_in ws) ≡ true

-- the paper's numbers for an answer of the code
abbrev pub answer_of : Result ℕ Refused → ℕ
answer_of (Ok used) = 0
answer_of (Err refused) = 3

abbrev pub count_of : Result ℕ Refused → ℕ
count_of (Ok used) = used
count_of (Err refused) = 0
