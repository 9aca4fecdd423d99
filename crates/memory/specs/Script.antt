-- Scripts: entries, the words that they are written as, and the entries read back from words.
use Rattle.std.specs.Prelude.{cond, List, [], ◌∷◌, ◌++◌, map, ℕ, ◌+◌, ◌-◌, ◌*◌, ◌^◌, length, drop, eqb, ltb}
use Rattle.std.proofs.Math.Option.{Option, none, some}

-- an entry: a store of a value to the word at an index, a barrier, or a flush of a line
pub data Entry : Type 0 where
  store : (index value : ℕ) → Entry
  barrier : Entry
  flush : (line : ℕ) → Entry

-- the word that a barrier has where a store has its index
abbrev pub barrier_word : ℕ
barrier_word = 2 ^ 64 - 1

-- the word that a line flush has there
abbrev pub flush_word : ℕ
flush_word = 2 ^ 64 - 2

-- an entry is two words: index and value for a store, 2^64 − 1 and 0 for a barrier, 2^64 − 2 and the line for a flush
unfoldable pub encode : List Entry → List ℕ
encode [] = []
encode (store i v ∷ es) = i ∷ v ∷ encode es
encode (barrier ∷ es) = barrier_word ∷ 0 ∷ encode es
encode (flush l ∷ es) = flush_word ∷ l ∷ encode es

-- a script buffer with entries written at its start: unused words stay
unfoldable pub written : List Entry → List ℕ → List ℕ
written es buffer = encode es ++ drop (2 * length es) buffer

-- two words as an entry on an image of n words: a barrier, a flush of any line, or a store inside the image
unfoldable pub entry_of : ℕ → ℕ → ℕ → Option Entry
entry_of n i v =
    cond (eqb i barrier_word) (cond (eqb v 0) (some barrier) none)
    (cond (eqb i flush_word) (some (flush v))
    (cond (ltb i n) (some (store i v)) none))

-- an entry before others, where all are there
abbrev pub onto : Option Entry → Option (List Entry) → Option (List Entry)
onto none es = none
onto (some e) none = none
onto (some e) (some es) = some (e ∷ es)

-- the whole entries of a script of words; none where its length is odd or two of its words are no entry
unfoldable pub decode : ℕ → List ℕ → Option (List Entry)
decode n [] = some []
decode n (i ∷ []) = none
decode n (i ∷ v ∷ ws) = onto (entry_of n i v) (decode n ws)

-- a store by itself: index and value
abbrev pub Store : Type 0
Store = ℕ × ℕ

-- stores as entries
unfoldable pub stores : List Store → List Entry
stores seg = map (λ (s : Store). store s.0 s.1) seg

-- a script in segments: the stores of each, and a barrier after them
unfoldable pub segmented : List (List Store) → List Entry
segmented [] = []
segmented (seg ∷ segs) = stores seg ++ barrier ∷ segmented segs

-- how many stores entries have
unfoldable pub store_count : List Entry → ℕ
store_count [] = 0
store_count (store i v ∷ es) = 1 + store_count es
store_count (barrier ∷ es) = store_count es
store_count (flush l ∷ es) = store_count es

-- the same of words, two at a time: whatever is no barrier and no flush is a store
unfoldable pub stores_in : List ℕ → ℕ
stores_in [] = 0
stores_in (i ∷ []) = 0
stores_in (i ∷ v ∷ ws) = cond (eqb i barrier_word) (stores_in ws) (cond (eqb i flush_word) (stores_in ws) (1 + stores_in ws))
