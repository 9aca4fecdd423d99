-- Our scripts translated for the module with line flushes.
use Rattle.std.specs.Prelude.{Bool, true, false, cond, not, ◌||◌, ◌&&◌, List, [], ◌∷◌, ◌++◌, map, ℕ, ◌*◌, length, take, eqb, ltb}
use Rattle.std.proofs.Math.Option.{Option, none, some}
use Rattle.memory.specs.Script.{Entry, store, barrier, flush, decode, written}
use Rattle.flushes.specs.Crash.{line_of}

-- the lines that entries store to, store by store
unfoldable pub lines_in : List Entry → List ℕ
lines_in [] = []
lines_in (store i v ∷ es) = line_of i ∷ lines_in es
lines_in (barrier ∷ es) = lines_in es
lines_in (flush l ∷ es) = lines_in es

unfoldable pub without : ℕ → List ℕ → List ℕ
without l [] = []
without l (k ∷ ks) = cond (eqb k l) (without l ks) (k ∷ without l ks)

-- each number once, where it first stands
unfoldable pub firsts : List ℕ → List ℕ
firsts [] = []
firsts (l ∷ ls) = l ∷ without l (firsts ls)

-- one flush for each line stored to, in order of first store
unfoldable pub flushes : List Entry → List Entry
flushes es = map flush (firsts (lines_in es))

-- a script with the flushes before each barrier; `since` has the entries since the barrier before
unfoldable pub translated_from : List Entry → List Entry → List Entry
translated_from since [] = []
translated_from since (store i v ∷ es) = store i v ∷ translated_from (since ++ store i v ∷ []) es
translated_from since (barrier ∷ es) = flushes since ++ barrier ∷ translated_from [] es
translated_from since (flush l ∷ es) = flush l ∷ translated_from since es

unfoldable pub translated : List Entry → List Entry
translated es = translated_from [] es

-- ---- how far a script of the module's is carried out, in entries of ours

-- the entries that are no flushes
unfoldable pub unflushing : List Entry → List Entry
unflushing [] = []
unflushing (store i v ∷ es) = store i v ∷ unflushing es
unflushing (barrier ∷ es) = barrier ∷ unflushing es
unflushing (flush l ∷ es) = unflushing es

-- of our script's entries, those among the first k of its translation
unfoldable pub as_far : List Entry → ℕ → ℕ
as_far es k = length (unflushing (take k (translated es)))

-- ---- the translator over words, for an image of n words

-- a script of ours: no flush in it, and it is empty or ends in a barrier
unfoldable pub any_flush : List Entry → Bool
any_flush [] = false
any_flush (store i v ∷ es) = any_flush es
any_flush (barrier ∷ es) = any_flush es
any_flush (flush l ∷ es) = true

unfoldable pub ends_fenced : List Entry → Bool
ends_fenced [] = true
ends_fenced (e ∷ f ∷ es) = ends_fenced (f ∷ es)
ends_fenced (store i v ∷ []) = false
ends_fenced (barrier ∷ []) = true
ends_fenced (flush l ∷ []) = false

-- answer, words used, the buffer as it is left
pub record Translation : Type 0 where
  pub answer : ℕ
  pub count : ℕ
  pub buffer : List ℕ

abbrev pub translation : ℕ → ℕ → List ℕ → Translation
translation a c b = record { answer = a; count = c; buffer = b }

abbrev pub translated_into : List ℕ → Option (List Entry) → Translation
translated_into buffer none = translation 3 0 buffer
translated_into buffer (some es) =
    cond (not (any_flush es) && ends_fenced es) (translation 0 (2 * length (translated es)) (written (translated es) buffer)) (translation 3 0 buffer)

-- refused 3 for a buffer below 98 words, a script over 50 words, or words that are no script of ours inside the image
unfoldable pub translate : (n : ℕ) → (script buffer : List ℕ) → Translation
translate n script buffer =
    cond (ltb (length buffer) 98 || ltb 50 (length script)) (translation 3 0 buffer) (translated_into buffer (decode n script))
