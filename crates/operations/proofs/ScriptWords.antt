-- Scripts in segments as their writers leave them: how many words, and what is written.
use mathlib.Core.Path.{◌≡◌, sym, ap}
use mathlib.Core.List.{List, [], ◌∷◌, ◌++◌, append_assoc}
use Prim.Native.Nat.{ℕ, ◌*◌}
use lib.ListN.{length}
use Rattle.tree.specs.Memory.{store, barrier, written, Store, stores, segmented, entries}
use Rattle.tree.proofs.Memory.{segment_laws, length_segmented}

pub words_of : (segs : List (List Store)) → 2 * entries segs ≡ 2 * length (segmented segs)
words_of segs = ap (λ n. 2 * n) (sym (length_segmented segs))

-- one fenced store, and two
pub fenced_written : (s : Store) (script words : List ℕ) → words ≡ written (store s.0 s.1 ∷ barrier ∷ []) script
    → words ≡ written (segmented ((s ∷ []) ∷ [])) script
fenced_written s script words e = rw (segment_laws.fenced_one s) e

pub pair_written : (s t : Store) (script words : List ℕ) → words ≡ written (store s.0 s.1 ∷ barrier ∷ store t.0 t.1 ∷ barrier ∷ []) script
    → words ≡ written (segmented ((s ∷ []) ∷ (t ∷ []) ∷ [])) script
pair_written s t script words e = rw (segment_laws.fenced_pair s t) e

-- stores before a segment's are of that segment
pub stores_before : (seg seg' : List Store) (segs : List (List Store)) → stores seg ++ segmented (seg' ∷ segs) ≡ segmented ((seg ++ seg') ∷ segs)
stores_before seg seg' segs =
    rw (segment_laws.first_segment seg' segs, segment_laws.first_segment (seg ++ seg') segs, segment_laws.stores_append seg seg')
    (sym (append_assoc (stores seg) (stores seg') (barrier ∷ segmented segs)))
