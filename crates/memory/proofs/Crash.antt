-- What a crash can leave: laws that speak of entries, not of their numbers (those are in Possible.antt).
use mathlib.Core.Path.{◌≡◌, refl, sym, ◌∙◌, ap}
use mathlib.Core.Logic.{◌⊎◌, inl, inr, ◌↔◌}
use mathlib.Core.List.Memᴰ
use mathlib.Core.List.{List, [], ◌∷◌, ◌++◌}
use Prim.Native.Nat.{ℕ, suc, ◌+◌, ◌-◌, ◌≤◌}
use native.Mathlib.Omega.{arith}
use native.Mathlib.Decide.{dec_le}
use lib.ListN.{length, take, length-append}
use lib.Seq.{take-length, take-append-le, take-append-add, append_snoc, set-get_or, ext_get_or}
use Rattle.memory.specs.Words.{reads}
use Rattle.memory.specs.Script.{Entry, store, barrier}
use Rattle.memory.specs.Crash.{apply, has_barrier, fenced, unfenced, CrashImage}
use Rattle.memory.specs.Laws.{Fit, FitStores}
use Rattle.memory.proofs.Cases.{test}
use Rattle.memory.proofs.Lists.{mem_take}
use Rattle.memory.proofs.Stores.{Possible, length_apply, apply_append, unstored, word_fits, stored_more, stored_parts, content, apply_laws}
use Rattle.memory.proofs.Fences.{Fenced, rejoined, barrier_later, none_later}

-- ---- what a crash after the last of some entries can leave in a word

-- what is carried out is possible
pub carried_out : (m : List ℕ) (es : List Entry) (i : ℕ) → Possible m es i (reads (apply m es) i)
carried_out m es i = let q : apply m es ≡ apply (apply m (fenced es)) (unfenced es) = rw (← apply_append) (rw rejoined) in
    rw q (content (apply m (fenced es)) (unfenced es) i)

pub as_carried_out : (m : List ℕ) (es : List Entry) (k : ℕ) → k ≤ length es → CrashImage m es k (apply m (take k es))
as_carried_out m es k h = record { within = h; same_length = length_apply m (take k es); each = carried_out m (take k es) }

-- ---- no entry since the last barrier: one image only

pub settled : (m : List ℕ) (es : List Entry) (k : ℕ) (m' : List ℕ) {before : List Entry} → Fenced (take k es) before [] → k ≤ length es
    → CrashImage m es k m' ↔ (m' ≡ apply m before)
settled m es k m' {before} f w = (
  λ c. ext_get_or 0 m' (apply m before) (c.same_length ∙ sym (length_apply m before)) (λ i l.
      unstored (λ v. Memᴰ.not-nil) (rw (f.up_to, f.after) at (c.each i))),
  λ q. record { within = w; same_length = ap length q ∙ length_apply m before; each = λ i. rw (f.up_to, f.after, q) (inl refl) },
)

pub none_yet : (m : List ℕ) (es : List Entry) (m' : List ℕ) → CrashImage m es 0 m' ↔ (m' ≡ m)
unfolding apply fenced unfenced
none_yet m es m' = settled m es 0 m' (record { up_to = refl; after = refl }) (omega arith)

pub all_done : (m : List ℕ) (es : List Entry) (m' : List ℕ)
    → CrashImage m (es ++ barrier ∷ []) (length (es ++ barrier ∷ [])) m' ↔ (m' ≡ apply m (es ++ barrier ∷ []))
unfolding has_barrier fenced unfenced
all_done m es m' = let l = es ++ barrier ∷ [] in settled m l (length l) m' (rw (take-length l) (barrier_later es (barrier ∷ []) refl)) (omega arith)

-- ---- words below 2^64

pub fits : (m : List ℕ) (es : List Entry) (k : ℕ) (m' : List ℕ) → Fit m → FitStores es → CrashImage m es k m' → Fit m'
fits m es k m' f s c i = let t = take k es in
    let r : FitStores (fenced t ++ unfenced t) = rw rejoined (λ j v x. s j v (mem_take k es x)) in
    let at-barrier = apply_laws.fits m (fenced t) f (λ j v x. r j v (Memᴰ.append_left (unfenced t) x)) in
    word_fits (at-barrier i) (λ j v x. r j v (Memᴰ.append_right (fenced t) x)) (c.each i)

-- ---- entries not reached, and entries before a barrier

pub unreached : (m : List ℕ) (es fs : List Entry) (k : ℕ) (m' : List ℕ) → k ≤ length es → CrashImage m (es ++ fs) k m' ↔ CrashImage m es k m'
unreached m es fs k m' h = let q = take-append-le k es fs h in (
  λ c. record { within = h; same_length = c.same_length; each = λ i. rw q at (c.each i) },
  λ c. record { within = omega (arith, length-append es fs); same_length = c.same_length; each = λ i. rw q (c.each i) },
)

-- a crash after a barrier is one of the rest, the entries before the barrier carried out
pub crash_after : (m : List ℕ) (es fs : List Entry) (j : ℕ) (m' : List ℕ) → CrashImage m (es ++ barrier ∷ fs) (length es + suc j) m'
    → CrashImage (apply m es) fs j m'
unfolding apply has_barrier fenced unfenced
crash_after m es fs j m' c = let f = barrier_later es (barrier ∷ take j fs) refl in record {
  within = omega (arith, c.within, length-append es (barrier ∷ fs));
  same_length = c.same_length ∙ sym (length_apply m es);
  each = λ i. rw (take-append-add es (barrier ∷ fs) (suc j), f.up_to, f.after, apply_append) at (c.each i);
}

pub crash_split : (m : List ℕ) (es fs : List Entry) (k : ℕ) (m' : List ℕ) → CrashImage m (es ++ barrier ∷ fs) k m'
    → CrashImage m es k m' ⊎ ((j : ℕ) × CrashImage (apply m es) fs j m')
crash_split m es fs k m' c = elim (dec_le k (length es)) [
  | yes l ↦ inl ((unreached m es (barrier ∷ fs) k m' l).0 c)
  | no n ↦ let q : k ≡ length es + suc (k - suc (length es)) = omega arith in inr (_, crash_after m es fs (k - suc (length es)) m' (rw q at c))
]

-- ---- a store of the value that a word has already

-- entries that carry out the same, and make no other word possible, can stand for others in front
pub possible_front : (m : List ℕ) (ds es ts : List Entry) → apply m ds ≡ apply m es → ((i v : ℕ) → Possible m ds i v → Possible m es i v)
    → (i v : ℕ) → Possible m (ds ++ ts) i v → Possible m (es ++ ts) i v
possible_front m ds es ts q h i v p = elim (test (has_barrier ts)) [
  | inl b ↦ let r = barrier_later ds ts b in let t = barrier_later es ts b in
      rw (t.up_to, t.after, apply_append, ← q, ← apply_append) (rw (r.up_to, r.after) at p)
  | inr b ↦ let r = none_later ds ts b in let t = none_later es ts b in
      rw (t.up_to, t.after) (elim (stored_parts (unfenced ds) (rw (r.up_to, r.after) at p)) [
        | inl o ↦ stored_more ts (h i v o)
        | inr x ↦ inr (Memᴰ.append_right (unfenced es) x)
      ])
]

pub crash_front : (m : List ℕ) (ds es fs : List Entry) (j : ℕ) (m' : List ℕ) → apply m ds ≡ apply m es
    → ((i v : ℕ) → Possible m ds i v → Possible m es i v) → CrashImage m (ds ++ fs) (length ds + j) m' → CrashImage m (es ++ fs) (length es + j) m'
crash_front m ds es fs j m' q h c = record {
  within = omega (arith, c.within, length-append ds fs, length-append es fs);
  same_length = c.same_length;
  each = λ i. rw take-append-add (possible_front m ds es (take j fs) q h i (reads m' i) (rw take-append-add at (c.each i)));
}

pub same_value : (m : List ℕ) (es fs : List Entry) (i j : ℕ) (m' : List ℕ)
    → CrashImage m (es ++ store i (reads (apply m es) i) ∷ fs) (length es + suc j) m' ↔ CrashImage m (es ++ fs) (length es + j) m'
unfolding apply has_barrier
same_value m es fs i j m' =
    let s = store i (reads (apply m es) i) in
    let ds = es ++ s ∷ [] in
    let same = apply_append m es (s ∷ []) ∙ set-get_or (apply m es) i 0 in
    let f = none_later es (s ∷ []) refl in
    let fewer : (x v : ℕ) → Possible m ds x v → Possible m es x v = λ x v p. elim (stored_parts (unfenced es) (rw (f.up_to, f.after) at p)) [
      | inl o ↦ o
      | inr y ↦ let q = Memᴰ.eq_of_singleton y in let a : x ≡ i = cc in let b : v ≡ reads (apply m es) i = cc in rw (a, b) (carried_out m es i)
    ] in
    let k : length es + suc j ≡ length ds + j = omega (arith, length-append es (s ∷ [])) in
    rw (k, ← append_snoc) (
      crash_front m ds es fs j m' same fewer,
      crash_front m es ds fs j m' (sym same) (λ x v p. rw (f.up_to, f.after) (stored_more (s ∷ []) p)),
    )
