-- The entries up to the last flush of a line and those since, and the entries that are no flushes.
use mathlib.Core.Path.{◌≡◌, refl, sym, ◌∙◌, ap}
use mathlib.Core.Bool.{true, false, ◌||◌, or-true, or-false, or_assoc}
use mathlib.Core.Logic.{inl, inr, ◌↔◌}
use mathlib.Core.List.Memᴰ
use mathlib.Core.List.{List, [], ◌∷◌, ◌++◌, Memᴰ}
use Prim.Native.Nat.{ℕ}
use native.Mathlib.Omega.{arith}
use lib.ListN.{length, take, drop, take-append-drop}
use lib.Seq.{take_at, drop_at}
use borrow.Author.Tests.{eq-eqb, ne_eqb}
use Rattle.memory.specs.Script.{Entry, store, barrier, flush}
use Rattle.memory.specs.Crash.{apply, has_barrier, fenced, unfenced}
use Rattle.flushes.specs.Crash.{is_flush, has_flush, flushed, unflushed}
use Rattle.flushes.specs.Translate.{unflushing}
use Rattle.memory.proofs.Laws.{test}

-- ---- up to the last flush, and since

pub flush_append : (l : ℕ) (es fs : List Entry) → has_flush l (es ++ fs) ≡ has_flush l es || has_flush l fs
unfolding has_flush
flush_append l [] fs = refl
flush_append l (e ∷ es) fs = ap (λ b. is_flush l e || b) (flush_append l es fs) ∙ sym (or_assoc (is_flush l e) (has_flush l es) (has_flush l fs))

pub a_flush : (l : ℕ) (es : List Entry) → Memᴰ (flush l) es → has_flush l es ≡ true
unfolding has_flush is_flush
a_flush l [] x = absurd (Memᴰ.not-nil x)
a_flush l (e ∷ es) x = elim (Memᴰ.cases_cons x) [
  | inl q ↦ rw (← q, eq-eqb l l refl) refl
  | inr y ↦ rw (a_flush l es y) (or-true (is_flush l e))
]

pub flush_rejoined : (l : ℕ) (es : List Entry) → flushed l es ++ unflushed l es ≡ es
unfolding flushed unflushed
flush_rejoined l [] = refl
flush_rejoined l (e ∷ es) = elim (test (has_flush l (e ∷ es))) [ inl q ↦ rw q (ap (λ t. e ∷ t) (flush_rejoined l es)) | inr q ↦ rw q ]

-- a flush in the second part is after all of the first; a second part with none is since the last flush
pub flush_later : (l : ℕ) (es fs : List Entry) → has_flush l fs ≡ true → unflushed l (es ++ fs) ≡ unflushed l fs
unfolding unflushed
flush_later l [] fs h = refl
flush_later l (e ∷ es) fs h =
    let q : has_flush l (e ∷ (es ++ fs)) ≡ true = flush_append l (e ∷ es) fs ∙ rw h (or-true (has_flush l (e ∷ es))) in
    rw q (flush_later l es fs h)

pub no_flush_later : (l : ℕ) (es fs : List Entry) → has_flush l fs ≡ false → unflushed l (es ++ fs) ≡ unflushed l es ++ fs
unfolding unflushed
no_flush_later l [] [] h = refl
no_flush_later l [] (f ∷ fs) h = rw h
no_flush_later l (e ∷ es) fs h =
    let q : has_flush l (e ∷ (es ++ fs)) ≡ has_flush l (e ∷ es) = flush_append l (e ∷ es) fs ∙ rw h (or-false (has_flush l (e ∷ es))) in
    elim (test (has_flush l (e ∷ es))) [ inl t ↦ rw (q, t, no_flush_later l es fs h) | inr t ↦ rw (q, t) ]

-- and what is up to it
pub flushed_later : (l : ℕ) (es fs : List Entry) → has_flush l fs ≡ true → flushed l (es ++ fs) ≡ es ++ flushed l fs
unfolding flushed
flushed_later l [] fs h = refl
flushed_later l (e ∷ es) fs h =
    let q : has_flush l (e ∷ (es ++ fs)) ≡ true = flush_append l (e ∷ es) fs ∙ rw h (or-true (has_flush l (e ∷ es))) in
    rw q (ap (λ t. e ∷ t) (flushed_later l es fs h))

pub not_flushed_later : (l : ℕ) (es fs : List Entry) → has_flush l fs ≡ false → flushed l (es ++ fs) ≡ flushed l es
unfolding flushed
not_flushed_later l [] [] h = refl
not_flushed_later l [] (f ∷ fs) h = rw h
not_flushed_later l (e ∷ es) fs h =
    let q : has_flush l (e ∷ (es ++ fs)) ≡ has_flush l (e ∷ es) = flush_append l (e ∷ es) fs ∙ rw h (or-false (has_flush l (e ∷ es))) in
    elim (test (has_flush l (e ∷ es))) [ inl t ↦ rw (q, t, not_flushed_later l es fs h) | inr t ↦ rw (q, t) ]

pub no_flush_of : (l : ℕ) (es : List Entry) → (Memᴰ (flush l) es → ⊥) → has_flush l es ≡ false
unfolding has_flush is_flush
no_flush_of l [] h = refl
no_flush_of l (store i v ∷ es) h = no_flush_of l es (λ x. h (Memᴰ.tail x))
no_flush_of l (barrier ∷ es) h = no_flush_of l es (λ x. h (Memᴰ.tail x))
no_flush_of l (flush k ∷ es) h = rw (ne_eqb k l (λ q. h (Memᴰ.head (ap flush (sym q))))) (no_flush_of l es (λ x. h (Memᴰ.tail x)))

-- with no flush nothing is up to it, and all is since
pub none_flushed : (l : ℕ) (es : List Entry) → has_flush l es ≡ false → flushed l es ≡ []
unfolding flushed
none_flushed l [] h = refl
none_flushed l (e ∷ es) h = rw h

pub all_unflushed : (l : ℕ) (es : List Entry) → has_flush l es ≡ false → unflushed l es ≡ es
unfolding unflushed
all_unflushed l [] h = refl
all_unflushed l (e ∷ es) h = rw h

-- what is since the last flush is an entry
pub unflushed_of : (l : ℕ) (es : List Entry) {e : Entry} → Memᴰ e (unflushed l es) → Memᴰ e es
unfolding unflushed
unflushed_of l [] x = x
unflushed_of l (f ∷ es) {e} x = elim (test (has_flush l (f ∷ es))) [
  | inl q ↦ Memᴰ.tail (unflushed_of l es {e = e} (rw q at x))
  | inr q ↦ rw q at x
]

-- ---- the entries that are no flushes

pub unflushing_append : (es fs : List Entry) → unflushing (es ++ fs) ≡ unflushing es ++ unflushing fs
unfolding unflushing
unflushing_append [] fs = refl
unflushing_append (store i v ∷ es) fs = ap (λ t. store i v ∷ t) (unflushing_append es fs)
unflushing_append (barrier ∷ es) fs = ap (λ t. barrier ∷ t) (unflushing_append es fs)
unflushing_append (flush l ∷ es) fs = unflushing_append es fs

pub apply_unflushing : (m : List ℕ) (es : List Entry) → apply m (unflushing es) ≡ apply m es
unfolding unflushing apply
apply_unflushing m [] = refl
apply_unflushing m (store i v ∷ es) = apply_unflushing _ es
apply_unflushing m (barrier ∷ es) = apply_unflushing m es
apply_unflushing m (flush l ∷ es) = apply_unflushing m es

pub barrier_unflushing : (es : List Entry) → has_barrier (unflushing es) ≡ has_barrier es
unfolding unflushing has_barrier
barrier_unflushing [] = refl
barrier_unflushing (store i v ∷ es) = barrier_unflushing es
barrier_unflushing (barrier ∷ es) = refl
barrier_unflushing (flush l ∷ es) = barrier_unflushing es

-- with no barrier nothing is up to it, and all is since
pub none_fenced : (es : List Entry) → has_barrier es ≡ false → fenced es ≡ []
unfolding fenced
none_fenced [] h = refl
none_fenced (e ∷ es) h = rw h

pub all_unfenced : (es : List Entry) → has_barrier es ≡ false → unfenced es ≡ es
unfolding unfenced
all_unfenced [] h = refl
all_unfenced (e ∷ es) h = rw h

pub fenced_unflushing : (es : List Entry) → fenced (unflushing es) ≡ unflushing (fenced es)
unfolding unflushing fenced has_barrier
fenced_unflushing [] = refl
fenced_unflushing (store i v ∷ es) = elim (test (has_barrier es)) [
  | inl q ↦ rw (barrier_unflushing es, q) (ap (λ t. store i v ∷ t) (fenced_unflushing es))
  | inr q ↦ rw (barrier_unflushing es, q) refl
]
fenced_unflushing (barrier ∷ es) = ap (λ t. barrier ∷ t) (fenced_unflushing es)
fenced_unflushing (flush l ∷ es) = elim (test (has_barrier es)) [
  | inl q ↦ rw q (fenced_unflushing es)
  | inr q ↦ rw q (none_fenced (unflushing es) (barrier_unflushing es ∙ q))
]

pub unfenced_unflushing : (es : List Entry) → unfenced (unflushing es) ≡ unflushing (unfenced es)
unfolding unflushing unfenced has_barrier
unfenced_unflushing [] = refl
unfenced_unflushing (store i v ∷ es) = elim (test (has_barrier es)) [
  | inl q ↦ rw (barrier_unflushing es, q) (unfenced_unflushing es)
  | inr q ↦ rw (barrier_unflushing es, q) refl
]
unfenced_unflushing (barrier ∷ es) = unfenced_unflushing es
unfenced_unflushing (flush l ∷ es) = elim (test (has_barrier es)) [
  | inl q ↦ rw q (unfenced_unflushing es)
  | inr q ↦ rw q (all_unfenced (unflushing es) (barrier_unflushing es ∙ q))
]

-- stores stay
pub store_unflushing : (es : List Entry) {i v : ℕ} → Memᴰ (store i v) (unflushing es) ↔ Memᴰ (store i v) es
unfolding unflushing
store_unflushing es {i} {v} = (to es, from es)
  where
    to : (es : List Entry) → Memᴰ (store i v) (unflushing es) → Memᴰ (store i v) es
    to [] x = x
    to (store j u ∷ es) x = elim (Memᴰ.cases_cons x) [ inl q ↦ Memᴰ.head q | inr y ↦ Memᴰ.tail (to es y) ]
    to (barrier ∷ es) x = elim (Memᴰ.cases_cons x) [ inl q ↦ Memᴰ.head q | inr y ↦ Memᴰ.tail (to es y) ]
    to (flush l ∷ es) x = Memᴰ.tail (to es x)

    from : (es : List Entry) → Memᴰ (store i v) es → Memᴰ (store i v) (unflushing es)
    from [] x = x
    from (store j u ∷ es) x = elim (Memᴰ.cases_cons x) [ inl q ↦ Memᴰ.head q | inr y ↦ Memᴰ.tail (from es y) ]
    from (barrier ∷ es) x = elim (Memᴰ.cases_cons x) [ inl q ↦ Memᴰ.head q | inr y ↦ Memᴰ.tail (from es y) ]
    from (flush l ∷ es) x = elim (Memᴰ.cases_cons x) [ inl q ↦ let z : ◌≡◌ {A = ℕ} 0 1 = cc in absurd (omega arith) | inr y ↦ from es y ]

-- the first k entries but for their flushes are as many of the others
pub unflushing_take : (es : List Entry) (k : ℕ) → unflushing (take k es) ≡ take (length (unflushing (take k es))) (unflushing es)
unflushing_take es k =
    let q = unflushing_append (take k es) (drop k es) in
    sym (take_at (unflushing (take k es)) (unflushing (drop k es)) _ refl) ∙ ap (take (length (unflushing (take k es)))) (sym q ∙ ap unflushing (take-append-drop k es))

pub unflushing_drop : (es : List Entry) (k : ℕ) → unflushing (drop k es) ≡ drop (length (unflushing (take k es))) (unflushing es)
unflushing_drop es k =
    let q = unflushing_append (take k es) (drop k es) in
    sym (drop_at (unflushing (take k es)) (unflushing (drop k es)) _ refl) ∙ ap (drop (length (unflushing (take k es)))) (sym q ∙ ap unflushing (take-append-drop k es))
