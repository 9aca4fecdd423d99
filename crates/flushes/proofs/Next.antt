-- A script after one whose stores all last, on the module with line flushes: it starts from the image as carried out.
use mathlib.Core.Path.{◌≡◌, refl, sym, ◌∙◌, ap}
use mathlib.Core.Logic.{inl, inr, ◌↔◌}
use mathlib.Core.List.Memᴰ
use mathlib.Core.List.{List, [], ◌∷◌, ◌++◌, append-nil, Memᴰ}
use Prim.Native.Nat.{ℕ, ◌+◌, ◌<◌}
use native.Mathlib.Omega.{arith}
use native.Mathlib.Decide.{dec_lt}
use lib.ListN.{length, take, length-append, get_or-eq_default}
use lib.Seq.{take-append-add}
use Rattle.memory.specs.Words.{reads}
use Rattle.memory.specs.Script.{Entry, store, barrier}
use Rattle.memory.specs.Crash.{apply, has_barrier, fenced, unfenced}
use Rattle.flushes.specs.Crash.{line_of, has_flush, flushed, unflushed, FlushCrash}
use Rattle.memory.proofs.Laws.{test, length_apply, apply_append, unstored, content, barrier_later, none_later}
use Rattle.flushes.proofs.Flushes.{flush_rejoined, flush_later, no_flush_later, flushed_later, not_flushed_later, none_fenced, all_unfenced, none_flushed, all_unflushed}

-- all is up to the last barrier, and in an image of n words no store is since the last flush of its line
pub record Settled (n : ℕ) (es : List Entry) : Type 0 where
  pub up_to : fenced es ≡ es
  pub after : unfenced es ≡ []
  pub none : (i v : ℕ) → i < n → Memᴰ (store i v) (unflushed (line_of i) es) → ⊥

-- entries with a barrier at their end
pub ends_settled : (n : ℕ) (es : List Entry) → ((i v : ℕ) → i < n → Memᴰ (store i v) (unflushed (line_of i) (es ++ barrier ∷ [])) → ⊥)
    → Settled n (es ++ barrier ∷ [])
unfolding fenced unfenced has_barrier
ends_settled n es h = let f = barrier_later es (barrier ∷ []) refl in record { up_to = f.up_to; after = f.after; none = h }

module _ {n : ℕ} (es : List Entry) (s : Settled n es) where
  fenced_next : (fs : List Entry) → fenced (es ++ fs) ≡ es ++ fenced fs
  fenced_next fs = elim (test (has_barrier fs)) [
    | inl h ↦ (barrier_later es fs h).up_to
    | inr h ↦ (none_later es fs h).up_to ∙ s.up_to ∙ sym (append-nil es) ∙ ap (λ t. es ++ t) (sym (none_fenced fs h))
  ]

  unfenced_next : (fs : List Entry) → unfenced (es ++ fs) ≡ unfenced fs
  unfenced_next fs = elim (test (has_barrier fs)) [
    | inl h ↦ (barrier_later es fs h).after
    | inr h ↦ (none_later es fs h).after ∙ ap (λ t. t ++ fs) s.after ∙ sym (all_unfenced fs h)
  ]

  -- the word's content at the last flush of its line
  content_next : (m : List ℕ) (fs : List Entry) (i : ℕ) → i < n
      → reads (apply m (flushed (line_of i) (es ++ fs))) i ≡ reads (apply (apply m es) (flushed (line_of i) fs)) i
  unfolding apply
  content_next m fs i l = let line = line_of i in elim (test (has_flush line fs)) [
    | inl h ↦ ap (λ t. reads t i) (ap (apply m) (flushed_later line es fs h) ∙ apply_append m es (flushed line fs))
    | inr h ↦
        let q : apply m es ≡ apply (apply m (flushed line es)) (unflushed line es) =
        ap (apply m) (sym (flush_rejoined line es)) ∙ apply_append m (flushed line es) (unflushed line es) in
        rw (not_flushed_later line es fs h, none_flushed line fs h, q)
        (sym (unstored (λ v. s.none i v l) (content (apply m (flushed line es)) (unflushed line es) i)))
  ]

  -- and the stores since
  pending_next : (fs : List Entry) (i v : ℕ) → i < n → Memᴰ (store i v) (unflushed (line_of i) (es ++ fs)) ↔ Memᴰ (store i v) (unflushed (line_of i) fs)
  pending_next fs i v l = let line = line_of i in elim (test (has_flush line fs)) [
    | inl h ↦ rw (flush_later line es fs h) (λ x. x, λ x. x)
    | inr h ↦ rw (no_flush_later line es fs h, all_unflushed line fs h) (
      λ x. elim (Memᴰ.append_cases (unflushed line es) x) [ inl y ↦ absurd (s.none i v l y) | inr y ↦ y ],
      λ x. Memᴰ.append_right (unflushed line es) x,
    )
  ]

-- ---- the next script

-- past the image's end nothing is read
outside : (m m' : List ℕ) (i : ℕ) → length m' ≡ length m → (i < length m → ⊥) → reads m' i ≡ reads m i
outside m m' i q h = get_or-eq_default m' 0 (omega arith) ∙ sym (get_or-eq_default m 0 (omega arith))

pub next_script : (m : List ℕ) (es fs : List Entry) (k : ℕ) (m' : List ℕ) → Settled (length m) es
    → FlushCrash m (es ++ fs) (length es + k) m' ↔ FlushCrash (apply m es) fs k m'
next_script m es fs k m' s =
    let t = take k fs in
    let q : take (length es + k) (es ++ fs) ≡ es ++ t = take-append-add es fs k in
    let far = length-append es fs in (
      λ c. record {
        within = omega (arith, c.within);
        same_length = c.same_length ∙ sym (length_apply m es);
        each = λ i. elim (dec_lt i (length m)) [
          | no h ↦ inl (outside (apply (apply m es) (flushed (line_of i) (fenced t))) m' i
              (c.same_length ∙ sym (length_apply (apply m es) (flushed (line_of i) (fenced t)) ∙ length_apply m es))
              (λ l. h (omega (arith, length_apply (apply m es) (flushed (line_of i) (fenced t)), length_apply m es))))
          | yes l ↦ elim (rw (q, fenced_next es s t, unfenced_next es s t) at (c.each i)) [
            | inl e ↦ inl (e ∙ content_next es s m (fenced t) i l)
            | inr x ↦ inr (elim (Memᴰ.append_cases (unflushed (line_of i) (es ++ fenced t)) x) [
              | inl y ↦ Memᴰ.append_left (unfenced t) ((pending_next es s (fenced t) i (reads m' i) l).0 y)
              | inr y ↦ Memᴰ.append_right (unflushed (line_of i) (fenced t)) y
            ])
          ]
        ];
      },
      λ c. record {
        within = omega (arith, c.within);
        same_length = c.same_length ∙ length_apply m es;
        each = λ i. rw (q, fenced_next es s t, unfenced_next es s t) (elim (dec_lt i (length m)) [
          | no h ↦ inl (outside (apply m (flushed (line_of i) (es ++ fenced t))) m' i
              (c.same_length ∙ length_apply m es ∙ sym (length_apply m (flushed (line_of i) (es ++ fenced t))))
              (λ l. h (omega (arith, length_apply m (flushed (line_of i) (es ++ fenced t))))))
          | yes l ↦ elim (c.each i) [
            | inl e ↦ inl (e ∙ sym (content_next es s m (fenced t) i l))
            | inr x ↦ inr (elim (Memᴰ.append_cases (unflushed (line_of i) (fenced t)) x) [
              | inl y ↦ Memᴰ.append_left (unfenced t) ((pending_next es s (fenced t) i (reads m' i) l).1 y)
              | inr y ↦ Memᴰ.append_right (unflushed (line_of i) (es ++ fenced t)) y
            ])
          ]
        ]);
      },
    )
