-- The refinement: a crash of a translated script on the module with line flushes is one of our script on the present module.
use mathlib.Core.Path.{◌≡◌, refl, sym, ◌∙◌, ap}
use mathlib.Core.Bool.{false}
use mathlib.Core.Logic.{◌⊎◌, inl, inr, ◌↔◌}
use mathlib.Core.List.Memᴰ
use mathlib.Core.List.{List, [], ◌∷◌, ◌++◌, map, append_assoc, append-nil, Memᴰ}
use Prim.Native.Nat.{ℕ, zero, suc, ◌+◌, ◌-◌, ◌≤◌}
use native.Mathlib.Omega.{arith}
use native.Mathlib.Decide.{dec_le, ℕ_discrete}
use lib.ListN.{length, take, drop, length-append, take-append-drop}
use lib.Seq.{take-append-le, take-append-add, take-nil, append_snoc}
use borrow.Author.Tests.{eq-eqb, ne_eqb}
use Rattle.memory.specs.Words.{reads}
use Rattle.memory.specs.Script.{Entry, store, barrier, flush}
use Rattle.memory.specs.Crash.{apply, has_barrier, fenced, unfenced, CrashImage, passed}
use Rattle.flushes.specs.Crash.{line_of, is_flush, has_flush, flushed, unflushed, FlushCrash}
use Rattle.flushes.specs.Translate.{lines_in, without, firsts, flushes, translated_from, translated, unflushing, as_far}
use Rattle.flushes.specs.Laws.{NoFlush}
use Rattle.memory.proofs.Laws.{test, clash, mem_take, apply_append, unstored, content, no_barrier, barrier_later, none_later}
use Rattle.flushes.proofs.Flushes.{a_flush, flush_rejoined, flush_later, no_flush_later, unflushed_of, unflushing_append, apply_unflushing, barrier_unflushing, fenced_unflushing, unfenced_unflushing, store_unflushing, unflushing_take, unflushing_drop}

-- ---- every store up to the last barrier is flushed: then the two modules leave the same

-- no store up to the last barrier is since the last flush of its line
pub record Covered (es : List Entry) : Type 0 where
  pub none : (i v : ℕ) → Memᴰ (store i v) (unflushed (line_of i) (fenced es)) → ⊥

-- a word's content then is that of the last barrier
pub covered_word : (m : List ℕ) (es : List Entry) (i : ℕ) → Covered es
    → reads (apply m (fenced es)) i ≡ reads (apply m (flushed (line_of i) (fenced es))) i
covered_word m es i c =
    let l = line_of i in
    let f = fenced es in
    let q : apply m f ≡ apply (apply m (flushed l f)) (unflushed l f) = ap (apply m) (sym (flush_rejoined l f)) ∙ apply_append m (flushed l f) (unflushed l f) in
    rw q (unstored (λ v. c.none i v) (content (apply m (flushed l f)) (unflushed l f) i))

pub covered : (m : List ℕ) (es : List Entry) (k : ℕ) (m' : List ℕ) → Covered (take k es) → FlushCrash m es k m' ↔ CrashImage m es k m'
covered m es k m' c = let t = take k es in (
  λ x. record {
    within = x.within;
    same_length = x.same_length;
    each = λ i. elim (x.each i) [
      | inl q ↦ inl (q ∙ sym (covered_word m t i c))
      | inr y ↦ elim (Memᴰ.append_cases (unflushed (line_of i) (fenced t)) y) [ inl z ↦ absurd (c.none i (reads m' i) z) | inr z ↦ inr z ]
    ];
  },
  λ x. record {
    within = x.within;
    same_length = x.same_length;
    each = λ i. elim (x.each i) [
      | inl q ↦ inl (q ∙ covered_word m t i c)
      | inr y ↦ inr (Memᴰ.append_right (unflushed (line_of i) (fenced t)) y)
    ];
  },
)

-- ---- flushes mean nothing on the present module

pub unflushing_crash : (m : List ℕ) (es : List Entry) (k : ℕ) (m' : List ℕ) → k ≤ length es
    → CrashImage m es k m' ↔ CrashImage m (unflushing es) (length (unflushing (take k es))) m'
unflushing_crash m es k m' w =
    let t = take k es in
    let j = length (unflushing t) in
    let same : take j (unflushing es) ≡ unflushing t = sym (unflushing_take es k) in
    let up_to : apply m (fenced (take j (unflushing es))) ≡ apply m (fenced t) =
    ap (λ u. apply m (fenced u)) same ∙ ap (apply m) (fenced_unflushing t) ∙ apply_unflushing m (fenced t) in
    let after : unfenced (take j (unflushing es)) ≡ unflushing (unfenced t) = ap unfenced same ∙ unfenced_unflushing t in
    let few : j ≤ length (unflushing es) = omega (arith, ap length (unflushing_append t (drop k es)), length-append (unflushing t) (unflushing (drop k es)), ap (λ u. length (unflushing u)) (take-append-drop k es)) in (
      λ x. record {
        within = few;
        same_length = x.same_length;
        each = λ i. rw (up_to, after) (elim (x.each i) [
          | inl q ↦ inl q
          | inr y ↦ inr ((store_unflushing (unfenced t)).1 y)
        ]);
      },
      λ x. record {
        within = w;
        same_length = x.same_length;
        each = λ i. elim (rw (up_to, after) at (x.each i)) [
          | inl q ↦ inl q
          | inr y ↦ inr ((store_unflushing (unfenced t)).0 y)
        ];
      },
    )

-- ---- the lines of a segment

-- a line stored to has its flush
mem_without : (l k : ℕ) (ls : List ℕ) → Memᴰ k ls → (k ≡ l) ⊎ Memᴰ k (without l ls)
unfolding without
mem_without l k [] x = absurd (Memᴰ.not-nil x)
mem_without l k (j ∷ ls) x = elim (ℕ_discrete j l) [
  | yes q ↦ rw (eq-eqb j l q) (elim (Memᴰ.cases_cons x) [ inl p ↦ inl (p ∙ q) | inr y ↦ mem_without l k ls y ])
  | no n ↦ rw (ne_eqb j l n) (elim (Memᴰ.cases_cons x) [
    | inl p ↦ inr (Memᴰ.head p)
    | inr y ↦ elim (mem_without l k ls y) [ inl q ↦ inl q | inr z ↦ inr (Memᴰ.tail z) ]
  ])
]

pub mem_firsts : (k : ℕ) (ls : List ℕ) → Memᴰ k ls → Memᴰ k (firsts ls)
unfolding firsts
mem_firsts k [] x = x
mem_firsts k (l ∷ ls) x = elim (Memᴰ.cases_cons x) [
  | inl p ↦ Memᴰ.head p
  | inr y ↦ elim (mem_without l k (firsts ls) (mem_firsts k ls y)) [ inl q ↦ Memᴰ.head q | inr z ↦ Memᴰ.tail z ]
]

pub line_of_lem : (es : List Entry) (i v : ℕ) → Memᴰ (store i v) es → Memᴰ (line_of i) (lines_in es)
unfolding lines_in
line_of_lem [] i v x = absurd (Memᴰ.not-nil x)
line_of_lem (store j u ∷ es) i v x = elim (Memᴰ.cases_cons x) [
  | inl q ↦ let e : i ≡ j = cc in Memᴰ.head (ap line_of e)
  | inr y ↦ Memᴰ.tail (line_of_lem es i v y)
]
line_of_lem (barrier ∷ es) i v x = elim (Memᴰ.cases_cons x) [ inl q ↦ let z : ◌≡◌ {A = ℕ} 0 1 = cc in absurd (omega arith) | inr y ↦ line_of_lem es i v y ]
line_of_lem (flush l ∷ es) i v x = elim (Memᴰ.cases_cons x) [ inl q ↦ let z : ◌≡◌ {A = ℕ} 0 1 = cc in absurd (omega arith) | inr y ↦ line_of_lem es i v y ]

pub flushes_line : (since : List Entry) (i v : ℕ) → Memᴰ (store i v) since → Memᴰ (flush (line_of i)) (flushes since)
unfolding flushes
flushes_line since i v x = Memᴰ.map flush (mem_firsts (line_of i) (lines_in since) (line_of_lem since i v x))

-- flushes are no stores, no barriers
pub no_store_in : (ls : List ℕ) (i v : ℕ) → Memᴰ (store i v) (map flush ls) → ⊥
no_store_in ls i v x = let z : ◌≡◌ {A = ℕ} 0 1 = cc (Memᴰ.of_map flush ls x).2 in omega arith

pub unflushing_flushes : (ls : List ℕ) → unflushing (map flush ls) ≡ []
unfolding unflushing
unflushing_flushes [] = refl
unflushing_flushes (l ∷ ls) = unflushing_flushes ls

-- ---- the translation covers

-- every store of t that is not flushed is one of `since`
record Since (t since : List Entry) : Type 0 where
  each : (i v : ℕ) → Memᴰ (store i v) (unflushed (line_of i) t) → Memᴰ (store i v) since

-- entries with no barrier leave a covered list covered
more_covered : (t fs : List Entry) → has_barrier fs ≡ false → Covered t → Covered (t ++ fs)
more_covered t fs h c = record { none = λ i v x. c.none i v (rw (none_later t fs h).up_to at x) }

-- one more store
since_store : (t since : List Entry) (i v : ℕ) → Since t since → Since (t ++ store i v ∷ []) (since ++ store i v ∷ [])
unfolding has_flush is_flush
since_store t since i v s = record {
  each = λ j u x. elim (Memᴰ.append_cases (unflushed (line_of j) t) (rw (no_flush_later (line_of j) t (store i v ∷ []) refl) at x)) [
    | inl y ↦ Memᴰ.append_left (store i v ∷ []) (s.each j u y)
    | inr y ↦ Memᴰ.append_right since y
  ];
}

-- the flushes of a segment and its barrier
none_left : (t since : List Entry) → Since t since → (i v : ℕ) → Memᴰ (store i v) (unflushed (line_of i) (t ++ (flushes since ++ barrier ∷ []))) → ⊥
unfolding flushes
none_left t since s i v x = elim (test (has_flush (line_of i) (flushes since ++ barrier ∷ []))) [
  | inl h ↦ not_there (unflushed_in (rw (flush_later (line_of i) t _ h) at x))
  | inr h ↦ elim (Memᴰ.append_cases (unflushed (line_of i) t) (rw (no_flush_later (line_of i) t _ h) at x)) [
    | inl y ↦ clash _ (a_flush (line_of i) _ (Memᴰ.append_left (barrier ∷ []) (flushes_line since i v (s.each i v y)))) h
    | inr y ↦ not_there y
  ]
]
  where
    not_there : Memᴰ (store i v) (flushes since ++ barrier ∷ []) → ⊥
    not_there y = elim (Memᴰ.append_cases (flushes since) y) [
      | inl z ↦ no_store_in (firsts (lines_in since)) i v z
      | inr z ↦ let q = Memᴰ.eq_of_singleton z in let e : ◌≡◌ {A = ℕ} 0 1 = cc in omega arith
    ]

    unflushed_in : Memᴰ (store i v) (unflushed (line_of i) (flushes since ++ barrier ∷ [])) → Memᴰ (store i v) (flushes since ++ barrier ∷ [])
    unflushed_in y = unflushed_of (line_of i) _ y

-- a segment's flushes and its barrier are all up to a barrier
pub to_barrier : (t fs : List Entry) → fenced (t ++ (fs ++ barrier ∷ [])) ≡ t ++ (fs ++ barrier ∷ [])
unfolding fenced has_barrier
to_barrier t fs = rw (← append_assoc t fs (barrier ∷ [])) (barrier_later (t ++ fs) (barrier ∷ []) refl).up_to

-- the first k entries, where the flushes and the barrier are among them
past_barrier : (t fs es : List Entry) (k : ℕ) → length fs ≤ k → t ++ take (suc k) (fs ++ barrier ∷ es) ≡ t ++ (fs ++ barrier ∷ []) ++ take (k - length fs) es
past_barrier t fs es k h =
    let q : suc k ≡ length fs + suc (k - length fs) = omega arith in
    rw (q, take-append-add fs (barrier ∷ es) (suc (k - length fs)))
    (ap (λ u. t ++ u) (sym (append_assoc fs (barrier ∷ []) (take (k - length fs) es))) ∙ sym (append_assoc t (fs ++ barrier ∷ []) (take (k - length fs) es)))

no_barrier_flushes : (since : List Entry) (k : ℕ) → has_barrier (take k (flushes since)) ≡ false
unfolding flushes
no_barrier_flushes since k = no_barrier _ (λ x. let y = mem_take k (map flush (firsts (lines_in since))) x in
    let z : ◌≡◌ {A = ℕ} 0 1 = cc (Memᴰ.of_map flush (firsts (lines_in since)) y).2 in omega arith)

covers_from : (es t since : List Entry) (k : ℕ) → NoFlush es → Covered t → Since t since → Covered (t ++ take k (translated_from since es))
unfolding translated_from has_barrier
covers_from [] t since k n c s = rw (take-nil k, append-nil t) c
covers_from (store i v ∷ es) t since k n c s = elim k as (λ k. Covered (t ++ take k (store i v ∷ translated_from (since ++ store i v ∷ []) es))) [
  | zero ↦ rw (append-nil t) c
  | suc j ↦ rw (← append_snoc t (store i v) (take j (translated_from (since ++ store i v ∷ []) es))) (covers_from es (t ++ store i v ∷ []) (since ++ store i v ∷ []) j (λ l x. n l (Memᴰ.tail x))
      (more_covered t (store i v ∷ []) refl c) (since_store t since i v s))
]
covers_from (flush l ∷ es) t since k n c s = absurd (n l (Memᴰ.head refl))
covers_from (barrier ∷ es) t since k n c s =
    let fs = flushes since in
    elim (dec_le k (length fs)) [
      | yes h ↦ rw (take-append-le k fs (barrier ∷ translated_from [] es) h) (more_covered t (take k fs) (no_barrier_flushes since k) c)
      | no h ↦
          let t' = t ++ (fs ++ barrier ∷ []) in
          let j = k - suc (length fs) in
          let q : k ≡ suc (j + length fs) = omega arith in
          let r : j + length fs - length fs ≡ j = omega arith in
          let none : (i v : ℕ) → Memᴰ (store i v) (unflushed (line_of i) t') → ⊥ = none_left t since s in
          rw (q, past_barrier t fs (translated_from [] es) (j + length fs) (omega arith), r)
          (covers_from es t' [] j (λ l x. n l (Memᴰ.tail x)) (record { none = rw (to_barrier t fs) none }) (record { each = λ i v x. absurd (none i v x) }))
    ]

pub covers : (es : List Entry) (k : ℕ) → NoFlush es → Covered (take k (translated es))
unfolding translated fenced unflushed
covers es k n = covers_from es [] [] k n (record { none = λ i v x. Memᴰ.not-nil x }) (record { each = λ i v x. x })

-- ---- but for its flushes the translation is our script

same_from : (since es : List Entry) → NoFlush es → unflushing (translated_from since es) ≡ es
unfolding translated_from unflushing flushes
same_from since [] n = refl
same_from since (store i v ∷ es) n = ap (λ t. store i v ∷ t) (same_from (since ++ store i v ∷ []) es (λ l x. n l (Memᴰ.tail x)))
same_from since (barrier ∷ es) n =
    unflushing_append (map flush (firsts (lines_in since))) (barrier ∷ translated_from [] es)
    ∙ rw (unflushing_flushes (firsts (lines_in since))) (ap (λ t. barrier ∷ t) (same_from [] es (λ l x. n l (Memᴰ.tail x))))
same_from since (flush l ∷ es) n = absurd (n l (Memᴰ.head refl))

pub same_entries : (es : List Entry) → NoFlush es → unflushing (translated es) ≡ es
unfolding translated
same_entries es n = same_from [] es n

pub so_far : (es : List Entry) (k : ℕ) → NoFlush es → unflushing (take k (translated es)) ≡ take (as_far es k) es
unfolding as_far
so_far es k n = unflushing_take (translated es) k ∙ ap (take (length (unflushing (take k (translated es))))) (same_entries es n)

pub passed_alike : (es : List Entry) (k : ℕ) → NoFlush es → passed (translated es) k ↔ passed es (as_far es k)
unfolding as_far
passed_alike es k n =
    let q : drop (as_far es k) es ≡ unflushing (drop k (translated es)) =
    sym (unflushing_drop (translated es) k ∙ ap (drop (length (unflushing (take k (translated es))))) (same_entries es n)) in
    let r : has_barrier (drop (as_far es k) es) ≡ has_barrier (drop k (translated es)) = ap has_barrier q ∙ barrier_unflushing (drop k (translated es)) in
    (λ p. r ∙ p, λ p. sym r ∙ p)

-- ---- the refinement

pub both_modules : (m : List ℕ) (es : List Entry) (k : ℕ) (m' : List ℕ) → NoFlush es → k ≤ length (translated es)
    → FlushCrash m (translated es) k m' ↔ CrashImage m es (as_far es k) m'
unfolding as_far
both_modules m es k m' n w =
    let a = covered m (translated es) k m' (covers es k n) in
    let b = unflushing_crash m (translated es) k m' w in
    let q = same_entries es n in
    (λ x. rw q at (b.0 (a.0 x)), λ x. a.1 (b.1 (rw q x)))

pub refines : (m : List ℕ) (es : List Entry) (k : ℕ) (m' : List ℕ) → NoFlush es → FlushCrash m (translated es) k m' → CrashImage m es (as_far es k) m'
refines m es k m' n x = (both_modules m es k m' n x.within).0 x

pub as_possible : (m : List ℕ) (es : List Entry) (k : ℕ) (m' : List ℕ) → NoFlush es → k ≤ length (translated es)
    → CrashImage m es (as_far es k) m' → FlushCrash m (translated es) k m'
as_possible m es k m' n w x = (both_modules m es k m' n w).1 x
