-- What a crash can leave on the module with line flushes, by the numbers of the entries.
use mathlib.Core.Path.{◌≡◌, refl, sym, ◌∙◌, ap}
use mathlib.Core.Bool.{true}
use mathlib.Core.Logic.{◌⊎◌, inl, inr, ◌↔◌, ◌≢◌}
use mathlib.Core.Option.{Option, none, some, none-ne-some}
use mathlib.Core.List.{List, [], ◌∷◌, ◌++◌, map, append_assoc, append-nil, Memᴰ}
use Prim.Native.Nat.{ℕ, zero, suc, ◌+◌, ◌*◌, ◌≤◌, ◌<◌}
use native.Mathlib.Omega.{arith}
use native.Mathlib.Decide.{dec_lt, ℕ_discrete}
use lib.ListN.{length, take, drop, set, get_elem?, take-append-drop, length-set, get_or-eq_default}
use lib.Seq.{take-take, take-nil, take-length, drop-nil, ext_get_or, get_or-set_same, get_or-set_other, set_out}
use borrow.Author.Tests.{eq-eqb}
use Rattle.memory.specs.Words.{reads}
use Rattle.memory.specs.Script.{Entry, store, barrier, flush, Store, stores}
use Rattle.memory.specs.Crash.{apply, fenced, unfenced}
use Rattle.memory.specs.Laws.{LastBarrier, Choice, old, new, image, Torn}
use Rattle.flushes.specs.Crash.{line_of, has_flush, is_flush, flushed, unflushed, FlushCrash}
use Rattle.flushes.specs.Module.{flushed_after}
use Rattle.flushes.specs.Laws.{NoFlush, Lasts, LastFlush, FlushCrashLaws, EachLine, OwnWritesLaws}
use Rattle.memory.proofs.Laws.{mem_take, number_of, take_through, length_apply, apply_append, content, OldOrStored, rejoined, store_of, crash_laws, fenced_at, choice_means, length_image, reads_image}
use Rattle.flushes.proofs.Flushes.{a_flush, flush_rejoined, flush_later, no_flush_later, flushed_later, not_flushed_later, no_flush_of, none_flushed, unflushed_of}
use Rattle.flushes.proofs.Translated.{no_store_in}
use Rattle.flushes.proofs.Translator.{apply_flushes}
use Rattle.flushes.proofs.Next.{Settled, ends_settled, next_script}

-- two entries of different kinds have different numbers
apart : {e f : Entry} (es : List Entry) (i j : ℕ) → get_elem? es i ≡ some e → get_elem? es j ≡ some f → (e ≡ f → ⊥) → i ≢ j
apart {e} {f} es i j a b n q = n (some_inj (sym a ∙ ap (get_elem? es) q ∙ b))
  where
    some_inj : {e f : Entry} → some e ≡ some f → e ≡ f
    some_inj q = cc

flush_barrier : {l : ℕ} → flush l ≡ barrier → ⊥
flush_barrier q = let z : ◌≡◌ {A = ℕ} 0 1 = cc in omega arith

flush_store : {l i v : ℕ} → flush l ≡ store i v → ⊥
flush_store q = let z : ◌≡◌ {A = ℕ} 0 1 = cc in omega arith

-- ---- the last flush up to the last barrier

record FlushedTo (es : List Entry) (top line b : ℕ) : Type 0 where
  at : (b ≡ 0) ⊎ ((c : ℕ) × (b ≡ suc c) × (get_elem? es c ≡ some (flush line)))
  within : b ≤ top
  none : (j : ℕ) → b ≤ j → j < top → get_elem? es j ≢ some (flush line)

is_flush_lem : (line : ℕ) (o : Option Entry) → Dec (o ≡ some (flush line))
is_flush_lem line none = no (none-ne-some (flush line))
is_flush_lem line (some (store i v)) = no (λ q. let z : ◌≡◌ {A = ℕ} 0 1 = cc in omega arith)
is_flush_lem line (some barrier) = no (λ q. let z : ◌≡◌ {A = ℕ} 0 1 = cc in omega arith)
is_flush_lem line (some (flush l)) = elim (ℕ_discrete l line) [ yes q ↦ yes (ap (λ k. some (flush k)) q) | no n ↦ no (λ q. let e : l ≡ line = cc in n e) ]

flushed_to : (es : List Entry) (top line : ℕ) → (b : ℕ) × FlushedTo es top line b
flushed_to es zero line = (0, record { at = inl refl; within = omega arith; none = λ j g h. absurd (omega arith) })
flushed_to es (suc k) line = elim (is_flush_lem line (get_elem? es k)) [
  | yes q ↦ (suc k, record { at = inr (k, refl, q); within = omega arith; none = λ j g h. absurd (omega arith) })
  | no n ↦ let r = flushed_to es k line in (
    r.0,
    record {
      at = r.1.at;
      within = omega (arith, r.1.within);
      none = λ j g h. elim (dec_lt j k) [ yes l ↦ r.1.none j g l | no m ↦ let q : j ≡ k = omega arith in rw q n ];
    },
  )
]

-- among the first k: what a barrier has followed is up to the last barrier
to_last : (es : List Entry) (k top line b : ℕ) → LastBarrier es k top → FlushedTo es top line b → LastFlush es k line b
to_last es k top line b l f = record {
  flushed_at = elim f.at [
    | inl q ↦ inl q
    | inr t ↦ elim l.passed_at [
      | inl z ↦ absurd (omega (arith, t.1, f.within))
      | inr p ↦ inr (t.0, p.0, t.1, t.2, let n = apart es t.0 p.0 t.2 p.2 flush_barrier in omega (arith, t.1, p.1, f.within, n), omega (arith, p.1, l.within), p.2)
    ]
  ];
  within = omega (arith, f.within, l.within);
  none_since = λ c d g q h w z. elim (dec_lt d top) [ yes y ↦ f.none c g (omega arith) q | no y ↦ l.none_since d (omega arith) w z ];
}

from_last : (es : List Entry) (k top line b : ℕ) → LastBarrier es k top → LastFlush es k line b → FlushedTo es top line b
from_last es k top line b l f = record {
  at = elim f.flushed_at [ inl q ↦ inl q | inr t ↦ inr (t.0, t.2, t.3) ];
  within = elim f.flushed_at [
    | inl q ↦ omega arith
    | inr t ↦ elim (dec_lt t.1 top) [ yes y ↦ omega (arith, t.2, t.4) | no y ↦ absurd (l.none_since t.1 (omega arith) t.5 t.6) ]
  ];
  none = λ j g h q. elim l.passed_at [
    | inl z ↦ absurd (omega arith)
    | inr p ↦ let n = apart es j p.0 q p.2 flush_barrier in f.none_since j p.0 g q (omega (arith, p.1, n)) (omega (arith, p.1, l.within)) p.2
  ];
}

last_flush : (es : List Entry) (k line : ℕ) → (b : ℕ) × LastFlush es k line b
last_flush es k line = let l = crash_laws.last_barrier es k in let f = flushed_to es l.0 line in (f.0, to_last es k l.0 line f.0 l.1 f.1)

-- ---- what is up to it and since it

record Parts (es : List Entry) (k line b : ℕ) : Type 0 where
  up_to : flushed line (fenced (take k es)) ≡ take b es
  after : unflushed line (fenced (take k es)) ++ unfenced (take k es) ≡ drop b (take k es)

drop_two : (es : List Entry) (b top k : ℕ) → b ≤ top → top ≤ k → drop b (take top es) ++ drop top (take k es) ≡ drop b (take k es)
drop_two es zero top k h g = rw (← take-take top k es g) (take-append-drop top (take k es))
drop_two [] (suc b) top k h g = simp (take-nil, drop-nil)
drop_two (e ∷ es) (suc b) zero k h g = absurd (omega arith)
drop_two (e ∷ es) (suc b) (suc top) zero h g = absurd (omega arith)
drop_two (e ∷ es) (suc b) (suc top) (suc k) h g = drop_two es b top k (omega arith) (omega arith)

parts : (es : List Entry) (k line b : ℕ) → LastFlush es k line b → Parts es k line b
unfolding has_flush is_flush flushed unflushed
parts es k line b f =
    let lb = crash_laws.last_barrier es k in
    let top = lb.0 in
    let g = from_last es k top line b lb.1 f in
    let p = fenced_at es k top lb.1 in
    let rest = drop b (take top es) in
    let two : take top es ≡ take b es ++ rest = sym (rw (take-take b top es g.within) at (take-append-drop b (take top es))) in
    let none = no_flush_of line rest (λ x. let r = number_of es b top x in g.none r.0 r.1 r.2 r.3) in
    let one : has_flush line (flush line ∷ []) ≡ true = rw (eq-eqb line line refl) refl in
    let whole : flushed line (take b es) ≡ take b es = elim g.at [
      | inl z ↦ rw z refl
      | inr t ↦ rw (t.1, take_through es t.0 t.2) (flushed_later line (take t.0 es) (flush line ∷ []) one ∙ rw (eq-eqb line line refl) refl)
    ] in
    let empty : unflushed line (take b es) ≡ [] = elim g.at [
      | inl z ↦ rw z refl
      | inr t ↦ rw (t.1, take_through es t.0 t.2) (flush_later line (take t.0 es) (flush line ∷ []) one ∙ rw (eq-eqb line line refl) refl)
    ] in
    record {
      up_to = ap (flushed line) (p.up_to ∙ two) ∙ not_flushed_later line (take b es) rest none ∙ whole;
      after = rw (p.up_to, p.after) (ap (λ t. t ++ drop top (take k es)) (ap (unflushed line) two ∙ no_flush_later line (take b es) rest none ∙ ap (λ t. t ++ rest) empty)
          ∙ drop_two es b top k g.within lb.1.within);
    }

-- ---- choices

abbrev Possible : List ℕ → List Entry → ℕ → ℕ → Type 0
Possible m t i v = (v ≡ reads (apply m (flushed (line_of i) (fenced t))) i) ⊎ Memᴰ (store i v) (unflushed (line_of i) (fenced t) ++ unfenced t)

chosen : (m : List ℕ) (es : List Entry) (k b i v : ℕ) → LastFlush es k (line_of i) b → Choice m es b k i v ↔ Possible m (take k es) i v
chosen m es k b i v l = let f = parts es k (line_of i) b l in (
  λ c. rw (f.up_to, f.after) (choice_means m es b k i c),
  λ p. elim (rw (f.up_to, f.after) at p) [
    | inl q ↦ rw q old
    | inr x ↦ let r = number_of es b k x in new r.0 (record { since = r.1; before = r.2; entry = r.3 })
  ],
)

only_chosen : (m : List ℕ) (es : List Entry) (k b : ℕ) (m' : List ℕ) (i : ℕ) → LastFlush es k (line_of i) b → FlushCrash m es k m'
    → Choice m es b k i (reads m' i)
only_chosen m es k b m' i l c = (chosen m es k b i (reads m' i) l).1 (c.each i)

possible : (m : List ℕ) (es : List Entry) (k : ℕ) (b : ℕ → ℕ) → k ≤ length es → ((line : ℕ) → LastFlush es k line (b line))
    → (f : ℕ → ℕ) → ((i : ℕ) → i < length m → Choice m es (b (line_of i)) k i (f i)) → FlushCrash m es k (image (length m) f)
possible m es k b h l f c = record {
  within = h;
  same_length = length_image (length m) f;
  each = λ i. elim (dec_lt i (length m)) [
    | yes g ↦ rw (reads_image (length m) f i g) ((chosen m es k (b (line_of i)) i (f i) (l (line_of i))).0 (c i g))
    | no g ↦ let up = flushed (line_of i) (fenced (take k es)) in
        inl (get_or-eq_default (image (length m) f) 0 (omega (arith, length_image (length m) f))
        ∙ sym (get_or-eq_default (apply m up) 0 (omega (arith, length_apply m up))))
  ];
}

lasts : (es : List Entry) (k b i v j : ℕ) → LastFlush es k (line_of i) b → j < k → get_elem? es j ≡ some (store i v)
    → (j < b) ↔ Lasts es k (line_of i) j
lasts es k b i v j l h e = (
  λ w. elim l.flushed_at [
    | inl q ↦ absurd (omega arith)
    | inr t ↦ let n = apart es t.0 j t.3 e flush_store in record {
      flush_at = t.0;
      barrier_at = t.1;
      after = omega (arith, t.2, n);
      flushes = t.3;
      followed = t.4;
      fences = t.6;
      before = t.5;
    }
  ],
  λ x. elim (dec_lt j b) [ yes w ↦ w | no w ↦ absurd (l.none_since x.flush_at x.barrier_at (omega (arith, x.after)) x.flushes x.followed x.before x.fences) ],
)

untranslated : (m : List ℕ) (es : List Entry) (k : ℕ) → NoFlush es → k ≤ length es → FlushCrash m es k m
unfolding apply
untranslated m es k n w = record {
  within = w;
  same_length = refl;
  each = λ i.
      let t = take k es in
      let none = no_flush_of (line_of i) (fenced t) (λ x. n (line_of i) (mem_take k es (rw rejoined at (mathlib.Core.List.Memᴰ.append_left (unfenced t) x)))) in
      inl (rw (none_flushed (line_of i) (fenced t) none) refl);
}

pub flush_crash_laws : FlushCrashLaws
flush_crash_laws = record {
  eight_words = λ i l. (λ q. (omega arith, omega arith), λ h. omega (arith, h.0, h.1));
  untranslated = untranslated;
  last_flush = last_flush;
  lasts = lasts;
  possible = possible;
  only_chosen = only_chosen;
}

-- ---- an operation that writes the image itself

-- with no entry carried out the image is as it was
none_carried : (m m' : List ℕ) → FlushCrash m [] 0 m' → m' ≡ m
unfolding apply fenced unfenced flushed unflushed
none_carried m m' c = ext_get_or 0 m' m c.same_length (λ i w. elim (c.each i) [ inl q ↦ q | inr x ↦ absurd (mathlib.Core.List.Memᴰ.not-nil x) ])

-- what was carried out, parted at the last flush of a line that a barrier has followed
parted : (l : ℕ) (t : List Entry) → flushed l (fenced t) ++ (unflushed l (fenced t) ++ unfenced t) ≡ t
parted l t = sym (append_assoc (flushed l (fenced t)) (unflushed l (fenced t)) (unfenced t)) ∙ rw (flush_rejoined l (fenced t)) (rejoined t)

-- a word as carried out is among what may be left
as_carried_out : (m t : List ℕ) (es : List Entry) (i : ℕ) → t ≡ apply m es → Possible m es i (reads t i)
as_carried_out m t es i q =
    let up = flushed (line_of i) (fenced es) in
    let rest = unflushed (line_of i) (fenced es) ++ unfenced es in
    let parts : t ≡ apply (apply m up) rest = q ∙ ap (apply m) (sym (parted (line_of i) es)) ∙ apply_append m up rest in
    rw parts (content (apply m up) rest i)

-- whatever is left in a word is old or stored
old_or_stored : (m : List ℕ) (es : List Entry) (k : ℕ) (m' : List ℕ) (i : ℕ) → FlushCrash m es k m' → OldOrStored (reads m i) es i (reads m' i)
old_or_stored m es k m' i c =
    let t = take k es in
    let l = line_of i in
    let front : (e : Entry) → Memᴰ e (flushed l (fenced t)) → Memᴰ e es =
    λ e x. mem_take k es (rw (parted l t) at (mathlib.Core.List.Memᴰ.append_left (unflushed l (fenced t) ++ unfenced t) x)) in
    let back : (e : Entry) → Memᴰ e (unflushed l (fenced t) ++ unfenced t) → Memᴰ e es =
    λ e x. mem_take k es (rw (parted l t) at (mathlib.Core.List.Memᴰ.append_right (flushed l (fenced t)) x)) in
    elim (c.each i) [
      | inl q ↦ rw q (elim (content m (flushed l (fenced t)) i) [ inl p ↦ inl p | inr x ↦ inr (front _ x) ])
      | inr x ↦ inr (back _ x)
    ]

own_store : (seg : List Store) (lines : List ℕ) (i v : ℕ) → Memᴰ (store i v) (map flush lines ++ barrier ∷ []) → ⊥
own_store seg lines i v x = elim (mathlib.Core.List.Memᴰ.append_cases (map flush lines) x) [
  | inl y ↦ no_store_in lines i v y
  | inr y ↦ let q = mathlib.Core.List.Memᴰ.eq_of_singleton y in let e : ◌≡◌ {A = ℕ} 0 1 = cc in omega arith
]

torn : (m : List ℕ) (own : List Store) (lines : List ℕ) (k : ℕ) (m' : List ℕ) → FlushCrash m (flushed_after own lines) k m' → Torn m own m'
torn m own lines k m' c = record {
  same_length = c.same_length;
  each = λ i. elim (old_or_stored m (flushed_after own lines) k m' i c) [
    | inl q ↦ inl q
    | inr x ↦ elim (mathlib.Core.List.Memᴰ.append_cases (stores own) x) [ inl y ↦ inr (store_of own i (reads m' i) y) | inr y ↦ absurd (own_store own lines i (reads m' i) y) ]
  ];
}

apply_after : (m : List ℕ) (own : List Store) (lines : List ℕ) → apply m (flushed_after own lines) ≡ apply m (stores own)
unfolding apply
apply_after m own lines =
    apply_append m (stores own) (map flush lines ++ barrier ∷ []) ∙ apply_append (apply m (stores own)) (map flush lines) (barrier ∷ [])
    ∙ apply_flushes (apply m (stores own)) lines

-- no store is since the last flush of its line
own_settled : (m : List ℕ) (own : List Store) (lines : List ℕ) → EachLine m lines → Settled (length m) (flushed_after own lines)
own_settled m own lines cover = rw (← append_assoc (stores own) (map flush lines) (barrier ∷ [])) (ends_settled (length m) (stores own ++ map flush lines) (
    rw (append_assoc (stores own) (map flush lines) (barrier ∷ [])) (λ i v w x.
    let l = line_of i in
    let tail = map flush lines ++ barrier ∷ [] in
    let there : Memᴰ l lines = cover l (omega arith) in
    let has : has_flush l tail ≡ true = a_flush l tail (mathlib.Core.List.Memᴰ.append_left (barrier ∷ []) (mathlib.Core.List.Memᴰ.map flush there)) in
    own_store own lines i v (unflushed_of l tail (rw (flush_later l (stores own) tail has) at x)))))

own_next : (m : List ℕ) (own : List Store) (lines : List ℕ) (fs : List Entry) (k : ℕ) (m' : List ℕ) → EachLine m lines
    → FlushCrash m (flushed_after own lines ++ fs) (length (flushed_after own lines) + k) m' ↔ FlushCrash (apply m (stores own)) fs k m'
own_next m own lines fs k m' cover = rw (← apply_after m own lines) (next_script m (flushed_after own lines) fs k m' (own_settled m own lines cover))

-- with no script after it, that is the image then
lasting : (m : List ℕ) (own : List Store) (lines : List ℕ) (m' : List ℕ) → EachLine m lines
    → FlushCrash m (flushed_after own lines) (length (flushed_after own lines)) m' → m' ≡ apply m (stores own)
lasting m own lines m' cover c =
    let es = flushed_after own lines in
    let z : length es ≡ length es + 0 = omega arith in
    let c' : FlushCrash m (es ++ []) (length es + 0) m' = rw (append-nil es, ← z) c in
    none_carried (apply m (stores own)) m' ((own_next m own lines [] 0 m' cover).0 c')

-- the flushes are those of the lines
own_flush : (own : List Store) (lines : List ℕ) {l : ℕ} → Memᴰ (flush l) (flushed_after own lines) → Memᴰ l lines
unfolding stores
own_flush own lines {l} x = elim (mathlib.Core.List.Memᴰ.append_cases (stores own) x) [
  | inl y ↦ let q = (mathlib.Core.List.Memᴰ.of_map (λ (s : Store). store s.0 s.1) own y).2 in let z : ◌≡◌ {A = ℕ} 0 1 = cc in absurd (omega arith)
  | inr y ↦ elim (mathlib.Core.List.Memᴰ.append_cases (map flush lines) y) [
    | inl w ↦ let p = mathlib.Core.List.Memᴰ.of_map flush lines w in let q : p.0 ≡ l = cc p.2 in rw (← q) p.1
    | inr w ↦ let q = mathlib.Core.List.Memᴰ.eq_of_singleton w in let z : ◌≡◌ {A = ℕ} 0 1 = cc in absurd (omega arith)
  ]
]

-- a word set to what another image of the same length has there
pub old_content : (m after : List ℕ) (i : ℕ) → length after ≡ length m → reads (set after i (reads m i)) i ≡ reads m i
old_content m after i l = elim (dec_lt i (length after)) [
  | yes w ↦ get_or-set_same after i (reads m i) 0 w
  | no w ↦ rw (set_out after i (reads m i) (omega arith))
      (get_or-eq_default after 0 (omega arith) ∙ sym (get_or-eq_default m 0 (omega arith)))
]

-- a word whose line was never flushed may have its old content; the others are as carried out
left_out : (m : List ℕ) (own : List Store) (lines : List ℕ) (i : ℕ) → (Memᴰ (line_of i) lines → ⊥)
    → FlushCrash m (flushed_after own lines) (length (flushed_after own lines)) (set (apply m (stores own)) i (reads m i))
unfolding apply
left_out m own lines i out =
    let es = flushed_after own lines in
    let after = apply m (stores own) in
    let left = set after i (reads m i) in
    let none = no_flush_of (line_of i) (fenced es) (λ x. out (own_flush own lines (rw rejoined at (mathlib.Core.List.Memᴰ.append_left (unfenced es) x)))) in
    record {
      within = omega arith;
      same_length = length-set after i (reads m i) ∙ length_apply m (stores own);
      each = rw (take-length es) (λ j. elim (ℕ_discrete j i) [
        | no n ↦ rw (get_or-set_other after i j (reads m i) 0 n) (as_carried_out m after es j (sym (apply_after m own lines)))
        | yes q ↦ inl (rw (q, none_flushed (line_of i) (fenced es) none) (old_content m after i (length_apply m (stores own))))
      ]);
    }

-- or any of the stores to it
pub any_store : (m : List ℕ) (own : List Store) (lines : List ℕ) (i v : ℕ) → (Memᴰ (line_of i) lines → ⊥) → i < length m → Memᴰ (store i v) (stores own)
    → FlushCrash m (flushed_after own lines) (length (flushed_after own lines)) (set (apply m (stores own)) i v)
any_store m own lines i v out w x =
    let es = flushed_after own lines in
    let after = apply m (stores own) in
    let l : length after ≡ length m = length_apply m (stores own) in
    let none = no_flush_of (line_of i) (fenced es) (λ x. out (own_flush own lines (rw rejoined at (mathlib.Core.List.Memᴰ.append_left (unfenced es) x)))) in
    let all : unflushed (line_of i) (fenced es) ≡ fenced es = sym (ap (λ fs. fs ++ unflushed (line_of i) (fenced es)) (none_flushed (line_of i) (fenced es) none)) ∙ flush_rejoined (line_of i) (fenced es) in
    let there : Memᴰ (store i v) es = mathlib.Core.List.Memᴰ.append_left (map flush lines ++ barrier ∷ []) x in
    record {
      within = omega arith;
      same_length = length-set after i v ∙ l;
      each = rw (take-length es) (λ j. elim (ℕ_discrete j i) [
        | no n ↦ rw (get_or-set_other after i j v 0 n) (as_carried_out m after es j (sym (apply_after m own lines)))
        | yes q ↦ inr (rw (q, get_or-set_same after i v 0 (omega arith), all, rejoined) there)
      ]);
    }

pub own_writes_laws : OwnWritesLaws
own_writes_laws = record {
  each_line = λ m lines. (λ h i w. h (line_of i) (omega arith), λ h l w. let q : line_of (8 * l) ≡ l = omega arith in rw q at (h (8 * l) w));
  torn = torn;
  lasting = lasting;
  next_script = own_next;
  left_out = left_out;
}
