-- The translator's other laws: what it leaves of a script, how long it is, which scripts it takes.
use mathlib.Core.Path.{◌≡◌, refl, sym, ◌∙◌, ap}
use mathlib.Core.Bool.{true, false}
use mathlib.Core.Logic.{◌⊎◌, inl, inr, ◌↔◌, ◌≢◌}
use mathlib.Core.Option.{Option, none, some}
use mathlib.Core.List.Memᴰ
use mathlib.Core.List.{List, [], ◌∷◌, ◌++◌, map, map-append, append_assoc, append-nil, Memᴰ}
use Prim.Native.Nat.{ℕ, ◌-◌, ◌^◌, ◌+◌, ◌*◌, ◌≤◌}
use native.Mathlib.Omega.{arith}
use native.Mathlib.Decide.{ℕ_discrete}
use lib.ListN.{length, replicate, length-append, length-map}
use lib.Seq.{take-length, append_snoc}
use lib.Dec.{eqb, ltb}
use borrow.Author.Tests.{eq-eqb, ne_eqb, le-ltb, ltb-false}
use Rattle.memory.specs.Script.{Entry, store, barrier, flush, encode, entry_of, decode, written, store_count, Store, stores, segmented}
use Rattle.memory.specs.Crash.{apply, has_barrier, fenced, unfenced, CrashImage}
use Rattle.memory.specs.Laws.{Inside}
use Rattle.flushes.specs.Crash.{line_of, unflushed, FlushCrash}
use Rattle.flushes.specs.Translate.{lines_in, without, firsts, flushes, translated_from, translated, unflushing, as_far, any_flush, ends_fenced, translation, translated_into, translate}
use Rattle.flushes.specs.Laws.{NoFlush, EndsFenced, TranslatorLaws}
use Rattle.memory.proofs.Laws.{test, clash, apply_append, script_laws, crash_laws, barrier_later}
use Rattle.flushes.proofs.Translated.{line_of_lem, no_store_in, both_modules, refines, as_possible, same_entries, so_far, passed_alike, covers}
use Rattle.flushes.proofs.Next.{Settled, next_script}

-- ---- all of it carried out

fenced_done : (m : List ℕ) (es : List Entry) (m' : List ℕ) → EndsFenced es → CrashImage m es (length es) m' ↔ (m' ≡ apply m es)
unfolding apply
fenced_done m es m' (inl q) = rw q (crash_laws.none_yet m [] m')
fenced_done m es m' (inr t) = rw t.1 (crash_laws.all_done m t.0 m')

all_lasting : (m : List ℕ) (es : List Entry) (m' : List ℕ) → NoFlush es → EndsFenced es
    → FlushCrash m (translated es) (length (translated es)) m' ↔ (m' ≡ apply m es)
unfolding as_far
all_lasting m es m' n e =
    let far : as_far es (length (translated es)) ≡ length es = ap (λ t. length (unflushing t)) (take-length (translated es)) ∙ ap length (same_entries es n) in
    let a = both_modules m es (length (translated es)) m' n (omega arith) in
    let b = fenced_done m es m' e in
    (λ x. b.0 (rw far at (a.0 x)), λ q. a.1 (rw far (b.1 q)))

-- ---- word for word

first_from : (since ds es : List Entry) → NoFlush ds → (Memᴰ barrier ds → ⊥)
    → translated_from since (ds ++ barrier ∷ es) ≡ ds ++ (flushes (since ++ ds) ++ barrier ∷ translated_from [] es)
unfolding translated_from
first_from since [] es n b = rw (append-nil since) refl
first_from since (store i v ∷ ds) es n b =
    ap (λ t. store i v ∷ t) (first_from (since ++ store i v ∷ []) ds es (λ l x. n l (Memᴰ.tail x)) (λ x. b (Memᴰ.tail x))
    ∙ ap (λ t. ds ++ (flushes t ++ barrier ∷ translated_from [] es)) (append_snoc since (store i v) ds))
first_from since (barrier ∷ ds) es n b = absurd (b (Memᴰ.head refl))
first_from since (flush l ∷ ds) es n b = absurd (n l (Memᴰ.head refl))

-- ---- the next script

ends_from : (since ds : List Entry) → (ts : List Entry) × (translated_from since (ds ++ barrier ∷ []) ≡ ts ++ barrier ∷ [])
unfolding translated_from
ends_from since [] = (flushes since, refl)
ends_from since (store i v ∷ ds) = let r = ends_from (since ++ store i v ∷ []) ds in (store i v ∷ r.0, ap (λ t. store i v ∷ t) r.1)
ends_from since (barrier ∷ ds) = let r = ends_from [] ds in
    (flushes since ++ barrier ∷ r.0, ap (λ t. flushes since ++ barrier ∷ t) r.1 ∙ sym (append_assoc (flushes since) (barrier ∷ r.0) (barrier ∷ [])))
ends_from since (flush l ∷ ds) = let r = ends_from since ds in (flush l ∷ r.0, ap (λ t. flush l ∷ t) r.1)

settled : (n : ℕ) (es : List Entry) → NoFlush es → EndsFenced es → Settled n (translated es)
unfolding translated translated_from has_barrier fenced unfenced unflushed
settled n es f (inl q) = rw q (record { up_to = refl; after = refl; none = λ i v l x. Memᴰ.not-nil x })
settled n es f (inr t) =
    let r = ends_from [] t.0 in
    let same : translated es ≡ r.0 ++ barrier ∷ [] = ap (translated_from []) t.1 ∙ r.1 in
    let covered = rw (take-length (translated es)) at (covers es (length (translated es)) f) in
    let whole : fenced (translated es) ≡ translated es = rw same (barrier_later r.0 (barrier ∷ []) refl).up_to in
    let none : (i v : ℕ) → Memᴰ (store i v) (unflushed (line_of i) (translated es)) → ⊥ = rw whole at covered.none in
    record { up_to = whole; after = rw same (barrier_later r.0 (barrier ∷ []) refl).after; none = λ i v l x. none i v x }

-- ---- carried out, and inside

pub apply_flushes : (m : List ℕ) (ls : List ℕ) → apply m (map flush ls) ≡ m
unfolding apply
apply_flushes m [] = refl
apply_flushes m (l ∷ ls) = apply_flushes m ls

apply_from : (m : List ℕ) (since es : List Entry) → apply m (translated_from since es) ≡ apply m es
unfolding apply translated_from flushes
apply_from m since [] = refl
apply_from m since (store i v ∷ es) = apply_from _ (since ++ store i v ∷ []) es
apply_from m since (barrier ∷ es) =
    apply_append m (map flush (firsts (lines_in since))) (barrier ∷ translated_from [] es) ∙ rw (apply_flushes m (firsts (lines_in since))) (apply_from m [] es)
apply_from m since (flush l ∷ es) = apply_from m since es

-- its stores are our stores
store_from : (since es : List Entry) (i v : ℕ) → Memᴰ (store i v) (translated_from since es) → Memᴰ (store i v) es
unfolding translated_from flushes
store_from since [] i v x = x
store_from since (store j u ∷ es) i v x = elim (Memᴰ.cases_cons x) [ inl q ↦ Memᴰ.head q | inr y ↦ Memᴰ.tail (store_from (since ++ store j u ∷ []) es i v y) ]
store_from since (barrier ∷ es) i v x = elim (Memᴰ.append_cases (flushes since) x) [
  | inl y ↦ absurd (no_store_in (firsts (lines_in since)) i v y)
  | inr y ↦ elim (Memᴰ.cases_cons y) [ inl q ↦ Memᴰ.head q | inr z ↦ Memᴰ.tail (store_from [] es i v z) ]
]
store_from since (flush l ∷ es) i v x = elim (Memᴰ.cases_cons x) [ inl q ↦ Memᴰ.head q | inr y ↦ Memᴰ.tail (store_from since es i v y) ]

-- ---- each line once

without_append : (l : ℕ) (ks js : List ℕ) → without l (ks ++ js) ≡ without l ks ++ without l js
unfolding without
without_append l [] js = refl
without_append l (k ∷ ks) js = elim (test (eqb k l)) [ inl q ↦ rw q (without_append l ks js) | inr q ↦ rw q (ap (λ t. k ∷ t) (without_append l ks js)) ]

pub first_more : (ls : List ℕ) (l : ℕ) → (Memᴰ l ls → ⊥) → firsts (ls ++ l ∷ []) ≡ firsts ls ++ l ∷ []
unfolding firsts without
first_more [] l h = refl
first_more (k ∷ ls) l h =
    let ih = first_more ls l (λ x. h (Memᴰ.tail x)) in
    rw (ih, without_append k (firsts ls) (l ∷ []), ne_eqb l k (λ q. h (Memᴰ.head q))) refl

pub first_again : (ls : List ℕ) (l : ℕ) → Memᴰ l ls → firsts (ls ++ l ∷ []) ≡ firsts ls
unfolding firsts without
first_again [] l x = absurd (Memᴰ.not-nil x)
first_again (k ∷ ls) l x = elim (mem? ls l) [
  | inl y ↦ rw (first_again ls l y) refl
  | inr n ↦
      let q : l ≡ k = elim (Memᴰ.cases_cons x) [ inl q ↦ q | inr y ↦ absurd (n y) ] in
      rw (first_more ls l n, without_append k (firsts ls) (l ∷ []), eq-eqb l k q) (ap (λ t. k ∷ t) (append-nil (without k (firsts ls))))
]
  where
    mem? : (ls : List ℕ) (l : ℕ) → Memᴰ l ls ⊎ (Memᴰ l ls → ⊥)
    mem? [] l = inr Memᴰ.not-nil
    mem? (k ∷ ls) l = elim (ℕ_discrete l k) [
      | yes q ↦ inl (Memᴰ.head q)
      | no n ↦ elim (mem? ls l) [
        | inl y ↦ inl (Memᴰ.tail y)
        | inr o ↦ inr (λ x. elim (Memᴰ.cases_cons x) [ inl q ↦ n q | inr y ↦ o y ])
      ]
    ]

lines_snoc : (es : List Entry) (i v : ℕ) → lines_in (es ++ store i v ∷ []) ≡ lines_in es ++ line_of i ∷ []
unfolding lines_in
lines_snoc [] i v = refl
lines_snoc (store j u ∷ es) i v = ap (λ t. line_of j ∷ t) (lines_snoc es i v)
lines_snoc (barrier ∷ es) i v = lines_snoc es i v
lines_snoc (flush l ∷ es) i v = lines_snoc es i v

stored_line : (es : List Entry) (l : ℕ) → Memᴰ l (lines_in es) → (j u : ℕ) × Memᴰ (store j u) es × (line_of j ≡ l)
unfolding lines_in
stored_line [] l x = absurd (Memᴰ.not-nil x)
stored_line (store j u ∷ es) l x = elim (Memᴰ.cases_cons x) [
  | inl q ↦ (j, u, Memᴰ.head refl, sym q)
  | inr y ↦ let r = stored_line es l y in (r.0, r.1, Memᴰ.tail r.2, r.3)
]
stored_line (barrier ∷ es) l x = let r = stored_line es l x in (r.0, r.1, Memᴰ.tail r.2, r.3)
stored_line (flush k ∷ es) l x = let r = stored_line es l x in (r.0, r.1, Memᴰ.tail r.2, r.3)

none_stored : flushes [] ≡ []
unfolding flushes lines_in firsts
none_stored = refl

line_first : (es : List Entry) (i v : ℕ) → ((j u : ℕ) → Memᴰ (store j u) es → line_of j ≢ line_of i)
    → flushes (es ++ store i v ∷ []) ≡ flushes es ++ flush (line_of i) ∷ []
unfolding flushes
line_first es i v n =
    let new = first_more (lines_in es) (line_of i) (λ x. let r = stored_line es (line_of i) x in n r.0 r.1 r.2 r.3) in
    rw (lines_snoc es i v, new) (map-append flush (firsts (lines_in es)) (line_of i ∷ []))

line_again : (es : List Entry) (i v j u : ℕ) → Memᴰ (store j u) es → line_of j ≡ line_of i → flushes (es ++ store i v ∷ []) ≡ flushes es
unfolding flushes
line_again es i v j u x q =
    let old = first_again (lines_in es) (line_of i) (Memᴰ.cast (sym q) (line_of_lem es j u x)) in
    rw (lines_snoc es i v, old) refl

-- ---- how long it is

length_without : (l : ℕ) (ls : List ℕ) → length (without l ls) ≤ length ls
unfolding without
length_without l [] = omega arith
length_without l (k ∷ ls) = elim (test (eqb k l)) [ inl q ↦ rw q (omega (arith, length_without l ls)) | inr q ↦ rw q (omega (arith, length_without l ls)) ]

pub length_firsts : (ls : List ℕ) → length (firsts ls) ≤ length ls
unfolding firsts
length_firsts [] = omega arith
length_firsts (l ∷ ls) = omega (arith, length_without l (firsts ls), length_firsts ls)

length_lines : (es : List Entry) → length (lines_in es) ≤ length es
unfolding lines_in
length_lines [] = omega arith
length_lines (store i v ∷ es) = omega (arith, length_lines es)
length_lines (barrier ∷ es) = omega (arith, length_lines es)
length_lines (flush l ∷ es) = omega (arith, length_lines es)

pub length_flushes : (es : List Entry) → length (flushes es) ≤ length es
unfolding flushes
length_flushes es = rw (length-map (firsts (lines_in es)) flush) (omega (arith, length_firsts (lines_in es), length_lines es))

length_from : (since es : List Entry) → length (translated_from since es) ≤ length since + length es + store_count es
unfolding translated_from store_count
length_from since [] = omega arith
length_from since (store i v ∷ es) = omega (arith, length_from (since ++ store i v ∷ []) es, length-append since (store i v ∷ []))
length_from since (barrier ∷ es) = rw (length-append (flushes since) (barrier ∷ translated_from [] es)) (omega (arith, length_flushes since, length_from [] es))
length_from since (flush l ∷ es) = omega (arith, length_from since es)

count_fenced : (es : List Entry) → store_count (es ++ barrier ∷ []) ≤ length es
unfolding store_count
count_fenced [] = omega arith
count_fenced (store i v ∷ es) = omega (arith, count_fenced es)
count_fenced (barrier ∷ es) = omega (arith, count_fenced es)
count_fenced (flush l ∷ es) = omega (arith, count_fenced es)

short : (es : List Entry) → EndsFenced es → length es ≤ 25 → 2 * length (translated es) ≤ 98
unfolding translated translated_from
short es (inl q) h = rw q (omega arith)
short es (inr t) h =
    let l : length es ≡ length t.0 + 1 = ap length t.1 ∙ length-append t.0 (barrier ∷ []) in
    let s : store_count es ≤ length t.0 = rw t.1 (count_fenced t.0) in
    omega (arith, length_from [] es)

-- ---- which scripts it takes

no_flush : (es : List Entry) → NoFlush es → any_flush es ≡ false
unfolding any_flush
no_flush [] n = refl
no_flush (store i v ∷ es) n = no_flush es (λ l x. n l (Memᴰ.tail x))
no_flush (barrier ∷ es) n = no_flush es (λ l x. n l (Memᴰ.tail x))
no_flush (flush l ∷ es) n = absurd (n l (Memᴰ.head refl))

pub flush_free : (es : List Entry) → any_flush es ≡ false → NoFlush es
unfolding any_flush
flush_free [] h l x = Memᴰ.not-nil x
flush_free (store i v ∷ es) h l x = elim (Memᴰ.cases_cons x) [ inl q ↦ let z : ◌≡◌ {A = ℕ} 0 1 = cc in omega arith | inr y ↦ flush_free es h l y ]
flush_free (barrier ∷ es) h l x = elim (Memᴰ.cases_cons x) [ inl q ↦ let z : ◌≡◌ {A = ℕ} 0 1 = cc in omega arith | inr y ↦ flush_free es h l y ]
flush_free (flush k ∷ es) h l x = clash true refl h

fenced_end : (ds : List Entry) → ends_fenced (ds ++ barrier ∷ []) ≡ true
unfolding ends_fenced
fenced_end [] = refl
fenced_end (d ∷ []) = refl
fenced_end (d ∷ e ∷ ds) = fenced_end (e ∷ ds)

ends_fenced_lem : (es : List Entry) → EndsFenced es → ends_fenced es ≡ true
unfolding ends_fenced
ends_fenced_lem es (inl q) = rw q refl
ends_fenced_lem es (inr t) = rw t.1 (fenced_end t.0)

end_fenced : (es : List Entry) → ends_fenced es ≡ true → EndsFenced es
unfolding ends_fenced
end_fenced [] h = inl refl
end_fenced (store i v ∷ []) h = clash false h refl
end_fenced (barrier ∷ []) h = inr ([], refl)
end_fenced (flush l ∷ []) h = clash false h refl
end_fenced (e ∷ f ∷ es) h = elim (end_fenced (f ∷ es) h) [
  | inl q ↦ let z : ◌≡◌ {A = ℕ} 0 1 = cc in absurd (omega arith)
  | inr t ↦ inr (e ∷ t.0, ap (λ u. e ∷ u) t.1)
]

accepts : (n : ℕ) (es : List Entry) (buffer : List ℕ) → 98 ≤ length buffer → length es ≤ 25 → Inside n es → NoFlush es → EndsFenced es
    → translate n (encode es) buffer ≡ translation 0 (2 * length (translated es)) (written (translated es) buffer)
unfolding translate
accepts n es buffer b h i f e =
    rw (le-ltb (length buffer) 98 b, le-ltb 50 (length (encode es)) (omega (arith, script_laws.length_encode es)), script_laws.read_back n es i, no_flush es f, ends_fenced_lem es e) refl

refuses : (n : ℕ) (ws buffer : List ℕ)
    → ((es : List Entry) → 98 ≤ length buffer → length es ≤ 25 → Inside n es → NoFlush es → EndsFenced es → encode es ≡ ws → ⊥)
    → translate n ws buffer ≡ translation 3 0 buffer
unfolding translate
refuses n ws buffer h = elim (test (ltb (length buffer) 98)) [
  | inl a ↦ rw a refl
  | inr a ↦ elim (test (ltb 50 (length ws))) [
    | inl b ↦ rw (a, b) refl
    | inr b ↦ rw (a, b) (go (ltb-false (length buffer) 98 a) (ltb-false 50 (length ws) b) (decode n ws) refl)
  ]
]
  where
    go : 98 ≤ length buffer → length ws ≤ 50 → (o : Option (List Entry)) → decode n ws ≡ o → translated_into buffer o ≡ translation 3 0 buffer
    go a b none q = refl
    go a b (some es) q = let w = script_laws.was_encoded n ws es q in elim (test (any_flush es)) [
      | inl f ↦ rw f refl
      | inr f ↦ elim (test (ends_fenced es)) [
        | inl e ↦ absurd (h es a (omega (arith, script_laws.length_encode es, ap length w.0)) w.1 (flush_free es f) (end_fenced es e) w.0)
        | inr e ↦ rw (f, e) refl
      ]
    ]

-- ---- scripts in segments

no_flush_segmented : (segs : List (List Store)) → NoFlush (segmented segs)
unfolding segmented stores
no_flush_segmented [] l x = Memᴰ.not-nil x
no_flush_segmented (seg ∷ segs) l x = elim (Memᴰ.append_cases (stores seg) x) [
  | inl y ↦ let z : ◌≡◌ {A = ℕ} 0 1 = cc (Memᴰ.of_map _ seg y).2 in omega arith
  | inr y ↦ elim (Memᴰ.cases_cons y) [ inl q ↦ let z : ◌≡◌ {A = ℕ} 0 1 = cc in omega arith | inr w ↦ no_flush_segmented segs l w ]
]

fenced_segmented : (segs : List (List Store)) → EndsFenced (segmented segs)
unfolding segmented
fenced_segmented [] = inl refl
fenced_segmented (seg ∷ segs) = inr (elim (fenced_segmented segs) [
  | inl q ↦ (stores seg, rw q)
  | inr t ↦ (stores seg ++ barrier ∷ t.0, rw t.1 (sym (append_assoc (stores seg) (barrier ∷ t.0) (barrier ∷ []))))
])

nothing : translated [] ≡ []
unfolding translated translated_from
nothing = refl

in_numbers : translate 16 (9 ∷ 5 ∷ 0 ∷ 6 ∷ 10 ∷ 7 ∷ (2 ^ 64 - 1) ∷ 0 ∷ []) (replicate 98 3)
    ≡ translation 0 12 (9 ∷ 5 ∷ 0 ∷ 6 ∷ 10 ∷ 7 ∷ (2 ^ 64 - 2) ∷ 1 ∷ (2 ^ 64 - 2) ∷ 0 ∷ (2 ^ 64 - 1) ∷ 0 ∷ replicate 86 3)
unfolding translate decode entry_of any_flush ends_fenced translated translated_from flushes firsts without lines_in written encode
in_numbers = refl

pub translator_laws : TranslatorLaws
unfolding translated
translator_laws = record {
  in_numbers = in_numbers;
  refines = refines;
  as_possible = as_possible;
  same_entries = same_entries;
  so_far = so_far;
  passed_alike = passed_alike;
  all_lasting = all_lasting;
  applied_alike = λ m es. apply_from m [] es;
  nothing = nothing;
  first_barrier = λ ds es n b. first_from [] ds es n b;
  next_script = λ m es fs k m' n e. rw (← apply_from m [] es) (next_script m (translated es) fs k m' (settled (length m) es n e));
  inside_alike = λ n es h i v x. h i v (store_from [] es i v x);
  in_segments = λ segs. (no_flush_segmented segs, fenced_segmented segs);
  none_stored = none_stored;
  line_first = line_first;
  line_again = line_again;
  short = short;
  accepts = accepts;
  refuses = refuses;
}
