-- Laws of a script's words: written, read back, lent on.
use mathlib.Core.Path.{◌≡◌, refl, ap}
use mathlib.Core.Logic.{inl, inr, ◌≢◌}
use mathlib.Core.Option.{Option, none, some}
use mathlib.Core.List.Memᴰ
use mathlib.Core.List.{List, [], ◌∷◌, ◌++◌, append_assoc}
use Prim.Native.Nat.{ℕ, ◌+◌, ◌-◌, ◌*◌, ◌%◌, ◌≤◌, ◌<◌}
use native.Mathlib.Omega.{arith}
use native.Mathlib.Decide.{dec_lt, ℕ_discrete}
use lib.ListN.{length, take, drop, set, length-append, length-drop}
use lib.Seq.{take_at, drop_at, drop-drop}
use borrow.Author.Tests.{eq-eqb, ne_eqb, lt-ltb, le-ltb}
use borrow.Rule.Slice.PartMut.{mid_of, put_mid}
use Rattle.slices.proofs.Rest.{rest_lent, rest_back}
use Rattle.memory.specs.Script.{Entry, store, barrier, flush, barrier_word, flush_word, encode, written, entry_of, onto, decode, store_count, stores_in}
use Rattle.memory.specs.Crash.{apply}
use Rattle.memory.specs.Apply.{outcome, applied, carry_out}
use Rattle.memory.specs.Laws.{Inside, ScriptLaws}

-- ---- written

length_encode : (es : List Entry) → length (encode es) ≡ 2 * length es
unfolding encode
length_encode [] = refl
length_encode (store i v ∷ es) = let h = length_encode es in omega arith
length_encode (barrier ∷ es) = let h = length_encode es in omega arith
length_encode (flush l ∷ es) = let h = length_encode es in omega arith

encode_append : (es fs : List Entry) → encode (es ++ fs) ≡ encode es ++ encode fs
unfolding encode
encode_append [] fs = refl
encode_append (store i v ∷ es) fs = ap (λ ws. i ∷ v ∷ ws) (encode_append es fs)
encode_append (barrier ∷ es) fs = ap (λ ws. barrier_word ∷ 0 ∷ ws) (encode_append es fs)
encode_append (flush l ∷ es) fs = ap (λ ws. flush_word ∷ l ∷ ws) (encode_append es fs)

length_written : (es : List Entry) (buffer : List ℕ) → 2 * length es ≤ length buffer → length (written es buffer) ≡ length buffer
unfolding written
length_written es buffer h = simp (length-append, length-drop) (omega (arith, length_encode es))

room_written : (es : List Entry) (buffer : List ℕ) → length (written es buffer) ≡ length buffer → 2 * length es ≤ length buffer
unfolding written
room_written es buffer h = omega (arith, length_encode es, length-append (encode es) (drop (2 * length es) buffer), length-drop (2 * length es) buffer)

-- the words written, and the rest of the buffer
take_written : (es : List Entry) (buffer : List ℕ) → take (2 * length es) (written es buffer) ≡ encode es
unfolding written
take_written es buffer = take_at (encode es) _ _ (length_encode es)

drop_written : (es : List Entry) (buffer : List ℕ) → drop (2 * length es) (written es buffer) ≡ drop (2 * length es) buffer
unfolding written
drop_written es buffer = drop_at (encode es) _ _ (length_encode es)

written_append : (es fs : List Entry) (buffer : List ℕ)
    → take (2 * length es) (written es buffer) ++ written fs (drop (2 * length es) (written es buffer)) ≡ written (es ++ fs) buffer
unfolding written
written_append es fs buffer =
    let two : 2 * length (es ++ fs) ≡ 2 * length es + 2 * length fs = simp length-append (omega arith) in
    rw (take_written es buffer, drop_written es buffer, two, encode_append es fs, ← drop-drop (2 * length fs) (2 * length es) buffer, append_assoc) refl

-- the rest of the buffer is lent on, and more is written there
pub written_rest : (es fs : List Entry) (n : ℕ) (buffer xs ys : List ℕ) → 2 * length es ≡ n → xs ≡ written es buffer
    → ys ≡ written fs (mid_of n (length xs - n) xs) → put_mid n (length xs - n) xs ys ≡ written (es ++ fs) buffer
written_rest es fs n buffer xs ys l ex ey = rw (rest_back n xs ys, ey, rest_lent n xs, ex, ← l) (written_append es fs buffer)

-- two words set at the start
pub set_two : (buffer : List ℕ) (a b : ℕ) → 2 ≤ length buffer → set (set buffer 0 a) 1 b ≡ a ∷ b ∷ drop 2 buffer
set_two [] a b h = absurd (omega arith)
set_two (x ∷ []) a b h = absurd (omega arith)
set_two (x ∷ y ∷ ws) a b h = refl

-- ---- read back

entry_barrier : (n : ℕ) → entry_of n barrier_word 0 ≡ some barrier
unfolding entry_of
entry_barrier n = refl

entry_flush : (n l : ℕ) → entry_of n flush_word l ≡ some (flush l)
unfolding entry_of
entry_flush n l = refl

entry_store : (n i v : ℕ) → i < n → i ≢ barrier_word → i ≢ flush_word → entry_of n i v ≡ some (store i v)
unfolding entry_of
entry_store n i v l h f = rw (ne_eqb i barrier_word h, ne_eqb i flush_word f, lt-ltb i n l)

read_back : (n : ℕ) (es : List Entry) → Inside n es → decode n (encode es) ≡ some es
unfolding encode decode
read_back n [] h = refl
read_back n (store i v ∷ es) h =
    let in_image = h i v (Memᴰ.head refl) in
    rw (entry_store n i v in_image.0 in_image.1 in_image.2, read_back n es (λ j u x. h j u (Memᴰ.tail x))) refl
read_back n (barrier ∷ es) h = rw (entry_barrier n, read_back n es (λ j u x. h j u (Memᴰ.tail x))) refl
read_back n (flush l ∷ es) h = rw (entry_flush n l, read_back n es (λ j u x. h j u (Memᴰ.tail x))) refl

none_some : {A X : Type 0} {a : A} → none ≡ some a → X
none_some q = let never : ◌≡◌ {A = ℕ} 0 1 = cc in absurd (omega arith)

-- two words that are an entry: which one
pub data Reads (n i v : ℕ) : Entry → Type 0 where
  as_barrier : i ≡ barrier_word → v ≡ 0 → Reads n i v barrier
  as_flush : i ≡ flush_word → Reads n i v (flush v)
  as_store : i < n → i ≢ barrier_word → i ≢ flush_word → Reads n i v (store i v)

pub entry_reads : (n i v : ℕ) (e : Entry) → entry_of n i v ≡ some e → Reads n i v e
unfolding entry_of
entry_reads n i v e q = elim (ℕ_discrete i barrier_word) [
  | yes b ↦ elim (ℕ_discrete v 0) [
    | yes z ↦ let is : some barrier ≡ some e = rw (eq-eqb i barrier_word b, eq-eqb v 0 z) at q in
        let same : barrier ≡ e = cc in rw (← same) (as_barrier b z)
    | no z ↦ none_some (rw (eq-eqb i barrier_word b, ne_eqb v 0 z) at q)
  ]
  | no b ↦ elim (ℕ_discrete i flush_word) [
    | yes f ↦ let is : some (flush v) ≡ some e = rw (ne_eqb i barrier_word b, eq-eqb i flush_word f) at q in
        let same : flush v ≡ e = cc in rw (← same) (as_flush f)
    | no f ↦ elim (dec_lt i n) [
      | yes l ↦ let is : some (store i v) ≡ some e = rw (ne_eqb i barrier_word b, ne_eqb i flush_word f, lt-ltb i n l) at q in
          let same : store i v ≡ e = cc in rw (← same) (as_store l b f)
      | no l ↦ none_some (rw (ne_eqb i barrier_word b, ne_eqb i flush_word f, le-ltb i n (omega arith)) at q)
    ]
  ]
]

-- entries that are there: the first and the others
onto_both : (o : Option Entry) (os : Option (List Entry)) (es : List Entry) → onto o os ≡ some es
    → (e : Entry) × (rest : List Entry) × (o ≡ some e) × (os ≡ some rest) × (es ≡ e ∷ rest)
onto_both none os es q = none_some q
onto_both (some e) none es q = none_some q
onto_both (some e) (some rest) es q = (e, rest, refl, refl, cc)

-- one more entry inside the image
inside_barrier : (n : ℕ) (es : List Entry) → Inside n es → Inside n (barrier ∷ es)
inside_barrier n es h i v x = elim (Memᴰ.cases_cons x) [
  | inl p ↦ let never : ◌≡◌ {A = ℕ} 0 1 = cc in absurd (omega arith)
  | inr y ↦ h i v y
]

inside_flush : (n l : ℕ) (es : List Entry) → Inside n es → Inside n (flush l ∷ es)
inside_flush n l es h i v x = elim (Memᴰ.cases_cons x) [
  | inl p ↦ let never : ◌≡◌ {A = ℕ} 0 1 = cc in absurd (omega arith)
  | inr y ↦ h i v y
]

inside_store : (n i v : ℕ) (es : List Entry) → i < n → i ≢ barrier_word → i ≢ flush_word → Inside n es → Inside n (store i v ∷ es)
inside_store n i v es l b f h j u x = elim (Memᴰ.cases_cons x) [ inl p ↦ let same : j ≡ i = cc in rw same (l, b, f) | inr y ↦ h j u y ]

was_encoded : (n : ℕ) (ws : List ℕ) (es : List Entry) → decode n ws ≡ some es → (encode es ≡ ws) × Inside n es
unfolding encode decode
was_encoded n [] es q =
    let none_left : es ≡ [] = cc in
    rw none_left (refl, λ i v x. absurd (Memᴰ.not-nil x))
was_encoded n (i ∷ []) es q = none_some q
was_encoded n (i ∷ v ∷ ws) es q =
    let b = onto_both (entry_of n i v) (decode n ws) es q in
    let ih = was_encoded n ws b.1 b.3 in
    rw b.4 (go b.0 b.1 (entry_reads n i v b.0 b.2) ih.0 ih.1)
  where
    go : (e : Entry) (rest : List Entry) → Reads n i v e → encode rest ≡ ws → Inside n rest
        → (encode (e ∷ rest) ≡ i ∷ v ∷ ws) × Inside n (e ∷ rest)
    go barrier rest (as_barrier b z) h k = (rw (h, b, z) refl, inside_barrier n rest k)
    go (flush v) rest (as_flush f) h k = (rw (h, f) refl, inside_flush n v rest k)
    go (store i v) rest (as_store l b f) h k = (rw h refl, inside_store n i v rest l b f k)

refused : (m ws : List ℕ) → ((es : List Entry) → Inside (length m) es → encode es ≡ ws → ⊥) → carry_out m ws ≡ outcome 3 m
unfolding carry_out
refused m ws h = go (decode (length m) ws) refl
  where
    go : (o : Option (List Entry)) → decode (length m) ws ≡ o → applied m o ≡ outcome 3 m
    go none q = refl
    go (some es) q = let e = was_encoded (length m) ws es q in absurd (h es e.1 e.0)

stores_counted : (n : ℕ) (es : List Entry) → Inside n es → stores_in (encode es) ≡ store_count es
unfolding encode store_count stores_in
stores_counted n [] h = refl
stores_counted n (store i v ∷ es) h =
    let in_image = h i v (Memᴰ.head refl) in
    rw (ne_eqb i barrier_word in_image.1, ne_eqb i flush_word in_image.2, stores_counted n es (λ j u x. h j u (Memᴰ.tail x))) refl
stores_counted n (barrier ∷ es) h = stores_counted n es (λ j u x. h j u (Memᴰ.tail x))
stores_counted n (flush l ∷ es) h = stores_counted n es (λ j u x. h j u (Memᴰ.tail x))

-- ---- a flush is skipped

-- words read in two ways: neither is a script, or both are and do the same
data SameWork : Option (List Entry) → Option (List Entry) → Type 0 where
  neither : SameWork none none
  both : {es fs : List Entry} → ((m : List ℕ) → apply m es ≡ apply m fs) → SameWork (some es) (some fs)

same_after : (e : Entry) (es fs : List Entry) → ((m : List ℕ) → apply m es ≡ apply m fs) → (m : List ℕ) → apply m (e ∷ es) ≡ apply m (e ∷ fs)
unfolding apply
same_after (store i v) es fs h m = h (set m i v)
same_after barrier es fs h m = h m
same_after (flush l) es fs h m = h m

one_more : (o : Option Entry) {a b : Option (List Entry)} → SameWork a b → SameWork (onto o a) (onto o b)
one_more none w = neither
one_more (some e) neither = neither
one_more (some e) (both {es = es} {fs = fs} h) = both (same_after e es fs h)

flush_first : (o : Option (List Entry)) (l : ℕ) → SameWork (onto (some (flush l)) o) o
unfolding apply
flush_first none l = neither
flush_first (some es) l = both (λ m. refl)

skips : (n : ℕ) (ws vs : List ℕ) (l : ℕ) → length ws % 2 ≡ 0 → SameWork (decode n (ws ++ flush_word ∷ l ∷ vs)) (decode n (ws ++ vs))
unfolding decode
skips n [] vs l h = rw (entry_flush n l) (flush_first (decode n vs) l)
skips n (i ∷ []) vs l h = absurd (omega arith)
skips n (i ∷ v ∷ ws) vs l h = one_more (entry_of n i v) (skips n ws vs l (omega arith))

same_outcome : (m : List ℕ) {a b : Option (List Entry)} → SameWork a b → applied m a ≡ applied m b
same_outcome m neither = refl
same_outcome m (both h) = ap (outcome 0) (h m)

flush_skipped : (m ws vs : List ℕ) (l : ℕ) → length ws % 2 ≡ 0 → carry_out m (ws ++ flush_word ∷ l ∷ vs) ≡ carry_out m (ws ++ vs)
unfolding carry_out
flush_skipped m ws vs l h = same_outcome m (skips (length m) ws vs l h)

pub script_laws : ScriptLaws
unfolding apply decode carry_out encode
script_laws = record {
  none_words = refl;
  store_words_lem = λ i v es. refl;
  barrier_words = λ es. refl;
  flush_words = λ line es. refl;
  length_encode = length_encode;
  read_back = read_back;
  flush_skipped = flush_skipped;
  was_encoded = was_encoded;
  no_words = λ n. refl;
  carried_out = λ m es h. ap (applied m) (read_back (length m) es h);
  none_carried_out = λ m. refl;
  refused = refused;
  written_append = written_append;
  length_written = length_written;
  room_written = room_written;
  take_written = take_written;
  drop_written = drop_written;
  stores_counted = stores_counted;
}
