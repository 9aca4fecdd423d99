-- Stores as entries, and scripts in segments: their words, what they carry out.
use mathlib.Core.Path.{◌≡◌, refl, sym, ◌∙◌, ap}
use mathlib.Core.Bool.{Bool, true, false}
use mathlib.Core.Logic.{◌⊎◌, inl, inr}
use mathlib.Core.List.{List, [], ◌∷◌, ◌++◌, append_assoc, map-append}
use mathlib.Core.List.Memᴰ
use mathlib.Core.List.{Memᴰ}
use Prim.Native.Nat.{ℕ, ◌*◌}
use native.Mathlib.Omega.{arith}
use lib.ListN.{length, set, drop, length-append, length-map}
use Rattle.memory.specs.Script.{Entry, store, barrier, encode, written, Store, stores, segmented}
use Rattle.memory.specs.Crash.{apply, CrashImage, passed}
use Rattle.memory.specs.Laws.{entries, single, set_all, store_words, Torn, SegmentLaws}
use Rattle.memory.proofs.Cases.{clash}
use Rattle.memory.proofs.Stores.{length_apply, apply_append, content}
use Rattle.memory.proofs.Crash.{none_yet}

-- ---- stores alone

pub length_stores : (seg : List Store) → length (stores seg) ≡ length seg
unfolding stores
length_stores seg = length-map seg _

-- they are the pairs that they were made of
pub store_of : (seg : List Store) (i v : ℕ) → Memᴰ (store i v) (stores seg) → Memᴰ (i, v) seg
unfolding stores
store_of seg i v x = let r = Memᴰ.of_map _ seg x in let q : ◌≡◌ {A = Store} (i, v) (r.0.0, r.0.1) = cc r.2 in Memᴰ.cast q r.1

encode_stores : (seg : List Store) → encode (stores seg) ≡ store_words seg
unfolding encode stores
encode_stores [] = refl
encode_stores (s ∷ seg) = ap (λ ws. s.0 ∷ s.1 ∷ ws) (encode_stores seg)

stores_written : (seg : List Store) (buffer : List ℕ) → written (stores seg) buffer ≡ store_words seg ++ drop (2 * length seg) buffer
unfolding written
stores_written seg buffer = rw (encode_stores seg, length_stores seg) refl

apply_stores : (m : List ℕ) (seg : List Store) → apply m (stores seg) ≡ set_all m seg
unfolding apply stores
apply_stores m [] = refl
apply_stores m (s ∷ seg) = apply_stores (set m s.0 s.1) seg

-- carried out whole is one way to be torn
pub torn_whole : (m : List ℕ) (seg : List Store) → Torn m seg (apply m (stores seg))
torn_whole m seg = record {
  same_length = length_apply m (stores seg);
  each = λ i. elim (content m (stores seg) i) [ inl q ↦ inl q | inr x ↦ inr (store_of seg i _ x) ];
}

-- ---- segments

segmented_append : (segs segs' : List (List Store)) → segmented segs ++ segmented segs' ≡ segmented (segs ++ segs')
unfolding segmented
segmented_append [] segs' = refl
segmented_append (seg ∷ segs) segs' =
    append_assoc (stores seg) (barrier ∷ segmented segs) (segmented segs')
    ∙ ap (λ (es : List Entry). stores seg ++ barrier ∷ es) (segmented_append segs segs')

pub length_segmented : (segs : List (List Store)) → length (segmented segs) ≡ entries segs
unfolding segmented
length_segmented [] = refl
length_segmented (seg ∷ segs) = simp length-append (omega (arith, length_stores seg, length_segmented segs))

stored_in : (segs : List (List Store)) (i v : ℕ) → Memᴰ (store i v) (segmented segs)
    → (seg : List Store) × Memᴰ seg segs × Memᴰ (i, v) seg
unfolding segmented
stored_in [] i v x = absurd (Memᴰ.not-nil x)
stored_in (seg ∷ segs) i v x = elim (Memᴰ.append_cases (stores seg) x) [
  | inl y ↦ (seg, Memᴰ.head refl, store_of seg i v y)
  | inr y ↦ elim (Memᴰ.cases_cons y) [
    | inl q ↦ let z : ◌≡◌ {A = ℕ} 0 1 = cc in absurd (omega arith)
    | inr z ↦ let t = stored_in segs i v z in (t.0, Memᴰ.tail t.1, t.2)
  ]
]

pub ends_in_barrier : (segs : List (List Store)) → (segmented segs ≡ []) ⊎ ((es : List Entry) × (segmented segs ≡ es ++ barrier ∷ []))
unfolding segmented
ends_in_barrier [] = inl refl
ends_in_barrier (seg ∷ segs) = inr (elim (ends_in_barrier segs) [
  | inl q ↦ (stores seg, rw q)
  | inr t ↦ (stores seg ++ barrier ∷ t.0, rw t.1 (sym (append_assoc (stores seg) (barrier ∷ t.0) (barrier ∷ []))))
])

-- ---- segments carried out

pub apply_none : (m : List ℕ) → apply m (segmented []) ≡ m
unfolding apply segmented
apply_none m = refl

pub apply_first : (m : List ℕ) (seg : List Store) (segs : List (List Store))
    → apply m (segmented (seg ∷ segs)) ≡ apply (apply m (stores seg)) (segmented segs)
unfolding apply segmented
apply_first m seg segs = apply_append m (stores seg) _

pub apply_single : (m : List ℕ) (ss : List Store) → apply m (segmented (single ss)) ≡ set_all m ss
unfolding apply segmented stores
apply_single m [] = refl
apply_single m (s ∷ ss) = apply_single (set m s.0 s.1) ss

pub crash_none : (m : List ℕ) (k : ℕ) (m' : List ℕ) → CrashImage m (segmented []) k m' → m' ≡ m
unfolding segmented
crash_none m k m' c = let z : k ≡ 0 = omega (arith, c.within) in (none_yet m [] m').0 (rw z at c)

-- after k entries a barrier is left to pass, or none is
false_or_not : (b : Bool) → (b ≡ false) ⊎ (b ≡ false → ⊥)
false_or_not false = inl refl
false_or_not true = inr (λ q. clash true refl q)

pub passed_or : (es : List Entry) (k : ℕ) → passed es k ⊎ (passed es k → ⊥)
passed_or es k = false_or_not _

pub segment_laws : SegmentLaws
unfolding encode written stores segmented
segment_laws = record {
  length_stores = length_stores;
  stores_append = λ seg seg'. map-append (λ (s : Store). store s.0 s.1) seg seg';
  stored = store_of;
  stores_written = stores_written;
  apply_stores = apply_stores;
  no_segment = refl;
  first_segment = λ seg segs. refl;
  fenced_one = λ s. refl;
  fenced_pair = λ s t. refl;
  segmented_append = segmented_append;
  length_segmented = length_segmented;
  stored_in = stored_in;
  ends_in_barrier = ends_in_barrier;
  none_encoded = refl;
  none_written = λ buffer. refl;
  apply_none = apply_none;
  apply_first = apply_first;
  apply_single = apply_single;
}
