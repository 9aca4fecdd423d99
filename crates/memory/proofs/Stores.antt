-- Laws of `apply`: what entries that are carried out leave in each word.
use mathlib.Core.Path.{◌≡◌, refl, ◌∙◌, ap}
use mathlib.Core.Logic.{◌⊎◌, inl, inr}
use mathlib.Core.List.Memᴰ
use mathlib.Core.List.{List, [], ◌∷◌, ◌++◌, Memᴰ}
use Prim.Native.Nat.{ℕ, ◌^◌, ◌<◌}
use native.Mathlib.Omega.{arith}
use native.Mathlib.Decide.{ℕ_discrete, dec_lt}
use lib.ListN.{length, set, length-set}
use lib.Seq.{get_or-set_same, get_or-set_other, set_out}
use Rattle.memory.specs.Words.{reads}
use Rattle.memory.specs.Script.{Entry, store, barrier, flush, Store, stores}
use Rattle.memory.specs.Crash.{apply, fenced, unfenced}
use Rattle.memory.specs.Laws.{Avoids, FitStores, ApplyLaws}

-- ---- the length, and entries in two parts

pub length_apply : (m : List ℕ) (es : List Entry) → length (apply m es) ≡ length m
unfolding apply
length_apply m [] = refl
length_apply m (store i v ∷ es) = length_apply (set m i v) es ∙ length-set m i v
length_apply m (barrier ∷ es) = length_apply m es
length_apply m (flush l ∷ es) = length_apply m es

pub apply_append : (m : List ℕ) (es fs : List Entry) → apply m (es ++ fs) ≡ apply (apply m es) fs
unfolding apply
apply_append m [] fs = refl
apply_append m (store i v ∷ es) fs = apply_append (set m i v) es fs
apply_append m (barrier ∷ es) fs = apply_append m es fs
apply_append m (flush l ∷ es) fs = apply_append m es fs

-- ---- a word's content: the old one, or one of the stores

-- v is the old content a of word i, or what an entry stores to it
abbrev pub OldOrStored : ℕ → List Entry → ℕ → ℕ → Type 0
OldOrStored a es i v = (v ≡ a) ⊎ Memᴰ (store i v) es

-- a word not stored to is old; a word fits where the old one and the stores do
pub unstored : {a : ℕ} {es : List Entry} {i v : ℕ} → Avoids i es → OldOrStored a es i v → v ≡ a
unstored h (inl q) = q
unstored {v = v} h (inr x) = absurd (h v x)

pub word_fits : {a : ℕ} {es : List Entry} {i v : ℕ} → a < 2 ^ 64 → FitStores es → OldOrStored a es i v → v < 2 ^ 64
word_fits h s (inl q) = rw q h
word_fits {i = i} {v = v} h s (inr x) = s i v x

-- entries in two parts
pub stored_more : {a : ℕ} {es : List Entry} {i v : ℕ} (fs : List Entry) → OldOrStored a es i v → OldOrStored a (es ++ fs) i v
stored_more fs (inl q) = inl q
stored_more fs (inr x) = inr (Memᴰ.append_left fs x)

pub stored_parts : {a : ℕ} (es : List Entry) {fs : List Entry} {i v : ℕ} → OldOrStored a (es ++ fs) i v
    → OldOrStored a es i v ⊎ Memᴰ (store i v) fs
stored_parts es (inl q) = inl (inl q)
stored_parts es (inr x) = elim (Memᴰ.append_cases es x) [ inl y ↦ inl (inr y) | inr y ↦ inr y ]

-- a word after one store, and after entries
pub set_content : (m : List ℕ) (j w i : ℕ) {es : List Entry} → OldOrStored (reads m i) (store j w ∷ es) i (reads (set m j w) i)
set_content m j w i = elim (ℕ_discrete i j) [
  | no n ↦ inl (get_or-set_other m j i w 0 n)
  | yes q ↦ elim (dec_lt j (length m)) [
    | no n ↦ inl (rw (set_out m j w (omega arith)))
    | yes l ↦ rw (q, get_or-set_same m j w 0 l) (inr (Memᴰ.head refl))
  ]
]

pub content : (m : List ℕ) (es : List Entry) (i : ℕ) → OldOrStored (reads m i) es i (reads (apply m es) i)
unfolding apply
content m [] i = inl refl
content m (store j w ∷ es) i = elim (content (set m j w) es i) [ inl q ↦ rw q (set_content m j w i) | inr x ↦ inr (Memᴰ.tail x) ]
content m (barrier ∷ es) i = elim (content m es i) [ inl q ↦ inl q | inr x ↦ inr (Memᴰ.tail x) ]
content m (flush l ∷ es) i = elim (content m es i) [ inl q ↦ inl q | inr x ↦ inr (Memᴰ.tail x) ]

-- a word that has a value, or gets it by a store, and gets no other, has it in the end
pub settles : (m : List ℕ) (seg : List Store) (i v : ℕ) → i < length m → ((u : ℕ) → Memᴰ (i, u) seg → u ≡ v)
    → (reads m i ≡ v) ⊎ Memᴰ (i, v) seg → reads (apply m (stores seg)) i ≡ v
unfolding apply stores
settles m [] i v l h (inl q) = q
settles m [] i v l h (inr x) = absurd (Memᴰ.not-nil x)
settles m ((j, w) ∷ seg) i v l h o = settles (set m j w) seg i v (rw length-set l) (λ u x. h u (Memᴰ.tail x)) (elim (ℕ_discrete i j) [
  | yes q ↦ inl (rw q (get_or-set_same m j w 0 (rw (← q) l)) ∙ h w (Memᴰ.head (ap (λ k. (k, w)) q)))
  | no n ↦ elim o [
    | inl q ↦ inl (get_or-set_other m j i w 0 n ∙ q)
    | inr x ↦ elim (Memᴰ.cases_cons x) [ inl q ↦ absurd (n (ap (λ t. t.0) q)) | inr y ↦ inr y ]
  ]
])

-- word i may hold v where power is lost after all of es
abbrev pub Possible : List ℕ → List Entry → ℕ → ℕ → Type 0
Possible m es i v = OldOrStored (reads (apply m (fenced es)) i) (unfenced es) i v

pub apply_laws : ApplyLaws
unfolding apply
apply_laws = record {
  length_apply = length_apply;
  in_turn = apply_append;
  last_store = λ m es fs i v l h. rw apply_append
      (unstored h (content (set (apply m es) i v) fs i) ∙ get_or-set_same (apply m es) i v 0 (rw length_apply l));
  avoided = λ m es i h. unstored h (content m es i);
  fits = λ m es f s i. word_fits (f i) s (content m es i);
}
