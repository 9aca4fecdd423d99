-- What a crash can leave, by the numbers of the entries: the last barrier, and for each word a store since then or none.
use mathlib.Core.Path.{◌≡◌, refl, sym, ◌∙◌, ap}
use mathlib.Core.Logic.{◌⊎◌, inl, inr, ◌↔◌}
use mathlib.Core.Option.{Option, none, some, none-ne-some}
use mathlib.Core.List.{List, [], ◌∷◌, ◌++◌, Memᴰ}
use Prim.Native.Nat.{ℕ, zero, suc, ◌≤◌, ◌<◌}
use native.Mathlib.Omega.{arith}
use native.Mathlib.Decide.{dec_lt}
use lib.ListN.{length, take, drop, get_elem?, take-append-drop, get_or-eq_default}
use lib.Seq.{take-take}
use Rattle.memory.specs.Words.{reads}
use Rattle.memory.specs.Script.{Entry, store, barrier, flush}
use Rattle.memory.specs.Crash.{apply, has_barrier, fenced, unfenced, CrashImage}
use Rattle.memory.specs.Laws.{Avoids, LastBarrier, Choice, old, new, image}
use Rattle.memory.proofs.Lists.{number_of, element_at, take_through}
use Rattle.memory.proofs.Stores.{Possible, length_apply, unstored}
use Rattle.memory.proofs.Fences.{Fenced, no_barrier, barrier_later, none_later}

-- ---- the last barrier

pub is_barrier : (o : Option Entry) → Dec (o ≡ some barrier)
is_barrier none = no (none-ne-some barrier)
is_barrier (some (store i v)) = no (λ q. let z : ◌≡◌ {A = ℕ} 0 1 = cc in omega arith)
is_barrier (some barrier) = yes refl
is_barrier (some (flush l)) = no (λ q. let z : ◌≡◌ {A = ℕ} 0 1 = cc in omega arith)

pub last_barrier : (es : List Entry) (k : ℕ) → (b : ℕ) × LastBarrier es k b
last_barrier es zero = (0, record { passed_at = inl refl; within = omega arith; none_since = λ j g h. absurd (omega arith) })
last_barrier es (suc k) = elim (is_barrier (get_elem? es k)) [
  | yes q ↦ (suc k, record { passed_at = inr (k, refl, q); within = omega arith; none_since = λ j g h. absurd (omega arith) })
  | no n ↦ let r = last_barrier es k in (
    r.0,
    record {
      passed_at = r.1.passed_at;
      within = omega (arith, r.1.within);
      none_since = λ j g h. elim (dec_lt j k) [ yes l ↦ r.1.none_since j g l | no m ↦ let q : j ≡ k = omega arith in rw q n ];
    },
  )
]

-- what is up to it and since it, by its number
pub fenced_at : (es : List Entry) (k b : ℕ) → LastBarrier es k b → Fenced (take k es) (take b es) (drop b (take k es))
unfolding has_barrier fenced unfenced
fenced_at es k b l =
    let parts : take k es ≡ take b es ++ drop b (take k es) = sym (rw (take-take b k es l.within) at (take-append-drop b (take k es))) in
    let n = none_later (take b es) (drop b (take k es)) (no_barrier _ (λ x. let r = number_of es b k x in l.none_since r.0 r.1 r.2 r.3)) in
    let p : Fenced (take b es) (take b es) [] = elim l.passed_at [
      | inl z ↦ rw z (record { up_to = refl; after = refl })
      | inr t ↦ rw (t.1, take_through es t.0 t.2) (barrier_later (take t.0 es) (barrier ∷ []) refl)
    ] in
    record { up_to = ap fenced parts ∙ n.up_to ∙ p.up_to; after = ap unfenced parts ∙ n.after ∙ ap (λ u. u ++ drop b (take k es)) p.after }

-- ---- choices

-- a choice is old, or stored since
pub choice_means : (m : List ℕ) (es : List Entry) (b k i : ℕ) {v : ℕ} → Choice m es b k i v
    → (v ≡ reads (apply m (take b es)) i) ⊎ Memᴰ (store i v) (drop b (take k es))
choice_means m es b k i old = inl refl
choice_means m es b k i (new j s) = inr (element_at es b k j s.since s.before s.entry)

-- a choice is what is possible
pub chosen : (m : List ℕ) (es : List Entry) (k b i v : ℕ) → LastBarrier es k b → Choice m es b k i v ↔ Possible m (take k es) i v
chosen m es k b i v l = let f = fenced_at es k b l in (
  λ c. rw (f.up_to, f.after) (choice_means m es b k i c),
  λ p. elim (rw (f.up_to, f.after) at p) [
    | inl q ↦ rw q old
    | inr x ↦ let r = number_of es b k x in new r.0 (record { since = r.1; before = r.2; entry = r.3 })
  ],
)

-- a crash leaves no word that is not a choice
pub only_chosen : (m : List ℕ) (es : List Entry) (k b : ℕ) (m' : List ℕ) → LastBarrier es k b → CrashImage m es k m'
    → (i : ℕ) → Choice m es b k i (reads m' i)
only_chosen m es k b m' l c i = (chosen m es k b i (reads m' i) l).1 (c.each i)

-- nor a word changed that is not stored to since
pub outside : (m : List ℕ) (es : List Entry) (k b : ℕ) (m' : List ℕ) (i : ℕ) → LastBarrier es k b → CrashImage m es k m'
    → Avoids i (drop b (take k es)) → reads m' i ≡ reads (apply m (take b es)) i
outside m es k b m' i l c h = let f = fenced_at es k b l in unstored h (rw (f.up_to, f.after) at (c.each i))

-- an image has its length and its words
pub length_image : (n : ℕ) (f : ℕ → ℕ) → length (image n f) ≡ n
length_image zero f = refl
length_image (suc n) f = ap suc (length_image n (λ i. f (suc i)))

pub reads_image : (n : ℕ) (f : ℕ → ℕ) (i : ℕ) → i < n → reads (image n f) i ≡ f i
reads_image zero f i h = absurd (omega arith)
reads_image (suc n) f zero h = refl
reads_image (suc n) f (suc i) h = reads_image n (λ j. f (suc j)) i (omega arith)

pub possible : (m : List ℕ) (es : List Entry) (k b : ℕ) → k ≤ length es → LastBarrier es k b
    → (f : ℕ → ℕ) → ((i : ℕ) → i < length m → Choice m es b k i (f i)) → CrashImage m es k (image (length m) f)
possible m es k b h l f c = record {
  within = h;
  same_length = length_image (length m) f;
  each = λ i. elim (dec_lt i (length m)) [
    | yes g ↦ rw (reads_image (length m) f i g) ((chosen m es k b i (f i) l).0 (c i g))
    | no g ↦ inl (get_or-eq_default (image (length m) f) 0 (omega (arith, length_image (length m) f))
        ∙ sym (get_or-eq_default (apply m (fenced (take k es))) 0 (omega (arith, length_apply m (fenced (take k es))))))
  ];
}
