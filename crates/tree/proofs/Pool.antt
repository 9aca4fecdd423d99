-- Laws of the pool map: which nodes are used once some are marked or unmarked.
use mathlib.Core.Path.{◌≡◌, refl, sym, ◌∙◌, ap}
use mathlib.Core.Bool.{true, false}
use mathlib.Core.Logic.{◌⊎◌, inl, inr, ◌↔◌, ◌≢◌}
use mathlib.Core.List.Memᴰ
use mathlib.Core.List.{List, [], ◌∷◌, Memᴰ}
use Prim.Native.Nat.{ℕ, ◌+◌, ◌-◌, ◌*◌, ◌/◌, ◌%◌, ◌^◌, ◌≤◌, ◌<◌}
use native.Mathlib.Omega.{arith}
use native.Mathlib.Decide.{dec_lt, ℕ_discrete}
use lib.ListN.{length, set, length-set, length-replicate, get_or-replicate, get_or-eq_default}
use lib.Seq.{get_or-set_same, get_or-set_other, set_out, ext_get_or}
use Rattle.memory.specs.Words.{reads, is_set, marked}
use Rattle.memory.specs.Laws.{Fit}
use Rattle.memory.proofs.Laws.{bit_laws, no_bit, first_laws}
use Rattle.tree.specs.declared.layout.Geometry.{Geometry}
use Rattle.tree.specs.Layout.{map_words}
use Rattle.tree.specs.Pool.{used, next_used, mark, unmark, mark_all, unmark_all, clear_map, map_of}
use Rattle.tree.specs.PoolLaws.{Mapped, NoneUsed, Next, PoolLaws}
use Rattle.tree.proofs.Cases.{true_not_false}

-- ---- one word stored

fits_set : (pool : List ℕ) (i w : ℕ) → w < 2 ^ 64 → Fit pool → Fit (set pool i w)
fits_set pool i w l f j = elim (ℕ_discrete j i) [
  | no d ↦ rw (get_or-set_other pool i j w 0 d) (f j)
  | yes q ↦ elim (dec_lt i (length pool)) [ yes h ↦ rw (q, get_or-set_same pool i w 0 h) l | no h ↦ rw (set_out pool i w (omega arith)) (f j) ]
]

module _ (pool : List ℕ) (n w : ℕ) where
  used_here : n < 64 * length pool → used (set pool (n / 64) w) n ≡ is_set w (n % 64)
  unfolding marked
  used_here h = rw (get_or-set_same pool (n / 64) w 0 (omega arith))

  used_beside : (k : ℕ) → ((j : ℕ) → j ≢ n % 64 → is_set w j ≡ is_set (reads pool (n / 64)) j) → k ≢ n → used (set pool (n / 64) w) k ≡ used pool k
  unfolding marked
  used_beside k same d = elim (ℕ_discrete (k / 64) (n / 64)) [
    | no e ↦ rw (get_or-set_other pool (n / 64) (k / 64) w 0 e)
    | yes e ↦ elim (dec_lt (n / 64) (length pool)) [
      | yes h ↦ rw (e, get_or-set_same pool (n / 64) w 0 h) (same (k % 64) (λ q. d (omega arith)))
      | no h ↦ rw (set_out pool (n / 64) w (omega arith))
    ]
  ]

-- a node past the map's end is not used
unused_past : (pool : List ℕ) (n : ℕ) → length pool ≤ n / 64 → used pool n ≡ false
unfolding marked
unused_past pool n h = rw (get_or-eq_default pool 0 h) (no_bit (n % 64))

-- ---- one node marked or unmarked

module _ (pool : List ℕ) (n : ℕ) where
  length_mark : length (mark pool n) ≡ length pool
  unfolding mark
  length_mark = length-set pool (n / 64) _

  length_unmark : length (unmark pool n) ≡ length pool
  unfolding unmark
  length_unmark = length-set pool (n / 64) _

  fits_mark : Fit pool → Fit (mark pool n)
  unfolding mark
  fits_mark f = fits_set pool (n / 64) _ (bit_laws.with_fits (reads pool (n / 64)) (n % 64) 64 (omega arith) (f (n / 64))) f

  fits_unmark : Fit pool → Fit (unmark pool n)
  unfolding unmark
  fits_unmark f = fits_set pool (n / 64) _ (bit_laws.without_fits (reads pool (n / 64)) (n % 64) 64 (f (n / 64))) f

  mark_same : n < 64 * length pool → used (mark pool n) n ≡ true
  unfolding mark
  mark_same h = used_here pool n _ h ∙ bit_laws.with_sets (reads pool (n / 64)) (n % 64)

  pub mark_other : (k : ℕ) → k ≢ n → used (mark pool n) k ≡ used pool k
  unfolding mark
  mark_other k d = used_beside pool n _ k (bit_laws.with_keeps (reads pool (n / 64)) (n % 64)) d

  unmark_same : used (unmark pool n) n ≡ false
  unfolding unmark
  unmark_same = elim (dec_lt n (64 * length pool)) [
    | yes h ↦ used_here pool n _ h ∙ bit_laws.without_clears (reads pool (n / 64)) (n % 64)
    | no h ↦ unused_past (unmark pool n) n (rw length_unmark (omega arith))
  ]

  unmark_other : (k : ℕ) → k ≢ n → used (unmark pool n) k ≡ used pool k
  unfolding unmark
  unmark_other k d = used_beside pool n _ k (bit_laws.without_keeps (reads pool (n / 64)) (n % 64)) d

  marks : (k : ℕ) → n < 64 * length pool → (used (mark pool n) k ≡ true) ↔ ((k ≡ n) ⊎ (used pool k ≡ true))
  marks k h = elim (ℕ_discrete k n) [
    | yes q ↦ (λ u. inl q, λ u. rw q (mark_same h))
    | no d ↦ (λ u. inr (sym (mark_other k d) ∙ u), λ u. elim u [ inl q ↦ absurd (d q) | inr v ↦ mark_other k d ∙ v ])
  ]

  unmarks : (k : ℕ) → (used (unmark pool n) k ≡ true) ↔ ((used pool k ≡ true) × (k ≢ n))
  unmarks k = elim (ℕ_discrete k n) [
    | yes q ↦ (λ u. absurd (true_not_false (rw q at u) unmark_same), λ u. absurd (u.1 q))
    | no d ↦ (λ u. (sym (unmark_other k d) ∙ u, d), λ u. unmark_other k d ∙ u.0)
  ]

-- ---- several in turn

length_mark_all : (pool ns : List ℕ) → length (mark_all pool ns) ≡ length pool
unfolding mark_all
length_mark_all pool [] = refl
length_mark_all pool (n ∷ ns) = length_mark_all (mark pool n) ns ∙ length_mark pool n

length_unmark_all : (pool ns : List ℕ) → length (unmark_all pool ns) ≡ length pool
unfolding unmark_all
length_unmark_all pool [] = refl
length_unmark_all pool (n ∷ ns) = length_unmark_all (unmark pool n) ns ∙ length_unmark pool n

fits_mark_all : (pool ns : List ℕ) → Fit pool → Fit (mark_all pool ns)
unfolding mark_all
fits_mark_all pool [] f = f
fits_mark_all pool (n ∷ ns) f = fits_mark_all (mark pool n) ns (fits_mark pool n f)

fits_unmark_all : (pool ns : List ℕ) → Fit pool → Fit (unmark_all pool ns)
unfolding unmark_all
fits_unmark_all pool [] f = f
fits_unmark_all pool (n ∷ ns) f = fits_unmark_all (unmark pool n) ns (fits_unmark pool n f)

marks_all : (pool ns : List ℕ) (k : ℕ) → Mapped pool ns → (used (mark_all pool ns) k ≡ true) ↔ (Memᴰ k ns ⊎ (used pool k ≡ true))
unfolding mark_all
marks_all pool [] k h = (λ u. inr u, λ u. elim u [ inl x ↦ absurd (Memᴰ.not-nil x) | inr v ↦ v ])
marks_all pool (n ∷ ns) k h =
    let one = marks pool n k (h n (Memᴰ.head refl)) in
    let rest = marks_all (mark pool n) ns k (λ j x. rw (length_mark pool n) (h j (Memᴰ.tail x))) in (
      λ u. elim (rest.0 u) [
        | inl x ↦ inl (Memᴰ.tail x)
        | inr v ↦ elim (one.0 v) [ inl q ↦ inl (Memᴰ.head q) | inr t ↦ inr t ]
      ],
      λ u. rest.1 (elim u [
        | inl x ↦ elim (Memᴰ.cases_cons x) [ inl q ↦ inr (one.1 (inl q)) | inr y ↦ inl y ]
        | inr t ↦ inr (one.1 (inr t))
      ]),
    )

unmarks_all : (pool ns : List ℕ) (k : ℕ) → (used (unmark_all pool ns) k ≡ true) ↔ ((used pool k ≡ true) × (Memᴰ k ns → ⊥))
unfolding unmark_all
unmarks_all pool [] k = (λ u. (u, Memᴰ.not-nil), λ u. u.0)
unmarks_all pool (n ∷ ns) k =
    let one = unmarks pool n k in
    let rest = unmarks_all (unmark pool n) ns k in (
      λ u.
          let r = rest.0 u in
          let o = one.0 r.0 in
          (o.0, λ x. elim (Memᴰ.cases_cons x) [ inl q ↦ o.1 q | inr y ↦ r.1 y ]),
      λ u. rest.1 (one.1 (u.0, λ q. u.1 (Memᴰ.head q)), λ x. u.1 (Memᴰ.tail x)),
    )

-- ---- a clear map, and the map of given nodes

clear_word : (n i : ℕ) → reads (clear_map n) i ≡ 0
clear_word n i = elim (dec_lt i n) [
  | yes h ↦ get_or-replicate n i 0 0 h
  | no h ↦ get_or-eq_default (clear_map n) 0 (rw length-replicate (omega arith))
]

clear : (n k : ℕ) → used (clear_map n) k ≡ false
unfolding marked
clear n k = rw (clear_word n (k / 64)) (no_bit (k % 64))

fits_clear : (n : ℕ) → Fit (clear_map n)
fits_clear n i = rw (clear_word n i) (omega arith)

inside : (g : Geometry) (n : ℕ) → n < g.nodes → n < 64 * map_words g
inside g n h = omega arith

module _ (g : Geometry) (ns : List ℕ) where
  length-map : length (map_of g ns) ≡ map_words g
  unfolding map_of
  length-map = length_mark_all (clear_map (map_words g)) ns ∙ length-replicate (map_words g) 0

  fits_map : Fit (map_of g ns)
  unfolding map_of
  fits_map = fits_mark_all (clear_map (map_words g)) ns (fits_clear (map_words g))

  map : (k : ℕ) → ((n : ℕ) → Memᴰ n ns → n < g.nodes) → (used (map_of g ns) k ≡ true) ↔ Memᴰ k ns
  unfolding map_of
  map k h =
      let all = marks_all (clear_map (map_words g)) ns k (λ n x. rw length-replicate (inside g n (h n x))) in
      (λ u. elim (all.0 u) [ inl x ↦ x | inr v ↦ absurd (true_not_false v (clear (map_words g) k)) ], λ x. all.1 (inl x))

-- ---- a map by its bits

same_map : (pool pool' : List ℕ) → length pool ≡ length pool' → Fit pool → Fit pool' → ((k : ℕ) → used pool k ≡ used pool' k) → pool ≡ pool'
unfolding marked
same_map pool pool' l f f' h = ext_get_or 0 pool pool' l (λ i b. bit_laws.same_word (reads pool i) (reads pool' i) 64 (f i) (f' i) (bits i))
  where
    bits : (i k : ℕ) → k < 64 → is_set (reads pool i) k ≡ is_set (reads pool' i) k
    bits i k b =
        let q : (64 * i + k) / 64 ≡ i = omega arith in
        let r : (64 * i + k) % 64 ≡ k = omega arith in
        rw (q, r) at (h (64 * i + k))

-- ---- the next used node

module _ (pool : List ℕ) (from bound n : ℕ) where
  next_tells : n ≡ next_used pool from bound → from ≤ bound → Next pool from bound n
  unfolding next_used
  next_tells e h =
      let s = first_laws (λ (k : ℕ). used pool (from + k)) (bound - from) in
      let none : NoneUsed pool from n = record {
        onward = omega arith;
        none = λ k l b. let q : k ≡ from + (k - from) = omega arith in ap (used pool) q ∙ s.none_before (k - from) (omega arith);
      } in
      record { none_before = none; within = omega (arith, s.within); is_used = λ b. ap (used pool) e ∙ s.holds (omega arith) }

  next_is : Next pool from bound n → n ≡ next_used pool from bound
  unfolding next_used
  next_is t =
      let q : from + (n - from) ≡ n = omega (arith, t.none_before.onward) in
      let s = (first_laws (λ (k : ℕ). used pool (from + k)) (bound - from)).stops (n - from) (omega (arith, t.within))
      (λ k l. t.none_before.none (from + k) (omega arith) (omega arith)) (λ l. ap (used pool) q ∙ t.is_used (omega arith)) in
      sym q ∙ ap (λ (k : ℕ). from + k) s

pub pool_laws : PoolLaws
pool_laws = record {
  inside = inside;
  next_tells = next_tells;
  next_is = next_is;
  length_mark = length_mark;
  length_unmark = length_unmark;
  length_mark_all = length_mark_all;
  length_unmark_all = length_unmark_all;
  length_clear = λ n. length-replicate n 0;
  length-map = length-map;
  marks = marks;
  unmarks = unmarks;
  marks_all = marks_all;
  unmarks_all = unmarks_all;
  clear_word = clear_word;
  clear = clear;
  map = map;
  fits_mark = fits_mark;
  fits_unmark = fits_unmark;
  fits_mark_all = fits_mark_all;
  fits_unmark_all = fits_unmark_all;
  fits_clear = fits_clear;
  fits_map = fits_map;
  same_map = same_map;
}
