-- The nodes that one map marks, taken out of another: bits of the words, the loop, and the nodes freed.
use mathlib.Core.Path.{◌≡◌, refl, sym, ◌∙◌, ap}
use mathlib.Core.Bool.{not, ◌&&◌}
use mathlib.Core.List.{List, [], ◌∷◌, Memᴰ}
use Prim.Native.Nat.{ℕ, zero, suc, ◌+◌, ◌-◌, ◌/◌, ◌%◌, ◌^◌, ◌≤◌, ◌<◌}
use native.Mathlib.Omega.{arith}
use native.Mathlib.Decide.{ℕ_discrete}
use lib.ListN.{length, set, length-set}
use lib.Seq.{get_or-set_same, get_or-set_other, ext_get_or}
use lib.Bits.{bit_and, and_zero_l, and_le_l}
use borrow.Author.Tests.{not-true}
use Rattle.memory.specs.Words.{reads, is_set, marked}
use Rattle.memory.specs.Laws.{Fit}
use Rattle.memory.proofs.Laws.{and_bits, not_bits}
use Rattle.tree.specs.declared.layout.Geometry.{Geometry}
use Rattle.tree.specs.Layout.{map_words}
use Rattle.tree.specs.Pool.{used, unmark_all, map_of}
use Rattle.tree.proofs.Cases.{true_not_false, not-false, same_test, and-true, true_and}
use Rattle.tree.proofs.Pool.{pool_laws}
use Rattle.visits.specs.Marked.{without_marked}

-- ---- words

-- a word without the bits of another
abbrev pub without : ℕ → ℕ → ℕ
without w b = bit_and w (2 ^ 64 - 1 - b)

without_set : (w b k : ℕ) → b < 2 ^ 64 → k < 64 → is_set (without w b) k ≡ is_set w k && not (is_set b k)
without_set w b k h l = and_bits w (2 ^ 64 - 1 - b) k ∙ ap (λ t. is_set w k && t) (not_bits b k h l)

-- ---- maps, word by word

without_word : (pool marks : List ℕ) (i : ℕ) → length pool ≡ length marks → reads (without_marked pool marks) i ≡ without (reads pool i) (reads marks i)
unfolding without_marked
without_word [] marks i l = sym (and_zero_l (2 ^ 64 - 1 - reads marks i))
without_word (w ∷ ws) [] i l = absurd (omega arith)
without_word (w ∷ ws) (b ∷ bs) zero l = refl
without_word (w ∷ ws) (b ∷ bs) (suc i) l = without_word ws bs i (omega arith)

length_without : (pool marks : List ℕ) → length (without_marked pool marks) ≡ length pool
unfolding without_marked
length_without [] marks = refl
length_without (w ∷ ws) [] = refl
length_without (w ∷ ws) (b ∷ bs) = ap suc (length_without ws bs)

-- ---- the loop

-- what the loop has: words below i without the marked nodes, the others as they were
pub record TakenTo (pool marks now : List ℕ) (i : ℕ) : Type 0 where
  pub same_length : length now ≡ length pool
  pub below : (j : ℕ) → j < i → reads now j ≡ without (reads pool j) (reads marks j)
  pub above : (j : ℕ) → i ≤ j → reads now j ≡ reads pool j

pub taken_none : (pool marks : List ℕ) → TakenTo pool marks pool 0
taken_none pool marks = record { same_length = refl; below = λ j l. absurd (omega arith); above = λ j l. refl }

pub taken_more : (pool marks now : List ℕ) (i : ℕ) → i < length now → TakenTo pool marks now i
    → TakenTo pool marks (set now i (without (reads now i) (reads marks i))) (i + 1)
taken_more pool marks now i l t = record {
  same_length = length-set now i _ ∙ t.same_length;
  below = λ j b. elim (ℕ_discrete j i) [
    | yes q ↦ rw (q, get_or-set_same now i (without (reads now i) (reads marks i)) 0 l, t.above i (omega arith)) refl
    | no d ↦ get_or-set_other now i j _ 0 d ∙ t.below j (omega arith)
  ];
  above = λ j b. get_or-set_other now i j _ 0 (λ q. omega arith) ∙ t.above j (omega arith);
}

pub taken_all : (pool marks now : List ℕ) (i : ℕ) → length pool ≡ length marks → length pool ≤ i → TakenTo pool marks now i
    → now ≡ without_marked pool marks
taken_all pool marks now i l h t =
    ext_get_or 0 now (without_marked pool marks) (t.same_length ∙ sym (length_without pool marks))
    (λ j b. t.below j (omega (arith, t.same_length)) ∙ sym (without_word pool marks j l))

-- ---- the nodes freed

without_used : (pool marks : List ℕ) (k : ℕ) → length pool ≡ length marks → Fit marks → used (without_marked pool marks) k ≡ used pool k && not (used marks k)
unfolding marked
without_used pool marks k l f = rw (without_word pool marks (k / 64) l) (without_set (reads pool (k / 64)) (reads marks (k / 64)) (k % 64) (f (k / 64)) (omega arith))

pub free_law : (g : Geometry) (pool ns : List ℕ) → length pool ≡ map_words g → Fit pool → ((n : ℕ) → Memᴰ n ns → n < g.nodes)
    → without_marked pool (map_of g ns) ≡ unmark_all pool ns
free_law g pool ns l f h =
    let marks = map_of g ns in
    let same : length pool ≡ length marks = l ∙ sym (pool_laws.length-map g ns) in
    pool_laws.same_map (without_marked pool marks) (unmark_all pool ns) (length_without pool marks ∙ sym (pool_laws.length_unmark_all pool ns))
    (λ i. rw (without_word pool marks i same) (omega (arith, f i, and_le_l (reads pool i) (2 ^ 64 - 1 - reads marks i))))
    (pool_laws.fits_unmark_all pool ns f)
    (λ k. without_used pool marks k same (pool_laws.fits_map g ns) ∙ freed k)
  where
    freed : (k : ℕ) → used pool k && not (used (map_of g ns) k) ≡ used (unmark_all pool ns) k
    freed k =
        let left = pool_laws.unmarks_all pool ns k in
        let marks = pool_laws.map g ns k h in
        same_test (
          λ e. let t = and-true (used pool k) _ e in left.1 (t.0, λ x. true_not_false (marks.1 x) (not-true (used (map_of g ns) k) t.1)),
          λ e. let t = left.0 e in true_and t.0 (rw (not-false (λ u. t.1 (marks.0 u))) refl),
        )
