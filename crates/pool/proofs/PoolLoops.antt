-- What the loops over the pool map ask: marks made or taken away in turn, runs found and passed over, used nodes found.
use mathlib.Core.Path.{◌≡◌, refl, sym, ap, ◌∙◌}
use mathlib.Core.Bool.{true, false}
use mathlib.Core.Logic.{inl, inr, ◌≢◌}
use mathlib.Core.List.{List, [], ◌∷◌}
use Rattle.std.specs.Prelude.{min}
use Rattle.std.specs.Ordering.{ord_min, nat_cmp}
use Rattle.std.proofs.lemmas.Grind.{common_steps}
use Prim.Native.Nat.{ℕ, zero, suc, ◌+◌, ◌-◌, ◌*◌, ◌/◌, ◌%◌, ◌^◌, ◌≤◌, ◌<◌}
use native.Mathlib.Omega.{arith}
use native.Mathlib.Decide.{dec_lt}
use lib.Count.{count_trailing_zeros, trailing_le}
use borrow.Author.Tests.{not-false as is_true}
use Rattle.memory.specs.Words.{Memory, reads, is_set, marked}
use Rattle.memory.specs.Search.{first}
use Rattle.memory.specs.Laws.{NoneBelow}
use Rattle.memory.proofs.Laws.{no_bit, trailing_first, lowest_in, lowest_set, first_laws, clear_in, unmarked, full_word}
use Rattle.tree.specs.declared.layout.Geometry.{Geometry}
use Rattle.tree.specs.Lists.{range}
use Rattle.tree.specs.Lookup.{is_free_run, free_run}
use Rattle.tree.specs.Pool.{used, next_used, mark, unmark, mark_all, unmark_all}
use Rattle.tree.specs.PoolLaws.{NoneUsed}
use Rattle.tree.proofs.Cases.{test, true_not_false, not-false}
use Rattle.tree.proofs.Pool.{pool_laws}
use Rattle.tree.proofs.Runs.{run_laws}
use Rattle.tree.proofs.Bits.{high_of, high_kept, low_cleared}

-- ---- nodes of a run marked or freed in turn

-- `all` does to nodes in turn what `one` does to a node
pub record InTurn (one : List ℕ → ℕ → List ℕ) (all : List ℕ → List ℕ → List ℕ) : Type 0 where
  none : (pool : List ℕ) → all pool [] ≡ pool
  onto : (pool : List ℕ) (n : ℕ) (ns : List ℕ) → all pool (n ∷ ns) ≡ all (one pool n) ns

pub marks : InTurn mark mark_all
unfolding mark_all
marks = record { none = λ pool. refl; onto = λ pool n ns. refl }

pub unmarks : InTurn unmark unmark_all
unfolding unmark_all
unmarks = record { none = λ pool. refl; onto = λ pool n ns. refl }

module _ {one : List ℕ → ℕ → List ℕ} {all : List ℕ → List ℕ → List ℕ} (t : InTurn one all) where
  run_suc : (pool : List ℕ) (start i : ℕ) → one (all pool (range start i)) (start + i) ≡ all pool (range start (suc i))
  unfolding range
  run_suc pool start zero = let q : start + 0 ≡ start = omega arith in rw (q, t.none pool, t.onto pool start [], t.none (one pool start)) refl
  run_suc pool start (suc i) =
      let q : start + suc i ≡ suc start + i = omega arith in
      rw (q, t.onto pool start (range (suc start) i), t.onto pool start (suc start ∷ range (suc (suc start)) i)) (run_suc (one pool start) (suc start) i)

  -- none of a run yet, and one node more
  pub run_none : (pool : List ℕ) (start : ℕ) → pool ≡ all pool (range start (start - start))
  unfolding range
  run_none pool start = let q : start - start ≡ 0 = omega arith in rw q (sym (t.none pool))

  pub run_more : {pool now : List ℕ} {start : ℕ} (n : ℕ) → start ≤ n → now ≡ all pool (range start (n - start)) → one now n ≡ all pool (range start (n + 1 - start))
  run_more {pool} {now} {start} n l is =
      let q : n + 1 - start ≡ suc (n - start) = omega arith in
      let r : start + (n - start) ≡ n = omega arith in
      rw (q, ← run_suc pool start (n - start), r, is) refl

-- ---- the search for a run

-- every bit of a full word is set
full_bit : (i : ℕ) → i < 64 → is_set (2 ^ 64 - 1) i ≡ true
full_bit i l = is_true (is_set (2 ^ 64 - 1) i) ((first_laws (clear_in (2 ^ 64 - 1)) 64).none_before i (omega (arith, full_word 64 (omega arith))))

module _ (g : Geometry) (m : Memory) (k : ℕ) where
  -- no run starts at s: a node of it is used, or it does not end inside the pool
  pub run_used : (s i : ℕ) → i < k → marked m (s + i) ≡ true → is_free_run g m k s ≡ false
  run_used s i l u = not-false (λ e. true_not_false u ((((run_laws g m k).free s).0 e).free i l))

  pub run_outside : (s : ℕ) → g.nodes < s + k → is_free_run g m k s ≡ false
  run_outside s l = not-false (λ e. omega (arith, (((run_laws g m k).free s).0 e).inside))

  -- nor in a full word
  pub word_full : (i : ℕ) → 0 < k → m i ≡ 2 ^ 64 - 1 → NoneBelow (is_free_run g m k) (64 * i) → NoneBelow (is_free_run g m k) (64 * (i + 1))
  unfolding marked
  word_full i o full below j l = elim (dec_lt j (64 * i)) [
    | yes h ↦ below j h
    | no h ↦
        let q : (j + 0) / 64 ≡ i = omega arith in
        run_used j 0 o (rw (q, full) (full_bit ((j + 0) % 64) (omega arith)))
  ]

  -- the search ends at s: with a run, or where none can end inside the pool
  pub run_found : (s : ℕ) → s + k ≤ g.nodes → NoneBelow (is_free_run g m k) s → ((i : ℕ) → i < k → marked m (s + i) ≡ false) → s ≡ free_run g m k
  unfolding free_run
  run_found s l below free =
      (first_laws (is_free_run g m k) g.nodes).stops s (omega arith) below (λ b. ((run_laws g m k).free s).1 (record { inside = l; free = free }))

  -- past starts from which no run would end inside the pool
  pub none_outside : (s e : ℕ) → g.nodes < s + k → NoneBelow (is_free_run g m k) s → NoneBelow (is_free_run g m k) e
  none_outside s e l below j b = elim (dec_lt j s) [ yes h ↦ below j h | no h ↦ run_outside j (omega arith) ]

  pub run_missing : (s : ℕ) → g.nodes < s + k → NoneBelow (is_free_run g m k) s → g.nodes ≡ free_run g m k
  unfolding free_run
  run_missing s l below =
      (first_laws (is_free_run g m k) g.nodes).stops g.nodes (omega arith)
      (λ j b. elim (dec_lt j s) [ yes h ↦ below j h | no h ↦ run_outside j (omega arith) ]) (λ b. absurd (omega arith))

-- a run of one node is a free node
pub free_one : (g : Geometry) (m : Memory) → first (unmarked m) g.nodes ≡ free_run g m 1
unfolding free_run
free_one g m = (first_laws (unmarked m) g.nodes).equal_tests (is_free_run g m 1) same
  where
    same : (i : ℕ) → i < g.nodes → unmarked m i ≡ is_free_run g m 1 i
    same i l = elim (test (marked m i)) [
      | inl u ↦ rw (u, run_used g m 1 i 0 (omega arith) (ap (marked m) (omega arith) ∙ u)) refl
      | inr u ↦ rw (u, ((run_laws g m 1).free i).1 (record { inside = omega arith; free = λ j b. ap (marked m) (omega arith) ∙ u })) refl
    ]

-- ---- the search for a used node

pub none_yet : (pool : List ℕ) (from : ℕ) → NoneUsed pool from from
none_yet pool from = record { onward = omega arith; none = λ k l b. absurd (omega arith) }

-- none is used up to the bound
pub next_missing : {pool : List ℕ} {from n : ℕ} (bound : ℕ) → NoneUsed pool from n → from ≤ bound → bound ≤ n → bound ≡ next_used pool from bound
next_missing {pool} {from} bound u l h =
    let none : NoneUsed pool from bound = record { onward = l; none = λ k a b. u.none k a (omega arith) } in
    pool_laws.next_is pool from bound bound (record { none_before = none; within = omega arith; is_used = λ b. absurd (omega arith) })

in_word : (pool : List ℕ) (i j : ℕ) → j < 64 → is_set (reads pool i) j ≡ used pool (64 * i + j)
unfolding marked
in_word pool i j l =
    let q : (64 * i + j) / 64 ≡ i = omega arith in
    let r : (64 * i + j) % 64 ≡ j = omega arith in
    rw (q, r) refl

-- what the search has at word i: below it no node from `from` on is used
pub record Passed (pool : List ℕ) (from i : ℕ) : Type 0 where
  pub onward : from < 64 * i + 64
  pub none : (k : ℕ) → from ≤ k → k < 64 * i → used pool k ≡ false

pub passed_none : (pool : List ℕ) (from : ℕ) → Passed pool from (from / 64)
passed_none pool from = record { onward = omega arith; none = λ k l b. absurd (omega arith) }

pub passed_all : {pool : List ℕ} {from i : ℕ} (bound : ℕ) → Passed pool from i → from ≤ bound → bound ≤ 64 * i → bound ≡ next_used pool from bound
passed_all {pool} {from} {i} bound t l h =
    next_missing bound (record { onward = l; none = λ k a b. t.none k a (omega arith) }) l (omega arith)

-- the lesser of two numbers, as the library's `min` answers
lesser : (a b : ℕ) → ord_min nat_cmp a b ≡ min a b
lesser a b = grind (arith, common_steps)

-- at word i: below it no node from `from` on is used, and of its bits those of nodes from there on are left
pub record Searched (pool : List ℕ) (from i rest : ℕ) : Type 0 where
  pub onward : from < 64 * i + 64
  pub none : (k : ℕ) → from ≤ k → k < 64 * i → used pool k ≡ false
  pub fits : rest < 2 ^ 64
  pub ahead : (j : ℕ) → j < 64 → from ≤ 64 * i + j → is_set rest j ≡ used pool (64 * i + j)
  pub behind : (j : ℕ) → 64 * i + j < from → is_set rest j ≡ false

pub searched : {pool : List ℕ} {from i below : ℕ} → Passed pool from i → reads pool i < 2 ^ 64 → below ≡ from - 64 * i
    → Searched pool from i (high_of (reads pool i) below)
searched {pool} {from} {i} {below} t h is = record {
  onward = t.onward;
  none = t.none;
  fits = omega arith;
  ahead = λ j b l. high_kept (reads pool i) below h j (omega arith) ∙ in_word pool i j b;
  behind = λ j l. low_cleared (reads pool i) below h j (omega arith);
}

pub search_starts : (pool : List ℕ) (from : ℕ) → reads pool (from / 64) < 2 ^ 64
    → Searched pool from (from / 64) (high_of (reads pool (from / 64)) (from % 64))
search_starts pool from h = searched (passed_none pool from) h (omega arith)

module _ {pool : List ℕ} {from i rest : ℕ} (t : Searched pool from i rest) where
  -- no bit of the word below the lowest that is left
  none_onto : (n : ℕ) → from ≤ 64 * i + n → n ≤ 64 → NoneBelow (is_set rest) n → NoneUsed pool from (64 * i + n)
  none_onto n l h clear = record {
    onward = l;
    none = λ k a b. elim (dec_lt k (64 * i)) [
      | yes u ↦ t.none k a u
      | no u ↦
          let q : k ≡ 64 * i + (k - 64 * i) = omega arith in
          ap (used pool) q ∙ sym (t.ahead (k - 64 * i) (omega arith) (omega arith)) ∙ clear (k - 64 * i) (omega arith)
    ];
  }

  -- no bit is left
  pub passed_more : rest ≡ 0 → Passed pool from (i + 1)
  passed_more z =
      let u = none_onto 64 (omega (arith, t.onward)) (omega arith) (λ j l. rw z (no_bit j)) in
      record { onward = omega (arith, t.onward); none = λ k l b. u.none k l (omega arith) }

  -- a bit is left: the lowest
  module _ (o : rest ≢ 0) where
    abbrev low : ℕ
    low = count_trailing_zeros 64 rest

    low_onward : from ≤ 64 * i + low
    low_onward = elim (dec_lt (64 * i + low) from) [ yes l ↦ absurd (true_not_false (lowest_set rest o t.fits) (t.behind low l)) | no l ↦ omega arith ]

    none_low : NoneUsed pool from (64 * i + low)
    none_low = none_onto low low_onward (trailing_le 64 rest) (rw (trailing_first 64 rest) (first_laws (is_set rest) 64).none_before)

    pub search_ends : (bound : ℕ) → from ≤ bound → ord_min nat_cmp (64 * i + low) bound ≡ next_used pool from bound
    search_ends bound h = lesser (64 * i + low) bound ∙ elim (dec_lt (64 * i + low) bound) [
      | yes l ↦
          let q : min (64 * i + low) bound ≡ 64 * i + low = omega arith in
          q ∙ pool_laws.next_is pool from bound (64 * i + low)
          (record { none_before = none_low; within = omega arith; is_used = λ b. sym (t.ahead low (lowest_in rest o t.fits) low_onward) ∙ lowest_set rest o t.fits })
      | no l ↦ let q : min (64 * i + low) bound ≡ bound = omega arith in q ∙ next_missing bound none_low h (omega arith)
    ]
