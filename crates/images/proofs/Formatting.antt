-- Format: words stored to in a loop, the stores in turn, and how it ends.
use mathlib.Core.Path.{◌≡◌, refl, sym, ◌∙◌, ap}
use mathlib.Core.Bool.{true, false}
use mathlib.Core.Logic.{◌≢◌}
use mathlib.Core.List.{List, [], ◌∷◌, ◌++◌, map, append_assoc}
use Prim.Native.Nat.{ℕ, zero, suc, ◌+◌, ◌≤◌}
use native.Mathlib.Omega.{arith}
use native.Mathlib.Numerals.{add-one}
use lib.ListN.{length, set, take, drop, replicate, length-set, length-take, length-drop}
use lib.Seq.{sets-eq}
use Rattle.std.proofs.Common.{drop-drop}
use borrow.Author.Tests.{lt-ltb}
use Rattle.tree.specs.Memory.{Store, stores, apply, set_all}
use Rattle.tree.specs.Test.{holds}
use Rattle.tree.specs.Lists.{range, up_to}
use Rattle.tree.specs.declared.layout.Geometry.{Geometry}
use Rattle.tree.specs.Layout.{Sized, bad_image, map_words, own_at, table_at, root_at}
use Rattle.tree.specs.Fingerprint.{is_given, bad_given, packed}
use Rattle.tree.specs.Subtree.{listed}
use Rattle.tree.specs.Pool.{clear_map}
use Rattle.tree.proofs.Tests.{said}
use Rattle.tree.proofs.OwnTables.{given_good}
use Rattle.tree.proofs.Memory.{apply_laws, segment_laws}
use Rattle.book.specs.Heads.{idle_heads}
use Rattle.book.specs.Refusals.{refusal}
use Rattle.book.specs.State.{State, Operation, format, scratch_after}
use Rattle.book.specs.Checks.{bad_map, refusals}
use Rattle.book.specs.Perform.{format_stores, table_stores, given_stores, granted, leaves, clears}
use Rattle.book.proofs.Refusals.{denies, denied, passed_all, refused_here, refused_later}
use Rattle.operations.specs.Ends.{no_buffers, state, ended, ends}
use Rattle.operations.proofs.Endings.{no_script, refused, done}

-- ---- words stored to in a loop

-- a store for each number, at the index that it gives, of the word that it gives
abbrev pub puts : (at word : ℕ → ℕ) → List ℕ → List Store
puts at word is = map (λ i. (at i, word i)) is

abbrev pub zeros : (ℕ → ℕ) → List ℕ → List Store
zeros at is = puts at (λ i. 0) is

module _ (at word : ℕ → ℕ) where
  pub put_none : (im : List ℕ) (from : ℕ) → im ≡ apply im (stores (puts at word (range from 0)))
  unfolding range
  put_none im from = sym (segment_laws.apply_stores im (puts at word (range from 0)))

  set_suc : (im : List ℕ) (from k : ℕ)
      → set (set_all im (puts at word (range from k))) (at (from + k)) (word (from + k)) ≡ set_all im (puts at word (range from (suc k)))
  unfolding range
  set_suc im from zero = ap (λ i. set im (at i) (word i)) (omega arith)
  set_suc im from (suc k) =
      ap (λ i. set (set_all (set im (at from) (word from)) (puts at word (range (suc from) k))) (at i) (word i)) (omega arith)
      ∙ set_suc (set im (at from) (word from)) (suc from) k

  put_suc : (im : List ℕ) (from k : ℕ)
      → set (apply im (stores (puts at word (range from k)))) (at (from + k)) (word (from + k)) ≡ apply im (stores (puts at word (range from (suc k))))
  put_suc im from k =
      rw (segment_laws.apply_stores im (puts at word (range from k)), segment_laws.apply_stores im (puts at word (range from (suc k)))) (set_suc im from k)

  -- the loop's step: word i is the next of them
  pub put_more : (im now : List ℕ) (from k n i v : ℕ) → now ≡ apply im (stores (puts at word (range from k))) → n ≡ k + 1 → i ≡ at (from + k)
      → v ≡ word (from + k) → set now i v ≡ apply im (stores (puts at word (range from n)))
  put_more im now from k n i v e more here what = rw (e, more, here, what, add-one k) (put_suc im from k)

-- ---- the stores in turn

abbrev pub header_stores : Geometry → List Store
header_stores g = (0, 2) ∷ (1, g.slots) ∷ (2, g.nodes) ∷ zeros (λ i. i) (range 3 61)

pub header_first : (g : Geometry) (im : List ℕ)
    → apply (set (set (set im 0 2) 1 g.slots) 2 g.nodes) (stores (zeros (λ i. i) (range 3 61))) ≡ apply im (stores (header_stores g))
header_first g im =
    segment_laws.apply_stores (set (set (set im 0 2) 1 g.slots) 2 g.nodes) (zeros (λ i. i) (range 3 61))
    ∙ sym (segment_laws.apply_stores im (header_stores g))

-- words 3 to 63 filled with 0, after the first three were set
pub header_filled : (g : Geometry) (im ys : List ℕ) → 64 ≤ length im
    → let xs = set (set (set im 0 2) 1 g.slots) 2 g.nodes in
    ys ≡ replicate (length (take 61 (drop 3 xs))) 0
    → take 3 xs ++ (ys ++ drop 61 (drop 3 xs)) ≡ apply im (stores (header_stores g))
unfolding range
header_filled g im ys long e =
    let xs = set (set (set im 0 2) 1 g.slots) 2 g.nodes in
    let same : length xs ≡ length im = simp length-set in
    let count : length (take 61 (drop 3 xs)) ≡ 61 = simp (length-take, length-drop) (omega arith) in
    let rest : drop 61 (drop 3 xs) ≡ drop 64 xs = drop-drop 61 3 xs in
    let filled : take 3 xs ++ (replicate 61 0 ++ drop 64 xs) ≡ set_all xs (zeros (λ i. i) (range 3 61)) =
    sym (sets-eq (replicate 61 0) xs 3 (omega arith) ∙ append_assoc (take 3 xs) (replicate 61 0) (drop 64 xs)) in
    rw (e, count, rest) (filled ∙ sym (segment_laws.apply_stores xs (zeros (λ i. i) (range 3 61))) ∙ header_first g im)

pub header_then_roots : (g : Geometry) (im : List ℕ)
    → apply (apply im (stores (header_stores g))) (stores (zeros root_at (up_to g.slots))) ≡ apply im (stores (format_stores g))
unfolding format_stores
header_then_roots g im =
    sym (apply_laws.in_turn im (stores (header_stores g)) (stores (zeros root_at (up_to g.slots))))
    ∙ ap (apply im) (sym (segment_laws.stores_append (header_stores g) (zeros root_at (up_to g.slots))))

-- ---- a given table

pub given_256 : (table : List ℕ) → holds (bad_given table) ≡ false → length table ≢ 0 → length table ≡ 256
unfolding is_given
given_256 table good n = (given_good table (lt-ltb 0 (length table) (omega arith)) good).entries

pub none_given : (table im : List ℕ) → length table ≡ 0 → im ≡ apply im (stores (given_stores table))
unfolding is_given
none_given table im e = rw e (sym (segment_laws.apply_stores im []))

pub table_first : (table im : List ℕ) → length table ≡ 256
    → apply (set im own_at 1) (stores (puts (λ j. table_at + j) (packed table) (range 0 32))) ≡ apply im (stores (given_stores table))
unfolding is_given table_stores up_to
table_first table im e =
    rw e (segment_laws.apply_stores (set im own_at 1) (puts (λ j. table_at + j) (packed table) (range 0 32))
    ∙ sym (segment_laws.apply_stores im (table_stores table)))

-- ---- an image that is written to keeps its length

pub sized_still : {im im' : List ℕ} {g : Geometry} → length im' ≡ length im → Sized im g → Sized im' g
sized_still e s = record { words = e ∙ s.words; slots_limit = s.slots_limit; nodes_limit = s.nodes_limit }

-- ---- how it ends

-- R and N as they are given
abbrev pub sizes : (slots nodes : ℕ) → Geometry
sizes slots nodes = record { slots = slots; nodes = nodes }

module _ (im pool table heads : List ℕ) (slots nodes : ℕ) where
  abbrev op : Operation
  op = format (length pool) table slots nodes

  abbrev start : State
  start = state im pool heads

  -- a refusal leaves everything as it was
  left : (n : ℕ) → refusal (refusals op start) ≡ n → n ≢ 0 → ended n 0 start no_buffers ≡ ends op start no_buffers
  unfolding leaves clears scratch_after
  left n e z = sym (refused op start no_buffers n e z refl)

  pub image_refused : holds (bad_image (length im) (sizes slots nodes)) ≡ true → ended 1 0 start no_buffers ≡ ends op start no_buffers
  unfolding refusals
  image_refused bad = left 1 (refused_here _ _ bad) (omega arith)

  module _ (fine : holds (bad_image (length im) (sizes slots nodes)) ≡ false) where
    pub map_refused : length pool ≢ map_words (sizes slots nodes) → ended 3 0 start no_buffers ≡ ends op start no_buffers
    unfolding refusals
    map_refused bad = left 3 (refused_later _ _ fine ∙ refused_here _ _ (said (bad_map (sizes slots nodes) (length pool)) bad)) (omega arith)

    module _ (words : length pool ≡ map_words (sizes slots nodes)) where
      pub table_refused : holds (bad_given table) ≡ true → ended 16 0 start no_buffers ≡ ends op start no_buffers
      unfolding refusals
      table_refused bad =
          left 16 (refused_later _ _ fine ∙ refused_later _ _ (denied (bad_map (sizes slots nodes) (length pool)) words) ∙ refused_here _ _ bad) (omega arith)

      pub formatted : (im' pool' : List ℕ) → holds (bad_given table) ≡ false
          → im' ≡ apply (apply (apply im (stores (header_stores (sizes slots nodes)))) (stores (zeros root_at (up_to slots)))) (stores (given_stores table))
          → pool' ≡ clear_map (length pool) → ended 0 0 (state im' pool' idle_heads) no_buffers ≡ ends op start no_buffers
      unfolding refusals granted clears scratch_after listed
      formatted im' pool' good image-is pool-is =
          let none = passed_all (refusals op start) (denies (bad_image (length im) (sizes slots nodes)) fine, (words, (denies (bad_given table) good, tt))) in
          let image : im' ≡ apply (apply im (stores (format_stores (sizes slots nodes)))) (stores (given_stores table)) =
          image-is ∙ ap (λ x. apply x (stores (given_stores table))) (header_then_roots (sizes slots nodes) im) in
          rw (image, pool-is ∙ ap clear_map words) (sym (done op start no_buffers none ∙ no_script op _ no_buffers refl))
