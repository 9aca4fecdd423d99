-- A table that a format is given: what its stores leave in the header.
use mathlib.Core.Path.{◌≡◌, refl, sym, ◌∙◌, ap, subst}
use mathlib.Core.Bool.{true, false}
use mathlib.Core.Logic.{◌⊎◌, inl, inr, ◌≢◌}
use mathlib.Core.List.Memᴰ
use mathlib.Core.List.{List, Memᴰ}
use Prim.Native.Nat.{ℕ, ◌+◌, ◌^◌, ◌≤◌, ◌<◌}
use native.Mathlib.Omega.{arith}
use lib.ListN.{length}
use Rattle.tree.specs.Memory.{Memory, reads, Store, stores, apply, Fit}
use Rattle.tree.specs.Test.{holds}
use Rattle.tree.specs.Lists.{up_to}
use Rattle.tree.specs.Layout.{edition_at, own_at, table_at}
use Rattle.tree.specs.Fingerprint.{rule_for, own_rule, has_own, stored_table, rule_of, has_every, bad_own, is_given, bad_given, packed}
use Rattle.tree.proofs.Cases.{test}
use Rattle.tree.proofs.Lists.{up_to_members}
use Rattle.tree.proofs.Memory.{settles, torn_whole}
use Rattle.tree.proofs.Fingerprints.{own_rule_lem, our_rule}
use Rattle.tree.proofs.OwnTables.{table_laws, given_good}
use Rattle.book.specs.Perform.{table_stores, given_stores}

-- ---- its stores

-- to word 3, and to one of words 8 to 39
data Stored (table : List ℕ) : ℕ → ℕ → Type 0 where
  mark : {i v : ℕ} → i ≡ own_at → v ≡ 1 → Stored table i v
  entries : {i v : ℕ} (j : ℕ) → j < 32 → i ≡ table_at + j → v ≡ packed table j → Stored table i v

stored : (table : List ℕ) {i v : ℕ} → Memᴰ (i, v) (table_stores table) → Stored table i v
unfolding table_stores
stored table (Memᴰ.head q) = mark (ap (λ s. s.0) q) (ap (λ s. s.1) q)
stored table (Memᴰ.tail x) =
    let t = Memᴰ.of_map {A = ℕ} {B = Store} (λ j. (table_at + j, packed table j)) (up_to 32) x in
    entries t.0 ((up_to_members 32).0 t.1) (sym (ap (λ s. s.0) t.2)) (sym (ap (λ s. s.1) t.2))

-- one value for each word
one_value : {table : List ℕ} {i v v' : ℕ} → Stored table i v → Stored table i v' → v ≡ v'
one_value (mark p q) (mark p' q') = q ∙ sym q'
one_value (mark p q) (entries j l p' q') = absurd (omega arith)
one_value (entries j l p q) (mark p' q') = absurd (omega arith)
one_value {table} (entries j l p q) (entries k l' p' q') = let e : j ≡ k = omega arith in q ∙ ap (packed table) e ∙ sym q'

-- ---- an image with it

abbrev pub with_table : (table image : List ℕ) → List ℕ
with_table table im = apply im (stores (given_stores table))

-- without a table no word changes
pub none_given : (table im : List ℕ) → is_given table ≡ false → (i : ℕ) → reads (with_table table im) i ≡ reads im i
none_given table im e i = elim ((torn_whole im (given_stores table)).each i) [ inl q ↦ q | inr x ↦ absurd (Memᴰ.not-nil (rw e at x)) ]

-- with one, only those
changed : (table im : List ℕ) (i : ℕ) → (reads (with_table table im) i ≡ reads im i) ⊎ Stored table i (reads (with_table table im) i)
changed table im i = elim (test (is_given table)) [
  | inl e ↦ elim ((torn_whole im (given_stores table)).each i) [ inl q ↦ inl q | inr x ↦ inr (stored table (subst (Memᴰ _) (given_is e) x)) ]
  | inr e ↦ inl (none_given table im e i)
]
  where
    given_is : is_given table ≡ true → given_stores table ≡ table_stores table
    given_is e = rw e refl

pub beside_table : (table im : List ℕ) (i : ℕ) → i ≢ own_at → (i < 8) ⊎ (40 ≤ i) → reads (with_table table im) i ≡ reads im i
beside_table table im i n o = elim (changed table im i) [
  | inl q ↦ q
  | inr x ↦ absurd (elsewhere x o)
]
  where
    elsewhere : {v : ℕ} → Stored table i v → (i < 8) ⊎ (40 ≤ i) → ⊥
    elsewhere (mark p q) o = n p
    elsewhere (entries j l p q) (inl h) = omega arith
    elsewhere (entries j l p q) (inr h) = omega arith

module _ (table im : List ℕ) (e : is_given table ≡ true) (long : 40 ≤ length im) where
  put : (i v : ℕ) → i < length im → Memᴰ (i, v) (table_stores table) → reads (with_table table im) i ≡ v
  put i v l x = rw e (settles im (table_stores table) i v l (λ u y. one_value (stored table y) (stored table x)) (inr x))

  pub own_put : reads (with_table table im) own_at ≡ 1
  unfolding table_stores
  own_put = put own_at 1 (omega arith) (Memᴰ.head refl)

  pub entries_put : (j : ℕ) → j < 32 → reads (with_table table im) (table_at + j) ≡ packed table j
  unfolding table_stores
  entries_put j l = put (table_at + j) (packed table j) (omega arith) (Memᴰ.tail (Memᴰ.map (λ j. (table_at + j, packed table j)) ((up_to_members 32).1 l)))

pub fits_table : (table im : List ℕ) → holds (bad_given table) ≡ false → Fit im → Fit (with_table table im)
fits_table table im good fit i = elim (test (is_given table)) [
  | inl e ↦ elim (changed table im i) [ inl q ↦ rw q (fit i) | inr x ↦ small e x ]
  | inr e ↦ rw (none_given table im e i) (fit i)
]
  where
    small : {v : ℕ} → is_given table ≡ true → Stored table i v → v < 2 ^ 64
    small e (mark p q) = omega arith
    small e (entries j l p q) = rw q (table_laws.word_fits (given_good table e good) j l)

-- ---- read back

-- an image of edition 2 whose words 3 to 63 are 0, with the table that was given: it has its own exactly if one was
module _ (table im : List ℕ) (good : holds (bad_given table) ≡ false) (long : 40 ≤ length im)
    (edition : reads im edition_at ≡ 2) (clear : reads im own_at ≡ 0) where
  abbrev m : Memory
  m = reads (with_table table im)

  edition_kept : m edition_at ≡ 2
  edition_kept = beside_table table im edition_at (λ q. omega arith) (inl (omega arith)) ∙ edition

  table_back : is_given table ≡ true → stored_table m ≡ table
  table_back e = table_laws.read_back (given_good table e good) m (entries_put table im e long)

  pub as_given : has_own m ≡ is_given table
  unfolding has_own
  as_given = elim (test (is_given table)) [
    | inl e ↦ rw (edition_kept, own_put table im e long, e) refl
    | inr e ↦ rw (edition_kept, none_given table im e own_at, clear, e) refl
  ]

  pub not_bad : holds (bad_own m) ≡ false
  unfolding bad_own
  not_bad = elim (test (is_given table)) [
    | inl e ↦
        let t = given_good table e good in
        let every : has_every table ≡ true = (table_laws.lacks_none table t.entries).1 t.once_each in
        rw (edition_kept, own_put table im e long, table_back e, every) refl
    | inr e ↦ rw (edition_kept, none_given table im e own_at, clear) refl
  ]

  pub rule_given : (is_given table ≡ true → rule_of m ≡ own_rule table) × (is_given table ≡ false → rule_of m ≡ rule_for 2)
  rule_given = (
    λ e. own_rule_lem m (as_given ∙ e) ∙ ap own_rule (table_back e),
    λ e. our_rule m (as_given ∙ e) ∙ ap rule_for edition_kept,
  )
