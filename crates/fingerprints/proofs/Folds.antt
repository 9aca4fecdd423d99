-- A fold over a table, step by step, in the code's own terms: whether the table is lent, stored, or the paper's rule.
use mathlib.Core.Path.{◌≡◌, refl, sym, ◌∙◌}
use mathlib.Core.Bool.{true, false}
use mathlib.Core.List.{List}
use mathlib.Core.Logic.{inl, inr}
use Prim.Native.Nat.{ℕ, ◌+◌, ◌<◌}
use native.Mathlib.Numerals.{add-one}
use lib.ListN.{length}
use lib.Bits.{bit_xor, xor_lt}
use Rattle.memory.specs.Words.{Memory, byte}
use Rattle.memory.proofs.Laws.{byte_laws}
use Rattle.tree.specs.Test.{eq, ◌and◌}
use Rattle.tree.specs.Layout.{edition_at, own_at, table_at}
use Rattle.tree.specs.Fingerprint.{folded, fingerprint, table_entry, the_table, rule_for, entry_in, own_rule, has_own, stored_table, rule_of}
use Rattle.tree.proofs.Cases.{test}
use Rattle.tree.proofs.Tests.{says}
use Rattle.tree.proofs.Fingerprints.{Bytes, bytes_lt, same_table, table_at_lem, table_length, unpacked_length, own_rule_lem, our_rule, fingerprint_laws}
use Rattle.fingerprints.specs.Tables.{table_in}

pub byte_small : {b : ℕ} (w j : ℕ) → b ≡ byte w j → b < 256
byte_small w j e = rw e (byte_laws.byte_fits w j)

-- the paper's table has bytes alone
pub our_bytes : Bytes table_entry
our_bytes = fingerprint_laws.table_once.entries

-- a step of the fold: to an entry of the table, and so to the next h
pub entry_inside : (k f : ℕ) {h b : ℕ} → h < 256 → b ≡ byte f k → bit_xor h b < 256
entry_inside k f {h} {b} l q = xor_lt 8 h b l (byte_small f k q)

pub folded_step : (table : ℕ → ℕ) (k f : ℕ) {h b e : ℕ} → h ≡ folded table k f → b ≡ byte f k → e ≡ table (bit_xor h b)
    → e ≡ folded table (k + 1) f
unfolding folded
folded_step table k f p q s = rw (add-one, ← p, ← q) s

-- a fold begins with 0
pub begun : (table : ℕ → ℕ) (f : ℕ) → 0 ≡ folded table 0 f
unfolding folded
begun table f = refl

-- the paper's table laid out is its rule
our_table : (k f : ℕ) → folded (entry_in the_table) k f ≡ folded table_entry k f
our_table k f = sym (same_table our_bytes (λ i l. sym (table_at_lem i l)) k f)

-- a frame's fingerprint by an edition's rule, over that table
pub by_edition : {table : List ℕ} {h : ℕ} (e f : ℕ) → table ≡ the_table → h ≡ folded (entry_in table) (rule_for e).bytes f
    → h ≡ fingerprint (rule_for e) f
unfolding fingerprint rule_for
by_edition e f t x = rw t at x ∙ our_table (rule_for e).bytes f

pub edition_small : (e f : ℕ) → fingerprint (rule_for e) f < 256
unfolding fingerprint rule_for
edition_small e f = bytes_lt our_bytes (rule_for e).bytes f

-- ---- a frame's fingerprint in an image

module _ (m : Memory) where
  pub table_in_length : length (table_in m) ≡ 256
  unfolding table_in
  table_in_length = elim (test (has_own m)) [ inl o ↦ rw o (unpacked_length m table_at) | inr o ↦ rw o table_length ]

  own_folds : has_own m ≡ true → (rule_for (m edition_at)).bytes ≡ 8
  unfolding has_own rule_for
  own_folds o = rw (says (eq (m edition_at) 2 and eq (m own_at) 1) o).0 refl

  module _ (f : ℕ) {h : ℕ} where
    pub fingerprint_small : h ≡ fingerprint (rule_of m) f → h < 256
    fingerprint_small e = rw e (fingerprint_laws.rule_fits m f)

    -- over all eight bytes, where the image has its own table
    pub by_own : has_own m ≡ true → h ≡ folded (entry_in (stored_table m)) 8 f → h ≡ fingerprint (rule_of m) f
    unfolding fingerprint own_rule
    by_own o e = rw (own_rule_lem m o) e

    -- over as many as its edition folds, where it has none
    pub by_rule : {e : ℕ} → has_own m ≡ false → e ≡ m edition_at
        → h ≡ folded table_entry (rule_for e).bytes f → h ≡ fingerprint (rule_of m) f
    unfolding fingerprint rule_for
    by_rule o b e = rw (our_rule m o) (rw b at e)

    -- and over a table that is lent
    pub by_table : {table : List ℕ} {e : ℕ} → table ≡ table_in m → e ≡ m edition_at
        → h ≡ folded (entry_in table) (rule_for e).bytes f → h ≡ fingerprint (rule_of m) f
    unfolding table_in
    by_table {table} {e} t b x = elim (test (has_own m)) [
      | inl o ↦ by_own o (rw (rw o at t, b, own_folds o) at x)
      | inr o ↦ by_rule o b (rw (rw o at t) at x ∙ our_table (rule_for e).bytes f)
    ]
