-- Fingerprints over a table in which each byte occurs once.
use mathlib.Core.Path.{◌≡◌, refl, sym, ◌∙◌, ap, ap₂}
use mathlib.Core.Logic.{inl, inr, ◌≢◌}
use mathlib.Core.Bool.{true, false}
use Prim.Native.Nat.{ℕ, zero, suc, ◌+◌, ◌*◌, ◌/◌, ◌%◌, ◌^◌, ◌<◌}
use native.Mathlib.Omega.{arith}
use native.Mathlib.Decide.{ℕ_discrete}
use native.Mathlib.Nat.{pow-suc}
use mathlib.Core.List.{map}
use lib.ListN.{get_or, length, length-map}
use lib.Bits.{bit_xor, differ, xor_step, xor_comm, xor_lt}
use Rattle.memory.specs.Words.{Memory, byte}
use Rattle.memory.proofs.Laws.{byte_laws}
use Rattle.tree.specs.Layout.{edition_at, table_at}
use Rattle.tree.specs.Fingerprint.{folded, fingerprint, table_entry, the_table, rule_for, entry_in, own_rule, has_own, unpacked, stored_table, rule_of, OnceEach}
use Rattle.tree.specs.Test.{eq, ◌and◌, holds}
use Rattle.tree.specs.Lists.{range, up_to, every}
use Rattle.tree.specs.Laws.{FingerprintLaws}
use Rattle.tree.proofs.Cases.{test}
use Rattle.tree.proofs.Tests.{says}
use Rattle.tree.proofs.Lists.{up_to_members, every_at}
use Rattle.tree.proofs.Pigeon.{length_up_to}

-- entries that are bytes
abbrev pub Bytes : (ℕ → ℕ) → Type 0
Bytes table = (i : ℕ) → i < 256 → table i < 256

-- a fold over them is a byte
pub bytes_lt : {table : ℕ → ℕ} → Bytes table → (k f : ℕ) → folded table k f < 256
unfolding folded
bytes_lt t zero f = omega arith
bytes_lt {table} t (suc k) f =
    let h : ℕ = folded table k f in
    t (bit_xor h _) (xor_lt 8 h _ (bytes_lt t k f) (byte_laws.byte_fits f _))

-- and goes by them alone
pub same_table : {table table' : ℕ → ℕ} → Bytes table → ((i : ℕ) → i < 256 → table i ≡ table' i) → (k f : ℕ) → folded table k f ≡ folded table' k f
unfolding folded
same_table t e zero f = refl
same_table {table} t e (suc k) f =
    rw (← same_table t e k f) (e _ (xor_lt 8 (folded table k f) _ (bytes_lt t k f) (byte_laws.byte_fits f _)))

pub folded_lt : {table : ℕ → ℕ} → OnceEach table → (k f : ℕ) → folded table k f < 256
folded_lt t k f = bytes_lt t.entries k f

entry_lt : (i : ℕ) → table_entry i < 256
unfolding table_entry
entry_lt i = omega arith

-- where the table has a byte: 23 is the inverse of 167
place_of : ℕ → ℕ
place_of b = 23 * (b + 243) % 256

-- both ways round, computed for all 256 bytes
inverses : every (λ i. holds (eq (place_of (table_entry i)) i and eq (table_entry (place_of i)) i)) (up_to 256) ≡ true
unfolding every up_to range place_of table_entry
inverses = refl

pub table_once : OnceEach table_entry
unfolding place_of
table_once = record {
  entries = λ i h. entry_lt i;
  occurs = λ b h. (place_of b, omega arith, (both b h).1);
  once = λ i j h k e. sym (both i h).0 ∙ ap place_of e ∙ (both j k).0;
}
  where
    both : (i : ℕ) → i < 256 → (place_of (table_entry i) ≡ i) × (table_entry (place_of i) ≡ i)
    both i h = says (eq (place_of (table_entry i)) i and eq (table_entry (place_of i)) i) (every_at _ inverses ((up_to_members 256).1 h))

-- ---- tables as lists of 256 entries

-- a list made of a function's values in turn
range_at : (f : ℕ → ℕ) (from n i : ℕ) → i < n → get_or (map f (range from n)) i 0 ≡ f (from + i)
unfolding range
range_at f from zero i h = absurd (omega arith)
range_at f from (suc n) zero h = let q : from ≡ from + 0 = omega arith in ap f q
range_at f from (suc n) (suc i) h = let q : suc from + i ≡ from + suc i = omega arith in range_at f (suc from) n i (omega arith) ∙ ap f q

pub made_at : (f : ℕ → ℕ) (n i : ℕ) → i < n → get_or (map f (up_to n)) i 0 ≡ f i
unfolding up_to
made_at f n i h = let q : 0 + i ≡ i = omega arith in range_at f 0 n i h ∙ ap f q

pub made_length : (f : ℕ → ℕ) (n : ℕ) → length (map f (up_to n)) ≡ n
made_length f n = length-map (up_to n) f ∙ length_up_to n

-- the paper's, which the code's table is
pub table_at_lem : (i : ℕ) → i < 256 → get_or the_table i 0 ≡ table_entry i
unfolding the_table
table_at_lem = made_at table_entry 256

pub table_length : length the_table ≡ 256
unfolding the_table
table_length = made_length table_entry 256

-- and one in words
module _ (m : Memory) (from : ℕ) where
  pub unpacked_at : (i : ℕ) → i < 256 → get_or (unpacked m from) i 0 ≡ byte (m (from + i / 8)) (i % 8)
  unfolding unpacked
  unpacked_at = made_at (λ i. byte (m (from + i / 8)) (i % 8)) 256

  pub unpacked_length : length (unpacked m from) ≡ 256
  unfolding unpacked
  unpacked_length = made_length (λ i. byte (m (from + i / 8)) (i % 8)) 256

  pub unpacked_bytes : Bytes (entry_in (unpacked m from))
  unpacked_bytes i h = rw (unpacked_at i h) (byte_laws.byte_fits (m (from + i / 8)) (i % 8))

-- ---- the bytes that it goes by

-- digits of base 2
differ_sum : (x y : ℕ) → x < 2 → y < 2 → differ x y ≡ (x + y) % 2
differ_sum zero y h k = omega arith
differ_sum (suc zero) zero h k = refl
differ_sum (suc zero) (suc zero) h k = refl
differ_sum (suc zero) (suc (suc y)) h k = absurd (omega arith)
differ_sum (suc (suc x)) y h k = absurd (omega arith)

-- numbers that are xored with the same one are told apart
xor_once : (k a b c : ℕ) → b < 2 ^ k → c < 2 ^ k → bit_xor a b ≡ bit_xor a c → b ≡ c
xor_once zero a b c h l e = omega arith
xor_once (suc k) a b c h l e =
    let p : 2 ^ suc k ≡ 2 ^ k * 2 = pow-suc 2 k in
    let s = sym (xor_step a b) ∙ e ∙ xor_step a c in
    let d = differ_sum (a % 2) (b % 2) (omega arith) (omega arith) in
    let d' = differ_sum (a % 2) (c % 2) (omega arith) (omega arith) in
    let high = xor_once k (a / 2) (b / 2) (c / 2) (omega arith) (omega arith) (omega arith) in
    omega arith

folded_alike : (table : ℕ → ℕ) (k f f' : ℕ) → ((i : ℕ) → i < k → byte f i ≡ byte f' i) → folded table k f ≡ folded table k f'
unfolding folded
folded_alike table zero f f' h = refl
folded_alike table (suc k) f f' h =
    ap₂ (λ a b. table (bit_xor a b)) (folded_alike table k f f' (λ i l. h i (omega arith))) (h _ (omega arith))

folded_by_each : {table : ℕ → ℕ} → OnceEach table → (k j f f' : ℕ) → j < k → ((i : ℕ) → i < k → i ≢ j → byte f i ≡ byte f' i)
    → folded table k f ≡ folded table k f' → byte f j ≡ byte f' j
unfolding folded
folded_by_each t zero j f f' l h e = absurd (omega arith)
folded_by_each {table} t (suc k) j f f' l h e =
    let a = folded table k f in
    let a' = folded table k f' in
    let small = folded_lt t k f in
    let small' = folded_lt t k f' in
    let b = byte_laws.byte_fits f k in
    let b' = byte_laws.byte_fits f' k in
    let q : bit_xor a (byte f k) ≡ bit_xor a' (byte f' k) = t.once _ _ (xor_lt 8 a (byte f k) small b) (xor_lt 8 a' (byte f' k) small' b') e in
    elim (ℕ_discrete j k) [
      | yes z ↦
          let same : a ≡ a' = folded_alike table k f f' (λ i o. h i (omega arith) (λ y. omega arith)) in
          rw z (xor_once 8 a (byte f k) (byte f' k) b b' (q ∙ ap (λ x. bit_xor x (byte f' k)) (sym same)))
      | no z ↦
          let same : byte f k ≡ byte f' k = h k (omega arith) (λ y. z (sym y)) in
          let r : bit_xor (byte f k) a ≡ bit_xor (byte f k) a' =
          xor_comm (byte f k) a ∙ q ∙ xor_comm a' (byte f' k) ∙ ap (λ x. bit_xor x a') (sym same) in
          folded_by_each t k j f f' (omega arith) (λ i o n. h i (omega arith) n) (xor_once 8 (byte f k) a a' small small' r)
    ]

-- ---- the rule of an image

pub own_rule_lem : (m : Memory) → has_own m ≡ true → rule_of m ≡ own_rule (stored_table m)
unfolding rule_of
own_rule_lem m e = rw e refl

pub our_rule : (m : Memory) → has_own m ≡ false → rule_of m ≡ rule_for (m edition_at)
unfolding rule_of
our_rule m e = rw e refl

-- by an edition's rule, and by an image's, it is a byte
pub edition_lt : (e f : ℕ) → fingerprint (rule_for e) f < 256
unfolding fingerprint rule_for
edition_lt e f = folded_lt table_once _ f

rule_lt : (m : Memory) (f : ℕ) → fingerprint (rule_of m) f < 256
unfolding fingerprint own_rule
rule_lt m f = elim (test (has_own m)) [
  | inl e ↦ rw (own_rule_lem m e) (bytes_lt (unpacked_bytes m table_at) 8 f)
  | inr e ↦ rw (our_rule m e) (edition_lt _ f)
]

pub fingerprint_laws : FingerprintLaws
unfolding table_entry folded fingerprint rule_for
fingerprint_laws = record {
  entries = λ i. refl;
  editions = (refl, refl, refl, refl);
  fold_none = λ table f. refl;
  fold_next = λ table k f. refl;
  by_rule = λ r f. refl;
  table_once = table_once;
  fits = λ t k f. folded_lt t k f;
  alike = folded_alike;
  by_each = λ t. folded_by_each t;
  rule_fits = rule_lt;
}
