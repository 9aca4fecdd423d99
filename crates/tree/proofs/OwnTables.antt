-- A mill's own table: 256 entries that lack no byte have each once; packed into words 8 to 39 they are read back.
use mathlib.Core.Path.{◌≡◌, refl, sym, ◌∙◌, ap}
use mathlib.Core.Bool.{Bool, true, false, cond, not}
use mathlib.Core.Logic.{◌⊎◌, inl, inr, ◌↔◌, ◌≢◌}
use mathlib.Core.List.{List, [], ◌∷◌, Memᴰ}
use Prim.Native.Nat.{ℕ, zero, suc, ◌+◌, ◌*◌, ◌/◌, ◌%◌, ◌^◌, ◌≤◌, ◌<◌}
use native.Mathlib.Omega.{arith}
use native.Mathlib.Decide.{ℕ_discrete, dec_lt}
use lib.ListN.{length, get_or}
use lib.Seq.{ext_get_or}
use lib.Dec.{ltb}
use borrow.Author.Tests.{ltb-true, ltb-false, lt-ltb, not-true}
use Rattle.memory.specs.Words.{Memory, byte}
use Rattle.memory.proofs.Laws.{byte_laws}
use Rattle.tree.specs.Test.{lt, eq, ne, is, ◌and◌, ◌or◌, holds}
use Rattle.tree.specs.Layout.{edition_at, own_at, table_at}
use Rattle.tree.specs.Lists.{up_to, every, has_key}
use Rattle.tree.specs.Fingerprint.{Rule, fingerprint, the_table, rule_for, entry_in, own_rule, has_own, unpacked, stored_table, rule_of, has_every, bad_own, is_given, bad_given, bytes_to, packed, OnceEach, GoodTable, LacksByte, BadOwn}
use Rattle.tree.specs.Laws.{TableLaws, RuleLaws}
use Rattle.tree.proofs.Cases.{test, not-false, true_not_false}
use Rattle.tree.proofs.Tests.{says, said}
use Rattle.tree.proofs.Lists.{at_index, index_of, up_to_members, every_at, at_every}
use Rattle.tree.proofs.Distinct.{has_key_lem, key_has, distinct_by, distinct_up_to}
use Rattle.tree.proofs.Pigeon.{pigeon, length_up_to}
use Rattle.tree.proofs.Fingerprints.{same_table, table_at_lem, table_length, table_once, unpacked_length, unpacked_at, own_rule_lem, our_rule}

-- ---- a byte among a table's entries

-- a table has a byte at some index below k
pub record AmongFirst (t : List ℕ) (k b : ℕ) : Type 0 where
  pub index : ℕ
  pub low : index < k
  pub is : get_or t index 0 ≡ b

pub lacks_no : (t : List ℕ) → (has_every t ≡ true) ↔ ((b : ℕ) → b < 256 → AmongFirst t (length t) b)
unfolding has_every
lacks_no t = (
  λ e b h.
      let x = key_has (λ x. x) b t (every_at _ e ((up_to_members 256).1 h)) in
      let i = index_of 0 x.1 in
      record { index = i.0; low = i.1; is = i.2 ∙ x.2 },
  λ f. at_every _ (up_to 256) (λ b x.
      let a = f b ((up_to_members 256).0 x) in
      rw a.is at (has_key_lem (λ x. x) (at_index 0 t a.index a.low))),
)

-- ---- each byte has a place of its own among 256, so that every place is some byte's

module _ (t : List ℕ) (l : length t ≡ 256) (e : has_every t ≡ true) where
  placed : (b : ℕ) → (ltb b 256 ≡ true) ⊎ (ltb b 256 ≡ false) → ℕ
  placed b (inl q) = ((lacks_no t).0 e b (ltb-true b 256 q)).index
  placed b (inr q) = 256

  -- the place of a byte
  place : ℕ → ℕ
  place b = placed b (test (ltb b 256))

  placed_is : (b : ℕ) (o : (ltb b 256 ≡ true) ⊎ (ltb b 256 ≡ false)) → b < 256 → (placed b o < 256) × (get_or t (placed b o) 0 ≡ b)
  unfolding placed
  placed_is b (inl q) h = let a = (lacks_no t).0 e b (ltb-true b 256 q) in (omega (arith, a.low), a.is)
  placed_is b (inr q) h = absurd (omega (arith, ltb-false b 256 q))

  place_is : (b : ℕ) → b < 256 → (place b < 256) × (get_or t (place b) 0 ≡ b)
  unfolding place
  place_is b h = placed_is b (test (ltb b 256)) h

  -- the places, and a further one for 256
  abbrev further : ℕ → ℕ → ℕ
  further i b = cond (ltb b 256) (place b) i

  further_low : (i b : ℕ) → i < 256 → further i b < 256
  further_low i b h = elim (test (ltb b 256)) [ inl q ↦ rw q (place_is b (ltb-true b 256 q)).0 | inr q ↦ rw q h ]

  one : (i : ℕ) → ((b : ℕ) → b < 256 → place b ≢ i) → (b c : ℕ) → b < 257 → c < 257 → further i b ≡ further i c → b ≡ c
  one i free b c u v h = elim (test (ltb b 256)) [
    | inl p ↦ elim (test (ltb c 256)) [
      | inl q ↦ let h' = rw (p, q) at h in sym (place_is b (ltb-true b 256 p)).1 ∙ ap (λ k. get_or t k 0) h' ∙ (place_is c (ltb-true c 256 q)).1
      | inr q ↦ absurd (free b (ltb-true b 256 p) (rw (p, q) at h))
    ]
    | inr p ↦ elim (test (ltb c 256)) [
      | inl q ↦ absurd (free c (ltb-true c 256 q) (sym (rw (p, q) at h)))
      | inr q ↦ omega (arith, ltb-false b 256 p, ltb-false c 256 q)
    ]
  ]

  too_many : (i : ℕ) → i < 256 → ((b : ℕ) → b < 256 → place b ≢ i) → ⊥
  too_many i h free =
      let few = pigeon (further i) 256 (up_to 257) (distinct_by (further i) (distinct_up_to 257) (λ b c x y q.
      one i free b c ((up_to_members 257).0 x) ((up_to_members 257).0 y) q)) (λ b x. further_low i b h) in
      omega (arith, length_up_to 257)

  -- so every entry is a byte, whose place is there
  own_place : (i : ℕ) → i < 256 → (get_or t i 0 < 256) × (place (get_or t i 0) ≡ i)
  own_place i h =
      elim (dec_lt (get_or t i 0) 256) [
        | yes k ↦ elim (ℕ_discrete (place (get_or t i 0)) i) [
          | yes q ↦ (k, q)
          | no d ↦ absurd (too_many i h (λ b u q. d (ap place (sym (ap (λ j. get_or t j 0) q) ∙ (place_is b u).1) ∙ q)))
        ]
        | no k ↦ absurd (too_many i h (λ b u q. k (omega (arith, ap (λ j. get_or t j 0) q, (place_is b u).1))))
      ]

  once_each : OnceEach (entry_in t)
  once_each = record {
    entries = λ i h. (own_place i h).0;
    occurs = λ b h. (place b, (place_is b h).0, (place_is b h).1);
    once = λ i j h k q. sym (own_place i h).1 ∙ ap place q ∙ (own_place j k).1;
  }

lacks_none : (t : List ℕ) → length t ≡ 256 → (has_every t ≡ true) ↔ OnceEach (entry_in t)
lacks_none t l = (
  once_each t l,
  λ a. (lacks_no t).1 (λ b h. let o = a.occurs b h in record { index = o.0; low = omega (arith, o.1, l); is = o.2 }),
)

-- ---- a given table

empty_or_given : (t : List ℕ) → (t ≡ []) ⊎ (is_given t ≡ true)
unfolding is_given
empty_or_given [] = inl refl
empty_or_given (x ∷ t) = inr (lt-ltb 0 (suc (length t)) (omega arith))

pub given_none : (t : List ℕ) → is_given t ≡ false → t ≡ []
given_none t e = elim (empty_or_given t) [ inl q ↦ q | inr g ↦ absurd (true_not_false g e) ]

pub given_good : (t : List ℕ) → is_given t ≡ true → holds (bad_given t) ≡ false → GoodTable t
unfolding bad_given
given_good t g e =
    let test-is = is (is_given t) and (ne (length t) 256 or is (not (has_every t))) in
    let long : length t ≡ 256 = elim (ℕ_discrete (length t) 256) [ yes q ↦ q | no q ↦ absurd (true_not_false (said test-is (g, inl q)) e) ] in
    let every : has_every t ≡ true = elim (test (has_every t)) [ inl q ↦ q | inr q ↦ absurd (true_not_false (said test-is (g, inr (rw q refl))) e) ] in
    record { entries = long; once_each = (lacks_none t long).0 every }

given : (t : List ℕ) → (holds (bad_given t) ≡ false) ↔ ((t ≡ []) ⊎ GoodTable t)
unfolding bad_given is_given
given t = (
  λ e. elim (empty_or_given t) [ inl q ↦ inl q | inr g ↦ inr (given_good t g e) ],
  λ o. elim o [ inl q ↦ rw q none | inr a ↦ good a ],
)
  where
    none : holds (bad_given []) ≡ false
    none = refl

    good : GoodTable t → holds (bad_given t) ≡ false
    good a = not-false (λ h. elim (says (is (is_given t) and (ne (length t) 256 or is (not (has_every t)))) h).1 [
      | inl q ↦ q a.entries
      | inr q ↦ true_not_false q (rw ((lacks_none t a.entries).1 a.once_each) refl)
    ])

-- ---- bytes in a word, and a table's words

module _ (b : ℕ → ℕ) (small : (k : ℕ) → k < 8 → b k < 256) where
  pub bytes_fit : (k : ℕ) → k ≤ 8 → bytes_to b k < 2 ^ 64
  unfolding bytes_to
  bytes_fit zero l = omega arith
  bytes_fit (suc k) l = byte_laws.with_fits (bytes_to b k) k (b k) 64 (small k (omega arith)) (omega arith) (bytes_fit k (omega arith))

  pub bytes_at : (k i : ℕ) → k ≤ 8 → i < k → byte (bytes_to b k) i ≡ b i
  unfolding bytes_to
  bytes_at zero i l h = absurd (omega arith)
  bytes_at (suc k) i l h = let w = small k (omega arith) in elim (ℕ_discrete i k) [
    | yes q ↦ rw q (byte_laws.with_puts (bytes_to b k) k (b k) w)
    | no q ↦ byte_laws.with_keeps (bytes_to b k) k (b k) i w q ∙ bytes_at k i (omega arith) (omega arith)
  ]

module _ (t : List ℕ) (bytes : (i : ℕ) → i < 256 → get_or t i 0 < 256) where
  in_word : (j : ℕ) → j < 32 → (k : ℕ) → k < 8 → get_or t (8 * j + k) 0 < 256
  in_word j h k l = bytes (8 * j + k) (omega arith)

  -- read back, for any table of bytes
  pub packed_back : length t ≡ 256 → (m : Memory) (from : ℕ) → ((j : ℕ) → j < 32 → m (from + j) ≡ packed t j) → unpacked m from ≡ t
  unfolding packed
  packed_back l m from h = ext_get_or 0 (unpacked m from) t (unpacked_length m from ∙ sym l) (λ i k.
      let b : i < 256 = omega (arith, unpacked_length m from) in
      let q : 8 * (i / 8) + i % 8 ≡ i = omega arith in
      unpacked_at m from i b
      ∙ ap (λ w. byte w (i % 8)) (h (i / 8) (omega arith))
      ∙ bytes_at (λ k. get_or t (8 * (i / 8) + k) 0) (in_word (i / 8) (omega arith)) 8 (i % 8) (omega arith) (omega arith)
      ∙ ap (λ j. get_or t j 0) q)

word_fits : {t : List ℕ} → GoodTable t → (j : ℕ) → j < 32 → packed t j < 2 ^ 64
unfolding packed
word_fits {t} a j h = bytes_fit (λ k. get_or t (8 * j + k) 0) (in_word t a.once_each.entries j h) 8 (omega arith)

-- ---- the table of an image

good_stored : (m : Memory) → holds (bad_own m) ≡ false → has_own m ≡ true → has_every (stored_table m) ≡ true
unfolding bad_own has_own
good_stored m e o =
    let h = says (eq (m edition_at) 2 and eq (m own_at) 1) o in
    elim (test (has_every (stored_table m))) [
      | inl q ↦ q
      | inr q ↦ absurd (true_not_false (said (eq (m edition_at) 2 and (lt 1 (m own_at) or (eq (m own_at) 1 and is (not (has_every (stored_table m))))))
          (h.0, inr (h.1, rw q refl))) e)
    ]

image_once : (m : Memory) → holds (bad_own m) ≡ false → OnceEach (rule_of m).table
unfolding rule_for own_rule
image_once m e = elim (test (has_own m)) [
  | inl o ↦ rw (own_rule_lem m o) ((lacks_none (stored_table m) (unpacked_length m table_at)).0 (good_stored m e o))
  | inr o ↦ rw (our_rule m o) table_once
]

-- ---- what the tests say, byte by byte

-- where a test does not hold of every element, it fails at one
fails_at : {A : Type 0} (p : A → Bool) (xs : List A) → every p xs ≡ false → (a : A) × Memᴰ a xs × (p a ≡ false)
unfolding every
fails_at p [] e = absurd (true_not_false refl e)
fails_at p (x ∷ xs) e = elim (test (p x)) [
  | inl h ↦ let t = fails_at p xs (rw h at e) in (t.0, Memᴰ.tail t.1, t.2)
  | inr h ↦ (x, Memᴰ.head refl, h)
]

lacks : (t : List ℕ) → length t ≡ 256 → (has_every t ≡ false) ↔ LacksByte (entry_in t)
unfolding has_every
lacks t l = (
  λ e.
      let x = fails_at (λ b. has_key (λ y. y) b t) (up_to 256) e in
      record {
        lacking = x.0;
        low = (up_to_members 256).0 x.1;
        nowhere = λ i h q. true_not_false (rw q at (has_key_lem (λ y. y) (at_index 0 t i (omega (arith, l))))) x.2;
      },
  λ a. elim (test (has_every t)) [
    | inl e ↦ let x = (lacks_no t).0 e a.lacking a.low in absurd (a.nowhere x.index (omega (arith, x.low, l)) x.is)
    | inr e ↦ e
  ],
)

-- the bytes of the stored table's words
lacks_stored : (m : Memory) → (has_every (stored_table m) ≡ false) ↔ LacksByte (λ i. byte (m (8 + i / 8)) (i % 8))
lacks_stored m =
    let l = lacks (stored_table m) (unpacked_length m table_at) in (
      λ e. let a = l.0 e in
          record { lacking = a.lacking; low = a.low; nowhere = λ i h q. a.nowhere i h (unpacked_at m table_at i h ∙ q) },
      λ a. l.1 (record { lacking = a.lacking; low = a.low; nowhere = λ i h q. a.nowhere i h (sym (unpacked_at m table_at i h) ∙ q) }),
    )

bad : (m : Memory) → (holds (bad_own m) ≡ true) ↔ BadOwn m
unfolding bad_own
bad m =
    let t = eq (m edition_at) 2 and (lt 1 (m own_at) or (eq (m own_at) 1 and is (not (has_every (stored_table m))))) in (
      λ e. let h = says t e in
          (h.0, elim h.1 [ inl l ↦ inl l | inr x ↦ inr (x.0, (lacks_stored m).0 (not-true _ x.1)) ]),
      λ b. said t (b.0, elim b.1 [ inl l ↦ inl l | inr x ↦ inr (x.0, ap not ((lacks_stored m).1 x.1)) ]),
    )

pub bad_or_not : (m : Memory) → (holds (bad_own m) ≡ false) ↔ (BadOwn m → ⊥)
bad_or_not m = (λ e b. true_not_false ((bad m).1 b) e, λ n. not-false (λ e. n ((bad m).0 e)))

-- ---- the paper's table, given

ours : GoodTable the_table
ours = record {
  entries = table_length;
  once_each = record {
    entries = λ i h. rw (table_at_lem i h) (table_once.entries i h);
    occurs = λ b h. let x = table_once.occurs b h in (x.0, x.1, table_at_lem x.0 x.1 ∙ x.2);
    once = λ i j h k e. table_once.once i j h k (sym (table_at_lem i h) ∙ e ∙ table_at_lem j k);
  };
}

ours_alike : (f : ℕ) → fingerprint (own_rule the_table) f ≡ fingerprint (rule_for 2) f
unfolding fingerprint own_rule rule_for
ours_alike f = same_table ours.once_each.entries table_at_lem 8 f

-- ---- the rule, by words

pub has_own_lem : (m : Memory) → (has_own m ≡ true) ↔ ((m 0 ≡ 2) × (m 3 ≡ 1))
unfolding has_own
has_own_lem m = (says (eq (m edition_at) 2 and eq (m own_at) 1), said (eq (m edition_at) 2 and eq (m own_at) 1))

-- where it has none, its edition's rule
no_own : (m : Memory) → ((m 0 ≡ 2) × (m 3 ≡ 1) → ⊥) → (has_own m ≡ false) × (rule_of m ≡ rule_for (m 0))
no_own m n = let e = not-false (λ h. n ((has_own_lem m).0 h)) in (e, our_rule m e)

pub rule_laws : (m : Memory) → RuleLaws m
unfolding own_rule
rule_laws m = record {
  edition_1 = λ a. let t = no_own m (λ h. omega arith) in (t.0, t.1 ∙ ap rule_for a);
  no_table = λ a b. let t = no_own m (λ h. omega arith) in (t.0, t.1 ∙ ap rule_for a);
  own_table = λ a b.
      let e = (has_own_lem m).1 (a, b) in
      let r = own_rule_lem m e in
      (e, ap (λ (x : Rule). x.bytes) r, λ i h. ap (λ (x : Rule). x.table i) r ∙ unpacked_at m table_at i h);
}

pub table_laws : TableLaws
table_laws = record {
  lacks_none = lacks_none;
  given = given;
  read_back = λ {table} a m h. packed_back table a.once_each.entries a.entries m table_at h;
  word_fits = word_fits;
  ours = ours;
  ours_alike = ours_alike;
  bad = bad;
  lacks = lacks;
  image_once = image_once;
}
