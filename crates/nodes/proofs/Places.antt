-- What the search for a frame in a node asks, in the code's own terms.
use mathlib.Core.Path.{◌≡◌, refl, sym, ◌∙◌, ap}
use mathlib.Core.Bool.{Bool, true, false, ◌&&◌, ◌||◌, or-false, or-true, and-true}
use Prim.Native.Nat.{ℕ, suc, ◌+◌, ◌-◌, ◌*◌, ◌/◌, ◌%◌, ◌^◌, ◌≤◌, ◌<◌}
use native.Mathlib.Omega.{arith}
use native.Mathlib.Decide.{dec_lt, ℕ_discrete}
use lib.Bits.{bit_or, or_lt}
use lib.Dec.{eqb, ltb}
use borrow.Author.Tests.{eqb-true, eq-eqb, ltb-true, lt-ltb}
use Rattle.memory.specs.Words.{Memory, is_set, without_bit, byte, EqualBytes}
use Rattle.memory.proofs.Laws.{bit_laws, no_bit, first_laws, equal_bit, equal_beside, or_bits, half_bits}
use Rattle.tree.specs.declared.layout.Geometry.{Geometry}
use Rattle.tree.specs.Layout.{node_at, set_at, frame_at}
use Rattle.tree.specs.Fingerprint.{fingerprint, rule_of}
use Rattle.tree.specs.Node.{stored_fingerprint}
use Rattle.tree.specs.Lookup.{matches, found_at}
use Rattle.tree.proofs.Cases.{true_not_false, not-false, true_and, and-true as both_true}
use Rattle.tree.proofs.Lookup.{match_facts}

-- ---- eight words' bytes that are b, packed in one word

-- after j words: bit 8k + d is byte k's of word d + j − 8; there is none yet where d + j is below 8
pub record Packed (words : ℕ → ℕ) (b j c : ℕ) : Type 0 where
  fits : c < 2 ^ 64
  clear : (i : ℕ) → i < 64 → i % 8 + j < 8 → is_set c i ≡ false
  equal : (i : ℕ) → i < 64 → 8 ≤ i % 8 + j → is_set c i ≡ eqb (byte (words (i % 8 + j - 8)) (i / 8)) b

module _ (words : ℕ → ℕ) (b : ℕ) where
  pub packed_none : Packed words b 0 0
  packed_none = record { fits = omega arith; clear = λ i l h. no_bit i; equal = λ i l h. absurd (omega arith) }

  -- the bit that comes down past a byte's lowest is 0
  comes_down : (j c i : ℕ) → j < 8 → Packed words b j c → i < 64 → i % 8 ≡ 7 → is_set c (suc i) ≡ false
  comes_down j c i h a l e = elim (dec_lt (suc i) 64) [
    | yes k ↦ a.clear (suc i) k (omega arith)
    | no k ↦ bit_laws.none_above c 64 (suc i) a.fits (omega arith)
  ]

  pub packed_more : (j c z : ℕ) → j < 8 → z < 2 ^ 64 → Packed words b j c → EqualBytes (words j) b z → Packed words b (j + 1) (bit_or (c / 2) z)
  packed_more j c z h f a e = record {
    fits = or_lt 64 (c / 2) z (omega (arith, a.fits)) f;
    clear = λ i l k. rw (bits i, equal_beside e i l (omega arith), or-false) (a.clear (suc i) (omega arith) (omega arith));
    equal = λ i l k. elim (dec_lt (i % 8) 7) [
      | yes u ↦
          let p : suc i % 8 + j - 8 ≡ i % 8 + (j + 1) - 8 = omega arith in
          let q : suc i / 8 ≡ i / 8 = omega arith in
          rw (bits i, equal_beside e i l u, or-false, ← p, ← q) (a.equal (suc i) (omega arith) (omega arith))
      | no u ↦
          let p : i % 8 + (j + 1) - 8 ≡ j = omega arith in
          rw (bits i, comes_down j c i h a l (omega arith), p) (equal_bit e i l (omega arith))
    ];
  }
    where
      bits : (i : ℕ) → is_set (bit_or (c / 2) z) i ≡ is_set c (suc i) || is_set z i
      bits i = rw (or_bits (c / 2) z i, half_bits c i)

-- ---- eight words' bytes that are b, all in one byte's place

-- after j words: the highest bit of byte k is set if byte k of one of them is b
pub record Gathered (words : ℕ → ℕ) (b j c : ℕ) : Type 0 where
  met : (i k : ℕ) → i < j → k < 8 → eqb (byte (words i) k) b ≡ true → is_set c (8 * k + 7) ≡ true

module _ (words : ℕ → ℕ) (b : ℕ) where
  pub gathered_none : Gathered words b 0 0
  gathered_none = record { met = λ i k l h t. absurd (omega arith) }

  pub gathered_more : (j c z : ℕ) → Gathered words b j c → EqualBytes (words j) b z → Gathered words b (j + 1) (bit_or c z)
  gathered_more j c z a e = record {
    met = λ i k l h t. or_bits c z (8 * k + 7) ∙ (elim (ℕ_discrete i j) [
      | yes q ↦
          let d : (8 * k + 7) / 8 ≡ k = omega arith in
          let s : is_set z (8 * k + 7) ≡ true = equal_bit e (8 * k + 7) (omega arith) (omega arith) ∙ rw (d, ← q) t in
          rw (s, or-true) refl
      | no q ↦ rw (a.met i k (omega arith) h t) refl
    ]);
  }

  -- none was met
  pub gathered_no : (c : ℕ) → c ≡ 0 → Gathered words b 8 c → (i k : ℕ) → i < 8 → k < 8 → eqb (byte (words i) k) b ≡ false
  gathered_no c z a i k l h = not-false (λ t. true_not_false (a.met i k l h t) (ap (λ (x : ℕ). is_set x (8 * k + 7)) z ∙ no_bit (8 * k + 7)))

-- ---- a node's places, those with the fingerprint tested in any order

-- a place's bit, and a bit's place
abbrev pub turned : ℕ → ℕ
turned p = 8 * (p % 8) + p / 8

turned_back : (p : ℕ) → p < 64 → turned (turned p) ≡ p
turned_back p h = omega arith

-- all eight words are packed
pub packed_all : (g : Geometry) (m : Memory) (n b c : ℕ) → Packed (λ j. m (node_at g n + 8 + j)) b 8 c
    → (p : ℕ) → p < 64 → is_set c (turned p) ≡ eqb (stored_fingerprint g m n p) b
packed_all g m n b c a p h =
    let u : turned p % 8 ≡ p / 8 = omega arith in
    let q : turned p % 8 + 8 - 8 ≡ p / 8 = omega arith in
    let r : turned p / 8 ≡ p % 8 = omega arith in
    a.equal (turned p) (omega arith) (omega arith) ∙ rw (q, r) refl

module _ (g : Geometry) (m : Memory) (f n : ℕ) where
  abbrev match : ℕ → Bool
  match p = matches (rule_of m) g m f n p

  -- where the fingerprint is the frame's, set bit and frame decide
  pub match_held : (p : ℕ) {set x : ℕ} {s : Bool} → set ≡ m (set_at g n) → x ≡ m (frame_at g n p)
      → stored_fingerprint g m n p ≡ fingerprint (rule_of m) f → s ≡ is_set set p → s && eqb x f ≡ match p
  unfolding matches
  match_held p a b e h = rw (h, a, b, eq-eqb (stored_fingerprint g m n p) (fingerprint (rule_of m) f) e, and-true) refl

  -- what the loop knows: the lowest match so far, and that every match below it is among those left
  pub record Seeking (left lowest : ℕ) : Type 0 where
    pub fits : left < 2 ^ 64
    within : lowest ≤ 64
    hit : lowest < 64 → match lowest ≡ true
    unseen : (p : ℕ) → p < lowest → match p ≡ true → is_set left (turned p) ≡ true
    pub print : (i : ℕ) → i < 64 → is_set left i ≡ true → stored_fingerprint g m n (turned i) ≡ fingerprint (rule_of m) f

  pub seek_all : (b c : ℕ) → c < 2 ^ 64 → b ≡ fingerprint (rule_of m) f
      → ((p : ℕ) → p < 64 → is_set c (turned p) ≡ eqb (stored_fingerprint g m n p) b) → Seeking c 64
  seek_all b c h e a = record {
    fits = h;
    within = omega arith;
    hit = λ l. absurd (omega arith);
    unseen = λ p l t. a p l ∙ eq-eqb (stored_fingerprint g m n p) b (((match_facts (rule_of m) g m f n p).0 t).1.1 ∙ sym e);
    print = λ i l t. eqb-true (stored_fingerprint g m n (turned i)) b
        (sym (a (turned i) (omega arith)) ∙ ap (is_set c) (turned_back i l) ∙ t) ∙ e;
  }

  -- a bit is taken out: its place is no match below the lowest
  moves : (left lowest i low : ℕ) → Seeking left lowest → low ≤ lowest → (low < 64 → match low ≡ true)
      → (match (turned i) ≡ true → turned i < low → ⊥) → Seeking (without_bit left i) low
  moves left lowest i low s l hit none = record {
    fits = bit_laws.without_fits left i 64 s.fits;
    within = omega (arith, s.within);
    hit = hit;
    unseen = λ p h t. elim (ℕ_discrete (turned p) i) [
      | yes q ↦
          let e : turned i ≡ p = ap turned (sym q) ∙ turned_back p (omega (arith, s.within)) in
          absurd (none (ap match e ∙ t) (omega arith))
      | no q ↦ bit_laws.without_keeps left i (turned p) q ∙ s.unseen p (omega arith) t
    ];
    print = λ k h t. elim (ℕ_discrete k i) [
      | yes q ↦ absurd (true_not_false t (ap (is_set (without_bit left i)) q ∙ bit_laws.without_clears left i))
      | no q ↦ s.print k h (sym (bit_laws.without_keeps left i k q) ∙ t)
    ];
  }

  module _ (left lowest i : ℕ) {t : Bool} (s : Seeking left lowest) (e : t ≡ match (turned i)) where
    pub seek_found : t && ltb (turned i) lowest ≡ true → Seeking (without_bit left i) (turned i)
    seek_found h =
        let b = both_true t (ltb (turned i) lowest) h in
        moves left lowest i (turned i) s (omega (arith, ltb-true (turned i) lowest b.1)) (λ l. sym e ∙ b.0) (λ a l. omega arith)

    pub seek_on : t && ltb (turned i) lowest ≡ false → Seeking (without_bit left i) lowest
    seek_on h = moves left lowest i lowest s (omega arith) s.hit (λ a l. true_not_false (true_and (e ∙ a) (lt-ltb (turned i) lowest l)) h)

  -- no place has the fingerprint
  pub seek_none : (b : ℕ) → b ≡ fingerprint (rule_of m) f → ((p : ℕ) → p < 64 → eqb (stored_fingerprint g m n p) b ≡ false) → 64 ≡ found_at (rule_of m) g m f n
  unfolding found_at
  seek_none b e a =
      (first_laws match 64).stops 64 (omega arith)
      (λ p l. not-false (λ t. true_not_false (eq-eqb (stored_fingerprint g m n p) b (((match_facts (rule_of m) g m f n p).0 t).1.1 ∙ sym e)) (a p l)))
      (λ l. absurd (omega arith))

  pub seek_end : (left lowest : ℕ) → left ≡ 0 → Seeking left lowest → lowest ≡ found_at (rule_of m) g m f n
  unfolding found_at
  seek_end left lowest z s =
      (first_laws match 64).stops lowest s.within
      (λ p l. not-false (λ t. true_not_false (s.unseen p l t) (ap (λ (x : ℕ). is_set x (turned p)) z ∙ no_bit (turned p)))) s.hit
