-- The words of a converted image, by the ways that reach its nodes.
use mathlib.Core.Path.{◌≡◌, refl, sym, ◌∙◌, ap, subst}
use mathlib.Core.Bool.{true, cond}
use mathlib.Core.Logic.{◌⊎◌, inl, inr}
use mathlib.Core.List.{List}
use Prim.Native.Nat.{ℕ, ◌+◌, ◌-◌, ◌*◌, ◌/◌, ◌%◌, ◌≤◌, ◌<◌}
use native.Mathlib.Omega.{arith}
use native.Mathlib.Decide.{dec_lt, ℕ_discrete}
use lib.Dec.{eqb, ltb}
use borrow.Author.Tests.{eqb-true, ne_eqb, eq-eqb, lt-ltb, le-ltb}
use Rattle.memory.specs.Words.{Memory, byte}
use Rattle.tree.specs.declared.layout.Geometry.{Geometry}
use Rattle.tree.specs.Layout.{reel_at, root_at, node_at, next_at, locate_at, set_at, level_at, size_at, fingerprints_at, frame_at}
use Rattle.tree.specs.Fingerprint.{Rule, rule_for, bytes_to}
use Rattle.tree.specs.Node.{held, frame, stored_fingerprint}
use Rattle.tree.specs.Slots.{Filled, filled}
use Rattle.tree.specs.Reach.{Reaches}
use Rattle.tree.specs.Subtree.{all_trees}
use Rattle.tree.specs.Convert.{new_header, new_slot, is_reached, new_frame, new_print, new_word, new_node_word, converted}
use Rattle.tree.specs.ConvertLaws.{ConvertedNode, ConvertedWords}
use Rattle.tree.proofs.Cases.{test, not-false, nonzero_test}
use Rattle.tree.proofs.Distinct.{has_key_lem, key_has}
use Rattle.tree.proofs.Trees.{in_trees, trees_reach}
use Rattle.tree.proofs.Fingerprints.{edition_lt}
use Rattle.tree.proofs.OwnTables.{bytes_fit, bytes_at}

-- ---- where a word lies, be it past the image's end

pub data WordAt (g : Geometry) (i : ℕ) : Type 0 where
  in_header : i < 64 → WordAt g i
  in_slot : (s : ℕ) → s < g.slots → (i ≡ reel_at s) ⊎ (i ≡ root_at s) → WordAt g i
  in_node : (n k : ℕ) → k < 80 → i ≡ node_at g n + k → WordAt g i

pub word_at : (g : Geometry) (i : ℕ) → WordAt g i
word_at g i = elim (dec_lt i 64) [
  | yes l ↦ in_header l
  | no l ↦ elim (dec_lt i (node_at g 0)) [
    | yes h ↦
        let s = (i - 64) / 2 in
        in_slot s (omega arith) (elim (ℕ_discrete i (reel_at s)) [ yes q ↦ inl q | no q ↦ inr (omega arith) ])
    | no h ↦ in_node ((i - node_at g 0) / 80) ((i - node_at g 0) % 80) (omega arith) (omega arith)
  ]
]

-- ---- the test of a node: some slot reaches it

module _ (g : Geometry) (m : Memory) where
  reached_now : {s : ℕ} {w : List ℕ} {n : ℕ} → Reaches g m s w n → is_reached g m n ≡ true
  unfolding is_reached
  reached_now r = has_key_lem (λ v. v.node) (in_trees g m r)

  pub reaches_now : (n : ℕ) → is_reached g m n ≡ true → (s : ℕ) × (w : List ℕ) × Reaches g m s w n
  unfolding is_reached
  reaches_now n e =
      let v = key_has (λ v. v.node) n (all_trees g m) e in
      let t = trees_reach g m v.1 in
      (t.0, v.0.way, subst (Reaches g m t.0 v.0.way) v.2 t.1)

-- ---- the words of a reached node

module _ (r : Rule) (g : Geometry) (m : Memory) (n : ℕ) where
  -- after the first five
  new_rest : (k : ℕ) → 5 ≤ k → new_word g m r n k
      ≡ cond (ltb k 8) 0 (cond (ltb k 16) (bytes_to (λ j. new_print g m r n (8 * (k - 8) + j)) 8) (new_frame g m n (k - 16)))
  unfolding new_word
  new_rest k l = rw (
    ne_eqb k 0 (λ q. omega arith),
    le-ltb k 3 (omega arith),
    ne_eqb k 3 (λ q. omega arith),
    ne_eqb k 4 (λ q. omega arith),
  ) refl

  new_spare : (k : ℕ) → 5 ≤ k → k < 8 → new_word g m r n k ≡ 0
  new_spare k l h = new_rest k l ∙ rw (lt-ltb k 8 h) refl

  new_prints : (q : ℕ) → q < 8 → new_word g m r n (8 + q) ≡ bytes_to (λ j. new_print g m r n (8 * q + j)) 8
  new_prints q l =
      let z : 8 + q - 8 ≡ q = omega arith in
      new_rest (8 + q) (omega arith) ∙ rw (le-ltb (8 + q) 8 (omega arith), lt-ltb (8 + q) 16 (omega arith), z) refl

  new_frame_lem : (p : ℕ) → new_word g m r n (16 + p) ≡ new_frame g m n p
  new_frame_lem p =
      let z : 16 + p - 16 ≡ p = omega arith in
      new_rest (16 + p) (omega arith) ∙ rw (le-ltb (16 + p) 8 (omega arith), le-ltb (16 + p) 16 (omega arith), z) refl

pub print_lt : (e : ℕ) (g : Geometry) (m : Memory) (n p : ℕ) → new_print g m (rule_for e) n p < 256
unfolding new_print
print_lt e g m n p = elim (test (held g m n p)) [ inl h ↦ rw h (edition_lt e (frame g m n p)) | inr h ↦ rw h (omega arith) ]

-- ---- the words of the image

module _ (e : ℕ) (g : Geometry) (m : Memory) where
  abbrev m' : Memory
  m' = converted e g m

  pub header_word : (i : ℕ) → i < 64 → m' i ≡ new_header e m i
  unfolding converted
  header_word i l = rw (lt-ltb i 64 l) refl

  pub slot_word : (s i : ℕ) → s < g.slots → (i ≡ reel_at s) ⊎ (i ≡ root_at s) → m' i ≡ cond (filled m s) (m i) 0
  unfolding converted new_slot
  slot_word s i l o =
      let k : ((i - 64) / 2 ≡ s) × (64 ≤ i) × (i < node_at g 0) = elim o [ inl q ↦ omega arith | inr q ↦ omega arith ] in
      rw (le-ltb i 64 k.1, lt-ltb i (node_at g 0) k.2, k.0) refl

  pub node_word : (n k i : ℕ) → k < 80 → i ≡ node_at g n + k → m' i ≡ new_node_word g m (rule_for e) n k
  unfolding converted
  node_word n k i l q =
      let a : (i - node_at g 0) / 80 ≡ n = omega arith in
      let b : (i - node_at g 0) % 80 ≡ k = omega arith in
      rw (le-ltb i 64 (omega arith), le-ltb i (node_at g 0) (omega arith), a, b) refl

  -- ---- slots

  pub root_kept : (s : ℕ) → s < g.slots → m' (root_at s) ≡ m (root_at s)
  unfolding filled
  root_kept s l = slot_word s (root_at s) l (inr refl) ∙ (elim (test (eqb (m (root_at s)) 0)) [
    | inl q ↦ rw q (sym (eqb-true (m (root_at s)) 0 q))
    | inr q ↦ rw q refl
  ])

  pub reel_kept : {s : ℕ} → Filled g m s → m' (reel_at s) ≡ m (reel_at s)
  unfolding filled
  reel_kept {s} b = slot_word s (reel_at s) b.inside (inl refl) ∙ rw (nonzero_test (m (root_at s)) b.linked) refl

  emptied : (s i : ℕ) → s < g.slots → (i ≡ reel_at s) ⊎ (i ≡ root_at s) → m (root_at s) ≡ 0 → m' i ≡ 0
  unfolding filled
  emptied s i l o z = slot_word s i l o ∙ rw (eq-eqb (m (root_at s)) 0 z) refl

  -- ---- nodes

  module _ {s : ℕ} {w : List ℕ} {n : ℕ} (r : Reaches g m s w n) where
    word : (k i : ℕ) → k < 80 → i ≡ node_at g n + k → m' i ≡ new_word g m (rule_for e) n k
    unfolding new_node_word
    word k i l q = node_word n k i l q ∙ rw (reached_now g m r) refl

    frame_word : (p : ℕ) → p < 64 → frame g m' n p ≡ new_frame g m n p
    frame_word p l = word (16 + p) (frame_at g n p) (omega arith) (omega arith) ∙ new_frame_lem (rule_for e) g m n p

    -- the bytes of a word of fingerprints
    abbrev prints : ℕ → ℕ → ℕ
    prints q j = new_print g m (rule_for e) n (8 * q + j)

    prints_word : (q i : ℕ) → q < 8 → i ≡ node_at g n + 8 + q → m' i ≡ bytes_to (prints q) 8
    prints_word q i l h = word (8 + q) i (omega arith) (omega arith) ∙ new_prints (rule_for e) g m n q l

    print_byte : (p : ℕ) → p < 64 → stored_fingerprint g m' n p ≡ new_print g m (rule_for e) n p
    print_byte p l =
        let q = p / 8 in
        let z : 8 * q + p % 8 ≡ p = omega arith in
        ap (λ x. byte x (p % 8)) (prints_word q (fingerprints_at g n p) (omega arith) refl)
        ∙ bytes_at (prints q) (λ j h. print_lt e g m n (8 * q + j)) 8 (p % 8) (omega arith) (omega arith)
        ∙ ap (new_print g m (rule_for e) n) z

    pub converted_node : ConvertedNode (rule_for e) g m m' n
    unfolding new_word new_frame new_print
    converted_node = record {
      next = word 0 (next_at g n) (omega arith) (omega arith);
      locate = word 1 (locate_at g n) (omega arith) refl;
      set = word 2 (set_at g n) (omega arith) refl;
      level = word 3 (level_at g n) (omega arith) refl;
      size = word 4 (size_at g n) (omega arith) refl;
      spare = λ k l h. word k (node_at g n + k) (omega arith) refl ∙ new_spare (rule_for e) g m n k l h;
      frames = λ p l h. frame_word p l ∙ rw h refl;
      no_frame = λ p l h. frame_word p l ∙ rw h refl;
      prints = λ p l h. print_byte p l ∙ rw h refl;
      no_print = λ p l h. print_byte p l ∙ rw h refl;
      print_words = λ q l.
          let fit = bytes_fit (prints q) (λ j h. print_lt e g m n (8 * q + j)) 8 (omega arith) in
          rw (prints_word q (node_at g n + 8 + q) l refl) fit;
    }

  pub unreached_word : (n k i : ℕ) → ((s : ℕ) (w : List ℕ) → Reaches g m s w n → ⊥) → k < 80 → i ≡ node_at g n + k → m' i ≡ 0
  unfolding new_node_word
  unreached_word n k i none l q =
      node_word n k i l q ∙ rw (not-false (λ t. let r = reaches_now g m n t in none r.0 r.1 r.2)) refl

  pub converted_words : ConvertedWords e g m m'
  unfolding new_header
  converted_words = record {
    edition = header_word 0 (omega arith);
    slots = header_word 1 (omega arith);
    nodes = header_word 2 (omega arith);
    header = λ i l h. header_word i h ∙ rw (ne_eqb i 0 (λ q. omega arith), le-ltb i 3 l) refl;
    filled_slot = λ {s} b. (reel_kept b, root_kept s b.inside);
    empty_slot = λ s l z. (emptied s (reel_at s) l (inl refl) z, emptied s (root_at s) l (inr refl) z);
    reached = converted_node;
    unreached = λ n k none l. unreached_word n k (node_at g n + k) none l refl;
  }
