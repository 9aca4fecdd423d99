-- The words of the converted image, each as the code computes it.
use mathlib.Core.Path.{◌≡◌, refl, sym, ◌∙◌, ap, ap₂}
use mathlib.Core.Bool.{Bool, false, cond, not}
use mathlib.Core.Logic.{inl, inr}
use mathlib.Core.List.{List}
use Prim.Native.Nat.{ℕ, ◌+◌, ◌-◌, ◌*◌, ◌/◌, ◌%◌, ◌≤◌, ◌<◌}
use native.Mathlib.Omega.{arith}
use native.Mathlib.Decide.{ℕ_discrete}
use lib.ListN.{length}
use lib.Dec.{eqb, ltb}
use borrow.Author.Tests.{lt-ltb, le-ltb, ne_eqb}
use Rattle.memory.specs.Words.{Memory, reads, is_set}
use Rattle.tree.specs.declared.layout.Geometry.{Geometry}
use Rattle.tree.specs.Layout.{edition_at, geometry_of, reel_at, root_at, node_at, set_at, frame_at}
use Rattle.tree.specs.Fingerprint.{rule_for, the_table, entry_in, folded, fingerprint, bytes_to}
use Rattle.tree.specs.Slots.{filled}
use Rattle.tree.specs.Convert.{other_edition, new_header, new_slot, is_reached, new_frame, new_print, new_word, new_node_word}
use Rattle.tree.specs.Convert.{converted, converted_image}
use Rattle.tree.proofs.Cases.{test}
use Rattle.fingerprints.proofs.Filled.{filled_all}
use Rattle.fingerprints.proofs.Folds.{by_edition, edition_small}
use Rattle.conversion.specs.Written.{WrittenTo, Zeros, ReachedWith}

-- zeros are zeros in a part
pub zeros_within : {f : ℕ → ℕ} {from to from' to' : ℕ} → from ≤ from' → to' ≤ to → Zeros f from to → Zeros f from' to'
zeros_within h l z = record { zero = λ i a b. z.zero i (omega arith) (omega arith) }

module _ (e : ℕ) (g : Geometry) (m : Memory) where
  -- ---- the header

  pub header_word : (i : ℕ) {v : ℕ} → i < 64 → v ≡ new_header e m i → v ≡ converted e g m i
  unfolding converted
  header_word i h p = rw (lt-ltb i 64 h) p

  pub header_rest : Zeros (converted e g m) 3 64
  unfolding new_header
  header_rest = record {
    zero = λ i l h. header_word i h (rw (ne_eqb i 0 (λ q. omega arith), le-ltb i 3 l) refl);
  }

  -- ---- the slots

  module _ (s : ℕ) (h : s < g.slots) {root : ℕ} (is : root ≡ m (root_at s)) where
    slot_word : (k i : ℕ) {v : ℕ} → k < 2 → i ≡ reel_at s + k → v ≡ cond (not (eqb root 0)) (m i) 0 → v ≡ converted e g m i
    unfolding converted new_slot filled
    slot_word k i l q p =
        let of : (i - 64) / 2 ≡ s = omega arith in
        rw (le-ltb i 64 (omega arith), lt-ltb i (node_at g 0) (omega arith), of, ← is) p

    pub slot_reel : (i : ℕ) {reel v : ℕ} → i ≡ reel_at s → reel ≡ m (reel_at s)
        → v ≡ cond (not (eqb root 0)) reel 0 → v ≡ converted e g m i
    slot_reel i {reel} q r p =
        let here : reel ≡ m i = r ∙ ap m (sym q) in
        slot_word 0 i (omega arith) (omega arith) (rw here at p)

    pub slot_root : (i : ℕ) → i ≡ root_at s → root ≡ converted e g m i
    slot_root i q = slot_word 1 i (omega arith) q (elim (ℕ_discrete root 0) [
      | yes z ↦ rw z refl
      | no z ↦ rw (ne_eqb root 0 z) (is ∙ ap m (sym q))
    ])

  -- ---- a node

  node_word : (n k i : ℕ) {v : ℕ} → i ≡ node_at g n + k → k < 80 → v ≡ new_node_word g m (rule_for e) n k → v ≡ converted e g m i
  unfolding converted
  node_word n k i q l p =
      let at : (i - node_at g 0) / 80 ≡ n = omega arith in
      let of : (i - node_at g 0) % 80 ≡ k = omega arith in
      rw (le-ltb i 64 (omega arith), le-ltb i (node_at g 0) (omega arith), at, of) p

  pub unreached_words : (n at : ℕ) → at ≡ node_at g n → is_reached g m n ≡ false → Zeros (converted e g m) at (at + 80)
  unfolding new_node_word
  unreached_words n at q u = record { zero = λ i l h. node_word n (i - at) i (omega arith) (omega arith) (rw u refl) }

  module _ {n w : ℕ} (r : ReachedWith g m n w) where
    pub reached_word : (k i : ℕ) {v : ℕ} → i ≡ node_at g n + k → k < 80 → v ≡ new_word g m (rule_for e) n k → v ≡ converted e g m i
    unfolding new_node_word
    reached_word k i q l p = node_word n k i q l (rw r.reached p)

    -- past word 4: zeros, fingerprints, frames
    past_size : (k i : ℕ) {v : ℕ} → i ≡ node_at g n + k → 5 ≤ k → k < 80
        → v ≡ cond (ltb k 8) 0
        (cond (ltb k 16) (bytes_to (λ j. new_print g m (rule_for e) n (8 * (k - 8) + j)) 8) (new_frame g m n (k - 16)))
        → v ≡ converted e g m i
    unfolding new_word
    past_size k i q h l p =
        let differs : (j : ℕ) → j < 5 → eqb k j ≡ false = λ j b. ne_eqb k j (λ z. omega arith) in
        reached_word k i q l
        (rw (differs 0 (omega arith), le-ltb k 3 (omega arith), differs 3 (omega arith), differs 4 (omega arith)) p)

    pub spare_words : (at : ℕ) → at ≡ node_at g n → Zeros (converted e g m) (at + 5) (at + 8)
    spare_words at q = record {
      zero = λ i l h. past_size (i - at) i (omega arith) (omega arith) (omega arith) (rw (lt-ltb (i - at) 8 (omega arith)) refl);
    }

    pub prints_word : (i j : ℕ) {v : ℕ} → j < 8 → i ≡ node_at g n + 8 + j
        → v ≡ bytes_to (λ k. new_print g m (rule_for e) n (8 * j + k)) 8 → v ≡ converted e g m i
    prints_word i j h q p =
        let of : 8 + j - 8 ≡ j = omega arith in
        past_size (8 + j) i (omega arith) (omega arith) (omega arith)
        (rw (le-ltb (8 + j) 8 (omega arith), lt-ltb (8 + j) 16 (omega arith), of) p)

    -- a place's frame, by the set word
    pub frame_word : (i p : ℕ) {f v : ℕ} {b : Bool} → p < 64 → i ≡ node_at g n + 16 + p → b ≡ is_set w p → f ≡ m (frame_at g n p)
        → v ≡ cond b f 0 → v ≡ converted e g m i
    unfolding new_frame
    frame_word i p h q is of x =
        let at : 16 + p - 16 ≡ p = omega arith in
        past_size (16 + p) i (omega arith) (omega arith) (omega arith)
        (rw (le-ltb (16 + p) 8 (omega arith), le-ltb (16 + p) 16 (omega arith), at, ← r.set_word, ← is, ← of) x)

-- ---- a place's fingerprint, by the set word

module _ {g : Geometry} {m : Memory} {n w : ℕ} (r : ReachedWith g m n w) (p : ℕ) {b : Bool} (is : b ≡ is_set w p) where
  pub print_made : (e : ℕ) {table : List ℕ} {f h w' : ℕ} → table ≡ the_table → f ≡ m (frame_at g n p)
      → h ≡ folded (entry_in table) (rule_for e).bytes f → w' ≡ cond b h 0 → w' ≡ new_print g m (rule_for e) n p
  unfolding new_print
  print_made e {f = f} laid q x y =
      y ∙ ap₂ (λ c x. cond c x 0) (is ∙ ap (λ z. is_set z p) r.set_word) (by_edition e f laid x ∙ ap (fingerprint (rule_for e)) q)

pub print_small : (g : Geometry) (m : Memory) (e n p : ℕ) {h : ℕ} → h ≡ new_print g m (rule_for e) n p → h < 256
unfolding new_print
print_small g m e n p q = rw q (elim (test (is_set (m (set_at g n)) p)) [
  | inl t ↦ rw t (edition_small e (m (frame_at g n p)))
  | inr t ↦ rw t (omega arith)
])

-- ---- the whole image

pub all_written : (g : Geometry) (image : List ℕ) {copy : List ℕ} {e own : ℕ} → g ≡ geometry_of (reads image)
    → e ≡ other_edition own → own ≡ reads image edition_at → WrittenTo e g image copy (length image) → copy ≡ converted_image image
unfolding converted_image
all_written g image q other own w = rw (q, other, own) at (filled_all w)
