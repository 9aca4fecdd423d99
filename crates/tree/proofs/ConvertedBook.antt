-- What a converted image shows: the same slots, ways and listings; sound by its edition's rule; nothing to recover.
use mathlib.Core.Path.{◌≡◌, refl, sym, ◌∙◌, ap, ap₂, fun_ext}
use mathlib.Core.Bool.{Bool, true, false, cond, not}
use mathlib.Core.Logic.{◌⊎◌, inl, inr}
use mathlib.Core.List.{List, [], map, flat_map}
use Prim.Native.Nat.{ℕ, zero, suc, ◌+◌, ◌-◌, ◌*◌, ◌^◌, ◌≤◌, ◌<◌}
use native.Mathlib.Omega.{arith}
use native.Mathlib.Decide.{dec_lt}
use lib.ListN.{length, get_or-eq_default}
use lib.Dec.{eqb, ltb}
use borrow.Author.Tests.{eq-eqb, ltb-true, ltb-false}
use Rattle.memory.specs.Words.{Memory, reads, is_set, with_byte}
use Rattle.memory.proofs.Laws.{first_laws}
use Rattle.tree.specs.Lists.{up_to}
use Rattle.tree.specs.declared.layout.Geometry.{Geometry}
use Rattle.tree.specs.Layout.{image_words, edition_at, geometry_of, reel_at, root_at, locate_at, set_at}
use Rattle.tree.specs.Fingerprint.{Rule, fingerprint, rule_for, has_own, bytes_to}
use Rattle.tree.specs.Node.{held}
use Rattle.tree.specs.Slots.{filled, filled_slots, slot_of, reels_present}
use Rattle.tree.specs.Reach.{Reaches, Holds}
use Rattle.tree.specs.Sound.{Sound}
use Rattle.tree.specs.Subtree.{tree, all_trees}
use Rattle.tree.specs.Recovery.{recover_stores}
use Rattle.tree.specs.Same.{SameLinks}
use Rattle.tree.specs.Convert.{other_edition, new_header, is_reached, new_frame, new_print, new_word, new_node_word}
use Rattle.tree.specs.Convert.{converted, converted_image}
use Rattle.tree.specs.ConvertLaws.{SameBook, ByEdition, ConvertLaws, ConvertedImage}
use Rattle.tree.proofs.Cases.{test, not-false}
use Rattle.tree.proofs.Lists.{flat_map_cong, map_cong, up_to_members, keep_same, keep_none}
use Rattle.tree.proofs.Nodes.{well_formed_facts}
use Rattle.tree.proofs.Slots.{filled_slots_lem}
use Rattle.tree.proofs.Trees.{trees_reach}
use Rattle.tree.proofs.Same.{filled_on, filled_back, reaches_on, reaches_back, tree_links, listing_links}
use Rattle.tree.proofs.Same.{frames_same, sound_part}
use Rattle.tree.proofs.Fingerprints.{made_at, made_length, our_rule}
use Rattle.tree.proofs.OwnTables.{bytes_fit, has_own_lem, bad_or_not}
use Rattle.tree.proofs.Convert.{WordAt, in_header, in_slot, in_node, word_at, reaches_now, print_lt, root_kept, reel_kept}
use Rattle.tree.proofs.Convert.{header_word, slot_word, node_word, unreached_word, converted_node, converted_words}

-- a bound of both is one of either
either : {c a b : ℕ} (t : Bool) → a < c → b < c → cond t a b < c
either true h l = h
either false h l = l

-- bytes that are the same make the same word
same_bytes : (b b' : ℕ → ℕ) (k : ℕ) → ((j : ℕ) → j < k → b j ≡ b' j) → bytes_to b k ≡ bytes_to b' k
unfolding bytes_to
same_bytes b b' zero h = refl
same_bytes b b' (suc k) h = ap₂ (λ w x. with_byte w k x) (same_bytes b b' k (λ j l. h j (omega arith))) (h k (omega arith))

module _ (e : ℕ) (g : Geometry) (m : Memory) where
  abbrev m' : Memory
  m' = converted e g m

  links : SameLinks g m m'
  links = record { roots = λ s l. sym (root_kept e g m s l); next = λ r. sym (converted_node e g m r).next }

  -- ---- slots

  filled_same : (s : ℕ) → s < g.slots → filled m' s ≡ filled m s
  unfolding filled
  filled_same s l = ap (λ x. not (eqb x 0)) (root_kept e g m s l)

  slots_same : filled_slots g m' ≡ filled_slots g m
  unfolding filled_slots
  slots_same = keep_same (filled m') (filled m) (up_to g.slots) (λ s x. filled_same s ((up_to_members g.slots).0 x))

  reels_same : reels_present g m' ≡ reels_present g m
  unfolding reels_present
  reels_same =
      ap (map (λ s. m' (reel_at s))) slots_same
      ∙ map_cong (λ s. m' (reel_at s)) (λ s. m (reel_at s)) (filled_slots g m) (λ s x. reel_kept e g m ((filled_slots_lem g m).0 x))

  slot_same : (reel : ℕ) → slot_of g m' reel ≡ slot_of g m reel
  unfolding slot_of
  slot_same reel = (first_laws _ g.slots).equal_tests _ (λ s l. elim (test (filled m s)) [
    | inl q ↦ rw (filled_same s l, slot_word e g m s (reel_at s) l (inl refl), q) refl
    | inr q ↦ rw (filled_same s l, q) refl
  ])

  -- ---- trees and listings

  trees_same : all_trees g m' ≡ all_trees g m
  unfolding all_trees
  trees_same =
      ap (flat_map (tree g m')) slots_same
      ∙ flat_map_cong (tree g m') (tree g m) (filled_slots g m) (λ s x. sym (tree_links links ((filled_slots_lem g m).0 x)))

  holds_before : {s : ℕ} {w : List ℕ} {n p f : ℕ} → Holds g m' s w n p f → Holds g m s w n p f
  holds_before {p = p} x =
      let r = reaches_back links x.there in
      let a = converted_node e g m r in
      let h : held g m _ p ≡ true = ap (λ y. is_set y p) (sym a.set) ∙ x.set in
      record { there = r; place = x.place; set = h; is = sym (a.frames p x.place h) ∙ x.is }

  holds_after : {s : ℕ} {w : List ℕ} {n p f : ℕ} → Holds g m s w n p f → Holds g m' s w n p f
  holds_after {p = p} x =
      let a = converted_node e g m x.there in
      record {
        there = reaches_on links x.there;
        place = x.place;
        set = ap (λ y. is_set y p) a.set ∙ x.set;
        is = a.frames p x.place x.set ∙ x.is;
      }

  same_book : SameBook g m m'
  same_book = record {
    filled = (filled_back links, filled_on links);
    reel_words = reel_kept e g m;
    reels = reels_same;
    slot_of_lem = slot_same;
    ways = (reaches_back links, reaches_on links);
    holds = (holds_before, holds_after);
    listings = λ b. sym (listing_links links (λ s w n r.
        let a = converted_node e g m r in
        frames_same g m m' n (sym a.set) (λ p l h. sym (a.frames p l h))) b);
  }

  -- ---- soundness

  sound_new : {r : Rule} → Sound r g m → Sound (rule_for e) g m'
  sound_new d = sound_part d (record {
    filled = filled_back links;
    reels = λ b. sym (reel_kept e g m (filled_back links b));
    reaches = reaches_back links;
    formed = λ {s} {w} {n} x.
        let r = reaches_back links x in
        let a = converted_node e g m r in
        let f = (well_formed_facts g m (length w) n).0 (d.well_formed_lem r) in
        (well_formed_facts g m' (length w) n).1 (record {
          inside = f.inside;
          level = a.level ∙ f.level;
          size = rw a.size f.size;
          locate = rw (a.locate, a.size) f.set;
          set = rw (a.set, a.size) f.set;
          next = rw (a.next, a.size) f.next;
        });
    holds = holds_before;
    fingerprints = λ {p = p} x q.
        let y = holds_before x in
        (converted_node e g m y.there).prints p y.place y.set ∙ ap (fingerprint (rule_for e)) y.is;
  })

  -- ---- recovery

  settled : recover_stores g m' ≡ []
  unfolding recover_stores
  settled = ap (map (λ v. (locate_at g v.node, m' (set_at g v.node)))) (keep_none _ (all_trees g m') (λ v x.
      let a = converted_node e g m (reaches_back links (trees_reach g m' x).1) in
      ap not (eq-eqb (m' (locate_at g v.node)) (m' (set_at g v.node)) (a.locate ∙ sym a.set))))

  -- ---- the edition's rule

  by_edition : ByEdition e m'
  by_edition =
      let a = converted_words e g m in
      let z = a.header 3 (omega arith) (omega arith) in
      let none : has_own m' ≡ false = not-false (λ h. omega (arith, (has_own_lem m').0 h)) in
      record {
        rule = our_rule m' none ∙ ap rule_for a.edition;
        no_own = none;
        good_table = (bad_or_not m').1 (λ b. elim b.1 [ inl l ↦ omega arith | inr x ↦ omega arith ]);
      }

  -- ---- converted once more

  module _ {s : ℕ} {w : List ℕ} {n : ℕ} (r : Reaches g m s w n) where
    frame_again : (p : ℕ) → p < 64 → new_frame g m' n p ≡ new_frame g m n p
    unfolding new_frame
    frame_again p l =
        let a = converted_node e g m r in
        elim (test (held g m n p)) [ inl h ↦ rw (a.set, h) (a.frames p l h) | inr h ↦ rw (a.set, h) refl ]

    print_again : (x : Rule) (p : ℕ) → p < 64 → new_print g m' x n p ≡ new_print g m x n p
    unfolding new_print
    print_again x p l =
        let a = converted_node e g m r in
        elim (test (held g m n p)) [ inl h ↦ rw (a.set, h) (ap (fingerprint x) (a.frames p l h)) | inr h ↦ rw (a.set, h) refl ]

    word_again : (x : Rule) (k : ℕ) → k < 80 → new_word g m' x n k ≡ new_word g m x n k
    unfolding new_word
    word_again x k l =
        let a = converted_node e g m r in
        elim (test (ltb k 16)) [
          | inl h ↦
              let b = same_bytes _ _ 8 (λ j i. print_again x (8 * (k - 8) + j) (omega (arith, ltb-true k 16 h))) in
              rw (a.next, a.set, a.level, a.size, h, b) refl
          | inr h ↦ rw (a.next, a.set, a.level, a.size, h, frame_again (k - 16) (omega (arith, ltb-false k 16 h))) refl
        ]

  node_again : (x : Rule) (n k : ℕ) → k < 80 → new_node_word g m' x n k ≡ new_node_word g m x n k
  unfolding new_node_word is_reached
  node_again x n k l =
      rw trees_same (elim (test (is_reached g m n)) [
        | inl t ↦ rw t (word_again (reaches_now g m n t).2 x k l)
        | inr t ↦ rw t refl
      ])

  slot_again : (s i : ℕ) → s < g.slots → (i ≡ reel_at s) ⊎ (i ≡ root_at s)
      → cond (filled m' s) (m' i) 0 ≡ cond (filled m s) (m i) 0
  slot_again s i l o =
      rw (filled_same s l, slot_word e g m s i l o) (elim (test (filled m s)) [ inl t ↦ rw t refl | inr t ↦ rw t refl ])

  header_again : (e' i : ℕ) → i < 64 → new_header e' m' i ≡ new_header e' m i
  unfolding new_header
  header_again e' i l = rw (header_word e g m i l) (elim (test (eqb i 0)) [
    | inl t ↦ rw t refl
    | inr t ↦ elim (test (ltb i 3)) [ inl u ↦ rw (t, u) refl | inr u ↦ rw (t, u) refl ]
  ])

  again : (e' i : ℕ) → WordAt g i → converted e' g m' i ≡ converted e' g m i
  again e' i (in_header l) = header_word e' g m' i l ∙ header_again e' i l ∙ sym (header_word e' g m i l)
  again e' i (in_slot s l o) = slot_word e' g m' s i l o ∙ slot_again s i l o ∙ sym (slot_word e' g m s i l o)
  again e' i (in_node n k l q) = node_word e' g m' n k i l q ∙ node_again (rule_for e') n k l ∙ sym (node_word e' g m n k i l q)

  -- ---- words of 64 bits

  module _ (small : (i : ℕ) → m i < 2 ^ 64) (edition : e < 2 ^ 64) where
    zero_fits : 0 < 2 ^ 64
    zero_fits = omega arith

    fits : (i : ℕ) → WordAt g i → m' i < 2 ^ 64
    unfolding new_header new_node_word new_word new_frame
    fits i (in_header l) = rw (header_word e g m i l) (either (eqb i 0) edition (either (ltb i 3) (small i) zero_fits))
    fits i (in_slot s l o) = rw (slot_word e g m s i l o) (either (filled m s) (small i) zero_fits)
    fits i (in_node n k l q) =
        let b : ℕ → ℕ = λ j. new_print g m (rule_for e) n (8 * (k - 8) + j) in
        let prints = bytes_fit b (λ j h. print_lt e g m n (8 * (k - 8) + j)) 8 (omega arith) in
        let frames = either (held g m n (k - 16)) (small _) zero_fits in
        let rest = either (ltb k 8) zero_fits (either (ltb k 16) prints frames) in
        let numbers = either (eqb k 3) (small _) (either (eqb k 4) (small _) rest) in
        let all = either (eqb k 0) (small _) (either (ltb k 3) (small _) numbers) in
        rw (node_word e g m n k i l q) (either (is_reached g m n) all zero_fits)

  -- ---- past the image's end

  past : (i : ℕ) → ((s n : ℕ) (w : List ℕ) → Reaches g m s w n → n < g.nodes) → image_words g ≤ i → WordAt g i → m' i ≡ 0
  past i inside h (in_header l) = absurd (omega arith)
  past i inside h (in_slot s l o) = absurd (elim o [ inl q ↦ omega arith | inr q ↦ omega arith ])
  past i inside h (in_node n k l q) = unreached_word e g m n k i (λ s w r. omega (arith, inside s n w r)) l q

pub convert_laws : (e : ℕ) (g : Geometry) (m : Memory) → ConvertLaws e g m
unfolding geometry_of
convert_laws e g m =
    let a = converted_words e g m in
    record {
      words = a;
      geometry = ap₂ (λ r n. record { slots = r; nodes = n }) a.slots a.nodes;
      by_edition = by_edition e g m;
      same_book = same_book e g m;
      settled = settled e g m;
      sound = sound_new e g m;
      through = λ e'. fun_ext (λ i. again e' g m e i (word_at g i));
      fits = λ small l i. fits e g m small l i (word_at g i);
    }

-- ---- the second image

pub converted_image_lem : (image : List ℕ) → ConvertedImage image
unfolding converted_image
converted_image_lem image =
    let m = reads image in
    let g = geometry_of m in
    let e = other_edition (m edition_at) in
    record {
      same_length = made_length (converted e g m) (length image);
      words = λ l inside. fun_ext (λ i. elim (dec_lt i (length image)) [
        | yes h ↦ made_at (converted e g m) (length image) i h
        | no h ↦
            get_or-eq_default (converted_image image) 0 {n = i} (omega (arith, made_length (converted e g m) (length image)))
            ∙ sym (past e g m i inside (omega arith) (word_at g i))
      ]);
    }
