-- What the check of an image comes to, from what its walks leave.
use mathlib.Core.Path.{◌≡◌, refl, sym, ◌∙◌, ap}
use mathlib.Core.Bool.{Bool, true, false, cond}
use mathlib.Core.Option.{none, some}
use mathlib.Core.List.{List}
use Prim.Native.Nat.{ℕ, ◌+◌, ◌-◌, ◌≤◌, ◌<◌}
use native.Mathlib.Omega.{arith}
use borrow.Author.Tests.{eq-eqb, ne_eqb}
use lib.ListN.{length}
use Rattle.memory.specs.Words.{Memory, reads}
use Rattle.memory.specs.Script.{stores}
use Rattle.memory.specs.Crash.{apply}
use Rattle.tree.specs.declared.layout.Geometry.{Geometry}
use Rattle.tree.specs.Lists.{range, up_to, every}
use Rattle.tree.specs.Layout.{map_words, Sized, reel_at}
use Rattle.tree.specs.Fingerprint.{rule_of}
use Rattle.tree.specs.Slots.{filled, Filled, slot_of}
use Rattle.tree.specs.Subtree.{tree, all_trees, nodes_of}
use Rattle.tree.specs.Check.{is_sound_tree, in_place, is_sound}
use Rattle.tree.specs.Recovery.{recover_stores}
use Rattle.tree.specs.Pool.{clear_map, map_of}
use Rattle.tree.proofs.Lists.{range_next}
use Rattle.tree.proofs.Slots.{filled_test}
use Rattle.visits.specs.Walk.{kept, walked_slot}
use Rattle.visits.proofs.SlotWalks.{walked_sound}
use Rattle.visits.proofs.Kept.{same_end, same_kept}
use Rattle.recovery.specs.AllSlots.{walked_reel, walked_slots}
use Rattle.recovery.specs.Mended.{mended_below}
use Rattle.recovery.proofs.MarkedNodesMend.{mend_law}
use Rattle.recovery.proofs.AllSlots.{slots_law}

-- ---- a filled slot

module _ (g : Geometry) (m : Memory) (s : ℕ) (pool : List ℕ) {reel lowest : ℕ} (found : lowest ≡ slot_of g m reel) (number : reel ≡ m (reel_at s)) where
  of : lowest ≡ slot_of g m (m (reel_at s))
  of = found ∙ ap (slot_of g m) number

  -- one that is not its reel's does not pass
  pub reel_doubled : (lowest ≡ s → ⊥) → none ≡ walked_reel g m s pool
  unfolding walked_reel
  reel_doubled d = rw (← of, ne_eqb lowest s d) refl

  module _ (own : lowest ≡ s) (r : Bool) (pool' : List ℕ) (walk : kept r pool' ≡ walked_slot g m s pool) where
    -- nor one whose tree is not walked through
    pub tree_fails : r ≡ false → none ≡ walked_reel g m s pool
    unfolding walked_reel
    tree_fails e = rw (← of, eq-eqb lowest s own, ← walk, e) refl

    -- else its tree is sound, and its frames decide
    module _ (through : r ≡ true) where
      pub tree_sound : length pool ≡ map_words g → is_sound_tree g m s ≡ true
      tree_sound l = walked_sound g m s pool l (rw through at walk)

      pub tree_walked : (placed : Bool) → placed ≡ every (in_place (rule_of m) g m s) (tree g m s) → kept placed pool' ≡ walked_reel g m s pool
      unfolding walked_reel
      tree_walked placed e = rw (← of, eq-eqb lowest s own, ← walk, through, ← e) refl

-- ---- the slots in turn

-- the slots from s on, k in all
abbrev pub slots_from : (k s : ℕ) → List ℕ
slots_from k s = range s (k - s)

pub all_slots : (g : Geometry) (m : Memory) (k : ℕ) (pool : List ℕ) → walked_slots g m (slots_from k 0) pool ≡ walked_slots g m (up_to k) pool
unfolding up_to
all_slots g m k pool = let q : k - 0 ≡ k = omega arith in rw q refl

module _ (g : Geometry) (m : Memory) (k s : ℕ) (low : s < k) (pool : List ℕ) (here : Bool) (is : here ≡ filled m s) where
  pub slot_filled : k ≡ g.slots → here ≡ true → Filled g m s
  slot_filled e h = record { inside = omega arith; linked = (filled_test m s).0 (sym is ∙ h) }

  -- an empty slot is passed over
  pub slot_empty : here ≡ false → walked_slots g m (slots_from k s) pool ≡ walked_slots g m (slots_from k (s + 1)) pool
  unfolding walked_slots
  slot_empty e = rw (range_next s k low, ← is, e) refl

  module _ (full : here ≡ true) (r : Bool) (pool' : List ℕ) (walk : kept r pool' ≡ walked_reel g m s pool) where
    -- one that does not pass ends the walk
    pub slot_fails : r ≡ false → none ≡ walked_slots g m (slots_from k s) pool
    unfolding walked_slots
    slot_fails e = rw (range_next s k low, ← is, full, ← walk, e) refl

    pub slot_walked : r ≡ true → walked_slots g m (slots_from k s) pool ≡ walked_slots g m (slots_from k (s + 1)) pool'
    unfolding walked_slots
    slot_walked e = rw (range_next s k low, ← is, full, ← walk, e) refl

pub slots_end : (g : Geometry) (m : Memory) (k s : ℕ) (pool : List ℕ) → k ≤ s → some pool ≡ walked_slots g m (slots_from k s) pool
unfolding walked_slots range
slots_end g m k s pool h = let none_left : k - s ≡ 0 = omega arith in rw none_left refl

-- ---- the whole image

module _ (g : Geometry) (image : List ℕ) where
  abbrev sound : Bool
  sound = is_sound (rule_of (reads image)) g (reads image)

  -- what the check answers and leaves
  abbrev Checks : Bool → (pool : List ℕ) → Type 0
  Checks r pool =
      (r ≡ sound)
      × (pool ≡ cond sound (map_of g (nodes_of (all_trees g (reads image)))) (clear_map (map_words g)))

  module _ (pool : List ℕ) (is : pool ≡ clear_map (map_words g)) (r : Bool) (marks : List ℕ)
      (h : kept r marks ≡ walked_slots g (reads image) (up_to g.slots) pool) where
    whole : kept r marks ≡ kept sound (map_of g (nodes_of (all_trees g (reads image))))
    whole = h ∙ ap (walked_slots g (reads image) (up_to g.slots)) is ∙ slots_law g image

    end : r ≡ sound
    end = same_end r sound marks (map_of g (nodes_of (all_trees g (reads image)))) whole

    pub image_unsound : r ≡ false → (pool' : List ℕ) → pool' ≡ clear_map (map_words g) → Checks false pool'
    image_unsound e pool' c = rw (sym end ∙ e) (refl, c)

    pub image_sound : r ≡ true → Checks true marks
    image_sound e =
        let t = same_kept r sound marks (map_of g (nodes_of (all_trees g (reads image)))) whole e in
        rw (sym end ∙ e) (refl, t)

  -- what recovery answers and leaves
  abbrev Recovers : Bool → (after pool : List ℕ) → Type 0
  Recovers r after pool =
      (r ≡ sound)
      × (after ≡ cond sound (apply image (stores (recover_stores g (reads image)))) image)
      × (pool ≡ cond sound (map_of g (nodes_of (all_trees g (reads image)))) (clear_map (map_words g)))

  module _ {r : Bool} {marks : List ℕ} (c : Checks r marks) where
    pub image_refused : r ≡ false → Recovers false image marks
    image_refused e =
        let d : sound ≡ false = sym c.0 ∙ e in
        (sym d, rw d refl, c.1)

    pub image_mended : r ≡ true → Sized image g → (after : List ℕ) → after ≡ mended_below g marks image g.nodes → Recovers true after marks
    image_mended e sized after q =
        let d : sound ≡ true = sym c.0 ∙ e in
        let t : marks ≡ map_of g (nodes_of (all_trees g (reads image))) = rw d at c.1 in
        (sym d, rw d (q ∙ ap (λ p. mended_below g p image g.nodes) t ∙ mend_law g image sized d), c.1)
