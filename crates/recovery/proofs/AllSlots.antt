-- The walk over all slots decides that the image is sound, and leaves the map of the nodes reached.
use mathlib.Core.Path.{◌≡◌, refl, sym, ◌∙◌, ap, ap₂}
use mathlib.Core.Bool.{Bool, true, false, cond, ◌&&◌}
use mathlib.Core.Bool as bool
use mathlib.Core.Logic.{inl, inr}
use mathlib.Core.Option.{none}
use mathlib.Core.List.{List, [], ◌∷◌, map, flat_map}
use Prim.Native.Nat.{ℕ}
use lib.Dec.{eqb}
use borrow.Author.Tests.{eqb-true, eq-eqb}
use Rattle.memory.specs.Words.{Memory, reads}
use Rattle.tree.specs.Lists.{up_to, keep, every, distinct}
use Rattle.tree.specs.declared.layout.Geometry.{Geometry}
use Rattle.tree.specs.Layout.{map_words, reel_at}
use Rattle.tree.specs.Fingerprint.{rule_of}
use Rattle.tree.specs.Slots.{filled, filled_slots, slot_of}
use Rattle.tree.specs.Subtree.{nodes_of, tree, all_trees}
use Rattle.tree.specs.Check.{walkable, in_place, is_sound}
use Rattle.tree.specs.Pool.{clear_map, map_of}
use Rattle.tree.proofs.Cases.{test, same_test, and-true}
use Rattle.tree.proofs.Lists.{flat_map_cong, map_flat_map, every_at, at_every, every_and, every_flat_map}
use Rattle.tree.proofs.Distinct.{distinct_says, distinct_said, same_element, distinct_by}
use Rattle.tree.proofs.Slots.{own_slot}
use Rattle.tree.proofs.Laws.{slot_laws}
use Rattle.visits.specs.Walk.{formed_at, walked, kept, walked_slot}
use Rattle.visits.proofs.Stops.{stop_of, slot_stops, slot_stops_lem}
use Rattle.visits.proofs.Walked.{met, walked_tests, walked_append, walked_between, walked_then}
use Rattle.visits.proofs.SlotWalks.{is_formed, walk_tested, nodes_formed}
use Rattle.recovery.specs.AllSlots.{walked_reel, walked_slots}

module _ (g : Geometry) (m : Memory) where
  -- a slot is its reel's
  abbrev is_own : ℕ → Bool
  is_own s = eqb (slot_of g m (m (reel_at s))) s

  own_slots : every is_own (filled_slots g m) ≡ distinct (λ s. m (reel_at s)) (filled_slots g m)
  own_slots = same_test (
    λ h. distinct_said _ (distinct_by _ (slot_laws g m).listed_once (λ s s' x y q.
        sym (eqb-true _ s (every_at is_own h x)) ∙ ap (slot_of g m) q ∙ eqb-true _ s' (every_at is_own h y))),
    λ h. at_every is_own (filled_slots g m) (λ s x.
        let l = slot_laws g m in
        let d = distinct_says (λ s. m (reel_at s)) (filled_slots g m) h in
        eq-eqb _ s (own_slot (λ s' b q. same_element d (l.listed.1 b) x q) (l.listed.0 x))),
  )

  -- a filled slot is its reel's, its tree's nodes are well formed, and each frame is where the lookup finds it
  abbrev is_placed : ℕ → Bool
  is_placed s = every (in_place (rule_of m) g m s) (tree g m s)

  abbrev slot_passes : ℕ → Bool
  slot_passes s = is_own s && (every (is_formed g m) (tree g m s) && is_placed s)

  walked_reel_lem : (s : ℕ) (pool : List ℕ) → walked_reel g m s pool ≡ cond (slot_passes s) (met (slot_stops g m s) pool) none
  unfolding walked_reel walked_slot
  walked_reel_lem s pool =
      rw (walked_tests (formed_at g m) (slot_stops g m s) pool, nodes_formed g m s)
      (walked_between (is_own s) (every (is_formed g m) (tree g m s)) (is_placed s) (met (slot_stops g m s) pool))

  walked_slots_lem : (ss pool : List ℕ)
      → walked_slots g m ss pool ≡ cond (every slot_passes (keep (filled m) ss)) (met (flat_map (slot_stops g m) (keep (filled m) ss)) pool) none
  unfolding walked_slots keep every flat_map walked
  walked_slots_lem [] pool = refl
  walked_slots_lem (s ∷ ss) pool = elim (test (filled m s)) [
    | inl e ↦
        let rest = keep (filled m) ss in
        let here = slot_stops g m s in
        rw (e, walked_reel_lem s pool, walked_append (λ x. true) here (flat_map (slot_stops g m) rest) pool)
        (walked_then (slot_passes s) (every slot_passes rest) (met here pool) (walked_slots g m ss) (met (flat_map (slot_stops g m) rest)) (walked_slots_lem ss))
    | inr e ↦ rw e (walked_slots_lem ss pool)
  ]

  -- what is asked of all slots, clause by clause
  slots_pass : every slot_passes (filled_slots g m)
      ≡ distinct (λ s. m (reel_at s)) (filled_slots g m) && (every (is_formed g m) (all_trees g m) && every is_placed (filled_slots g m))
  unfolding all_trees
  slots_pass =
      let fs = filled_slots g m in
      every_and is_own _ fs
      ∙ ap₂ ◌&&◌ own_slots (every_and _ is_placed fs ∙ ap (λ t. t && every is_placed fs) (sym (every_flat_map (is_formed g m) (tree g m) fs)))

  all_stops : flat_map (slot_stops g m) (filled_slots g m) ≡ map stop_of (all_trees g m)
  unfolding all_trees
  all_stops = flat_map_cong (slot_stops g m) _ (filled_slots g m) (λ s x. slot_stops_lem g m s) ∙ sym (map_flat_map stop_of (tree g m) (filled_slots g m))

  walked_filled : (pool : List ℕ)
      → walked_slots g m (up_to g.slots) pool ≡ cond (every slot_passes (filled_slots g m)) (met (map stop_of (all_trees g m)) pool) none
  unfolding filled_slots
  walked_filled pool = rw (← all_stops) (walked_slots_lem (up_to g.slots) pool)

  walked_all : walked_slots g m (up_to g.slots) (clear_map (map_words g)) ≡ kept (is_sound (rule_of m) g m) (map_of g (nodes_of (all_trees g m)))
  unfolding is_sound walkable
  walked_all =
      let reels = distinct (λ s. m (reel_at s)) (filled_slots g m) in
      let formed = every (is_formed g m) (all_trees g m) in
      let placed = every is_placed (filled_slots g m) in
      rw (walked_filled (clear_map (map_words g)), slots_pass)
      (walk_tested g m (reels && (formed && placed)) (all_trees g m) (λ e. (and-true formed placed (and-true reels (formed && placed) e).1).0)
      ∙ ap (λ t. kept t (map_of g (nodes_of (all_trees g m)))) (regroup reels formed placed (distinct (λ v. v.node) (all_trees g m))))
    where
      regroup : (r w p d : Bool) → r && (w && p) && d ≡ w && d && r && p
      regroup true false p d = refl
      regroup false false p d = refl
      regroup r true p true = bool.and-true (r && p)
      regroup r true p false = bool.and-false (r && p)

-- ---- the law

module _ (g : Geometry) (image : List ℕ) where
  pub slots_law : walked_slots g (reads image) (up_to g.slots) (clear_map (map_words g))
      ≡ kept (is_sound (rule_of (reads image)) g (reads image)) (map_of g (nodes_of (all_trees g (reads image))))
  slots_law = walked_all g (reads image)
