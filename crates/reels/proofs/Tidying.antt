-- Tidy: how each way through the code ends.
use mathlib.Core.Path.{◌≡◌, refl, sym, ◌∙◌, ap}
use mathlib.Core.Bool.{Bool, true, false, not}
use mathlib.Core.Option.{some}
use mathlib.Core.List.{List, [], ◌∷◌}
use Prim.Native.Nat.{ℕ, ◌-◌, ◌<◌}
use native.Mathlib.Omega.{arith}
use lib.ListN.{length}
use borrow.Author.Tests.{not-true, not-false}
use Rattle.tree.specs.Memory.{reads, is_some, store, barrier, Store, written}
use Rattle.tree.specs.Test.{is}
use Rattle.tree.specs.declared.layout.Geometry.{Geometry}
use Rattle.tree.specs.Layout.{next_at}
use Rattle.tree.specs.Subtree.{listed}
use Rattle.tree.specs.Check.{is_sound_tree}
use Rattle.tree.specs.Groups.{first_group}
use Rattle.tree.specs.Pool.{unmark_all, clear_map}
use Rattle.std.specs.Prelude.{Option, Some, None}
use Rattle.groups.specs.declared.search.FoundGroup.{FoundGroup}
use Rattle.groups.specs.Search.{search_of}
use Rattle.groups.proofs.Found.{Seen, no_visit, seen_visit}
use Rattle.book.specs.declared.Head.{Head}
use Rattle.book.specs.Refusals.{Refusal, ◌gives◌}
use Rattle.book.specs.State.{Operation, State, tidy, scratch_after}
use Rattle.book.specs.Checks.{refusals}
use Rattle.book.specs.Perform.{group, tidy_script, granted, leaves, clears}
use Rattle.book.proofs.Refusals.{passed_all, refused_here, refused_later}
use Rattle.operations.specs.HeadLists.{heads_in, busy_in}
use Rattle.operations.specs.Ends.{buffers, state, ended, found, ends}
use Rattle.operations.proofs.ScriptWords.{words_of, fenced_written}
use Rattle.operations.proofs.Passed.{same_checks}
use Rattle.operations.proofs.Tested.{SlotRead}
use Rattle.reels.proofs.IdleReels.{OnIdleReel, idle_bad, idle_done}

module _ (im pool ws scratch script : List ℕ) (reel : ℕ) where
  abbrev op : Operation
  op = tidy (length pool) (length scratch) (length script) reel

  abbrev start : State
  start = state im pool ws

  -- 4 and 18
  abbrev tidy_rest : Geometry → ℕ → List Refusal
  tidy_rest g slot = (is (not (is_sound_tree g (reads im) slot)) gives 4) ∷ (is (not (is_some (first_group g (reads im) slot))) gives 18) ∷ []

  pub on_tidy : OnIdleReel op start pool scratch script reel tidy_rest
  unfolding refusals leaves clears
  on_tidy = record { tested = record { tests = same_checks im _ _ _ refl; leaves_all = λ n. refl; clears_past = λ n. refl } }

  -- the slot is not busy: r says whether its tree is sound
  module _ {g : Geometry} {slot : ℕ} (p : SlotRead im (some pool) (some scratch) (some script) reel g slot) (inside : slot < g.slots)
      (heads : List Head) (read : heads_in ws ≡ heads) (idle : busy_in heads slot ≡ false) (r : Bool) (r-is : r ≡ is_sound_tree g (reads im) slot) where
    pub tree_bad : not r ≡ true → ended 4 0 start (buffers (clear_map (length scratch)) script []) ≡ ends op start (buffers scratch script [])
    tree_bad taken = idle_bad on_tidy p inside heads read idle 4 (refused_here _ _ (rw (sym r-is ∙ not-true r taken) refl)) (omega arith)

    -- it is, and this is what the search found
    module _ (left : not r ≡ false) {o : Option FoundGroup} (e : o ≡ search_of (first_group g (reads im) slot)) where
      fine : is_sound_tree g (reads im) slot ≡ true
      fine = sym r-is ∙ not-false r left

      pub no_group : o ≡ None → ended 18 0 start (buffers (clear_map (length scratch)) script []) ≡ ends op start (buffers scratch script [])
      no_group q =
          let nowhere = no_visit (first_group g (reads im) slot) (sym q ∙ e) in
          idle_bad on_tidy p inside heads read idle 18 (refused_later _ _ (rw fine refl) ∙ refused_here _ _ (rw nowhere refl)) (omega arith)

      tidied_at : {f : FoundGroup} → Seen (first_group g (reads im) slot) f → (pool' : List ℕ) → pool' ≡ unmark_all pool (group (reads im (next_at g f.node) - 1) f.depth)
          → (script' : List ℕ) → script' ≡ written (store (next_at g f.node) 0 ∷ barrier ∷ []) script
          → ended 0 4 (state im pool' ws) (buffers (clear_map (length scratch)) script' []) ≡ ends op start (buffers scratch script [])
      unfolding granted scratch_after found listed tidy_script
      tidied_at {f} v pool' pool-is script' script_is =
          let none = passed_all (tidy_rest g slot) (rw fine refl, (rw v.is refl, tt)) in
          let next : Store = (next_at g f.node, 0) in
          ap (λ k. ended 0 k (state im pool' ws) (buffers (clear_map (length scratch)) script' [])) (words_of ((next ∷ []) ∷ []))
          ∙ rw (pool-is, fenced_written next script script' script_is, ← v.node, ← v.depth)
          (sym (idle_done on_tidy p inside heads read idle none ∙ rw (← p.checked.geometry, ← p.slot_is, v.is) refl))

      pub tidied : {f : FoundGroup} → o ≡ Some f → (pool' : List ℕ) → pool' ≡ unmark_all pool (group (reads im (next_at g f.node) - 1) f.depth) → (script' : List ℕ)
          → script' ≡ written (store (next_at g f.node) 0 ∷ barrier ∷ []) script
          → ended 0 4 (state im pool' ws) (buffers (clear_map (length scratch)) script' []) ≡ ends op start (buffers scratch script [])
      tidied q = tidied_at (seen_visit (first_group g (reads im) slot) _ (sym q ∙ e))
