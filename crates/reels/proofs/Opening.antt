-- Open: what its checks leave, and how it ends.
use mathlib.Core.Path.{◌≡◌, refl, sym, ◌∙◌, ap}
use mathlib.Core.Bool.{false}
use mathlib.Core.Option.{none, some}
use mathlib.Core.List.{List, [], ◌∷◌}
use Prim.Native.Nat.{ℕ, ◌≤◌, ◌<◌}
use native.Mathlib.Omega.{arith}
use lib.ListN.{length}
use Rattle.tree.specs.Memory.{reads, segmented, written}
use Rattle.tree.specs.Test.{lt, le}
use Rattle.tree.specs.declared.layout.Geometry.{Geometry}
use Rattle.tree.specs.Slots.{slot_of, empty_slot}
use Rattle.tree.specs.Lookup.{free_run}
use Rattle.tree.specs.Subtree.{listed}
use Rattle.tree.specs.Pool.{mark}
use Rattle.tree.proofs.Tests.{said}
use Rattle.book.specs.Refusals.{Refusal, ◌gives◌, refusal}
use Rattle.book.specs.State.{Operation, State, open_reel, scratch_after}
use Rattle.book.specs.Checks.{refusals}
use Rattle.book.specs.Perform.{open_script, granted, leaves, clears}
use Rattle.book.proofs.Refusals.{denied, passed_all, refused_here, refused_later}
use Rattle.operations.specs.Ends.{Buffers, buffers, state, ended, found, ends}
use Rattle.operations.proofs.ScriptWords.{words_of}
use Rattle.operations.proofs.Passed.{OpenChecked, same_checks}
use Rattle.operations.proofs.Tested.{Tested, refused_past, done_past}

module _ (im pool script heads : List ℕ) (reel : ℕ) where
  abbrev op : Operation
  op = open_reel (length pool) (length script) reel

  abbrev start : State
  start = state im pool heads

  abbrev borrowed : Buffers
  borrowed = buffers [] script []

  -- 6, 7 and 8
  abbrev later_tests : Geometry → List Refusal
  later_tests g =
      (lt (slot_of g (reads im) reel) g.slots gives 6)
      ∷ (le g.slots (empty_slot g (reads im)) gives 7)
      ∷ (le g.nodes (free_run g (reads pool) 1) gives 8)
      ∷ []

  pub on_open : Tested op start (some pool) none (some script) false later_tests
  unfolding refusals leaves clears
  on_open = record { tests = same_checks im _ _ _ refl; leaves_all = λ n. refl; clears_past = λ n. refl }

  module _ (g : Geometry) (p : OpenChecked im pool script g) where
    ends_with : (n : ℕ) → refusal (later_tests g) ≡ n → 3 < n → ended n 0 start borrowed ≡ ends op start borrowed
    ends_with = refused_past on_open borrowed p

    -- in the code's own terms: r is the slot where the reel is open, `slot` the lowest empty one, n the lowest free node
    module _ (r : ℕ) (r-is : r ≡ slot_of g (reads im) reel) where
      pub already_open : r < g.slots → ended 6 0 start borrowed ≡ ends op start borrowed
      already_open l = ends_with 6 (refused_here _ _ (said (lt (slot_of g (reads im) reel) g.slots) (omega arith))) (omega arith)

      module _ (absent : g.slots ≤ r) (slot : ℕ) (slot_is : slot ≡ empty_slot g (reads im)) where
        not_open : refusal (later_tests g)
            ≡ refusal ((le g.slots (empty_slot g (reads im)) gives 7) ∷ (le g.nodes (free_run g (reads pool) 1) gives 8) ∷ [])
        not_open = refused_later _ _ (denied (lt (slot_of g (reads im) reel) g.slots) (omega arith))

        pub no_slot : g.slots ≤ slot → ended 7 0 start borrowed ≡ ends op start borrowed
        no_slot l = ends_with 7 (not_open ∙ refused_here _ _ (said (le g.slots (empty_slot g (reads im))) (omega arith))) (omega arith)

        module _ (left : slot < g.slots) (n : ℕ) (n-is : n ≡ free_run g (reads pool) 1) where
          pub no_node : g.nodes ≤ n → ended 8 0 start borrowed ≡ ends op start borrowed
          no_node l =
              ends_with 8
              (not_open
              ∙ refused_later _ _ (denied (le g.slots (empty_slot g (reads im))) (omega arith))
              ∙ refused_here _ _ (said (le g.nodes (free_run g (reads pool) 1)) (omega arith))) (omega arith)

          pub opened : n < g.nodes → (pool' script' : List ℕ) → pool' ≡ mark pool n → script' ≡ written (segmented (open_script g slot n reel)) script
              → ended 0 18 (state im pool' heads) (buffers [] script' []) ≡ ends op start borrowed
          unfolding granted scratch_after found open_script listed
          opened l pool' script' pool-is script_is =
              let none = passed_all (later_tests g) (omega arith, (omega arith, (omega arith, tt))) in
              ap (λ k. ended 0 k (state im pool' heads) (buffers [] script' [])) (words_of (open_script g slot n reel))
              ∙ rw (pool-is, script_is, slot_is, n-is, p.geometry) (sym (done_past on_open borrowed p none))
