-- Retire: how each way through the code ends.
use mathlib.Core.Path.{◌≡◌, refl, sym, ◌∙◌, ap}
use mathlib.Core.Bool.{Bool, true, false, cond, not}
use mathlib.Core.Option.{some}
use mathlib.Core.List.{List, [], ◌∷◌}
use Prim.Native.Nat.{ℕ, ◌<◌}
use native.Mathlib.Omega.{arith}
use lib.ListN.{length}
use borrow.Author.Tests.{not-true, not-false}
use Rattle.tree.specs.Memory.{reads, store, barrier, Store, written}
use Rattle.tree.specs.Test.{is}
use Rattle.tree.specs.declared.layout.Geometry.{Geometry}
use Rattle.tree.specs.Layout.{root_at}
use Rattle.tree.specs.Subtree.{tree, nodes_of, listed}
use Rattle.tree.specs.Check.{is_sound_tree}
use Rattle.tree.specs.Pool.{unmark_all, clear_map}
use Rattle.book.specs.declared.Head.{Head}
use Rattle.book.specs.Refusals.{Refusal, ◌gives◌}
use Rattle.book.specs.State.{Operation, State, retire, scratch_after}
use Rattle.book.specs.Checks.{refusals}
use Rattle.book.specs.Perform.{granted, leaves, clears}
use Rattle.book.proofs.Refusals.{passed_all, refused_here}
use Rattle.operations.specs.HeadLists.{heads_in, busy_in}
use Rattle.operations.specs.Ends.{buffers, state, ended, found, ends}
use Rattle.operations.proofs.ScriptWords.{words_of, fenced_written}
use Rattle.operations.proofs.Passed.{same_checks}
use Rattle.operations.proofs.Tested.{SlotRead}
use Rattle.reels.proofs.IdleReels.{OnIdleReel, idle_bad, idle_done}

module _ (im pool ws scratch script : List ℕ) (reel : ℕ) where
  abbrev op : Operation
  op = retire (length pool) (length scratch) (length script) reel

  abbrev start : State
  start = state im pool ws

  -- 4
  abbrev retire_rest : Geometry → ℕ → List Refusal
  retire_rest g slot = (is (not (is_sound_tree g (reads im) slot)) gives 4) ∷ []

  pub on_retire : OnIdleReel op start pool scratch script reel retire_rest
  unfolding refusals leaves clears
  on_retire = record { tested = record { tests = same_checks im _ _ _ refl; leaves_all = λ n. refl; clears_past = λ n. refl } }

  -- the slot is not busy: r says whether its tree is sound, and the map is what freeing the tree left
  module _ {g : Geometry} {slot : ℕ} (p : SlotRead im (some pool) (some scratch) (some script) reel g slot) (inside : slot < g.slots)
      (heads : List Head) (read : heads_in ws ≡ heads) (idle : busy_in heads slot ≡ false) (r : Bool) (r-is : r ≡ is_sound_tree g (reads im) slot)
      (pool' : List ℕ) (pool-is : pool' ≡ cond (is_sound_tree g (reads im) slot) (unmark_all pool (nodes_of (tree g (reads im) slot))) pool) where
    pub tree_bad : not r ≡ true → ended 4 0 (state im pool' ws) (buffers (clear_map (length scratch)) script []) ≡ ends op start (buffers scratch script [])
    tree_bad taken =
        let malformed = sym r-is ∙ not-true r taken in
        rw (pool-is, malformed) (idle_bad on_retire p inside heads read idle 4 (refused_here _ _ (rw malformed refl)) (omega arith))

    pub retired : not r ≡ false → (script' : List ℕ) → script' ≡ written (store (root_at slot) 0 ∷ barrier ∷ []) script
        → ended 0 4 (state im pool' ws) (buffers (clear_map (length scratch)) script' []) ≡ ends op start (buffers scratch script [])
    unfolding granted scratch_after found listed
    retired left script' script_is =
        let fine = sym r-is ∙ not-false r left in
        let none = passed_all (retire_rest g slot) (rw fine refl, tt) in
        let root : Store = (root_at slot, 0) in
        ap (λ k. ended 0 k (state im pool' ws) (buffers (clear_map (length scratch)) script' [])) (words_of ((root ∷ []) ∷ []))
        ∙ rw (pool-is, fine, fenced_written root script script' script_is, p.slot_is, p.checked.geometry)
        (sym (idle_done on_retire p inside heads read idle none))
