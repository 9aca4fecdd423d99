-- Recover: how each way through the code ends.
use mathlib.Core.Path.{◌≡◌, refl, sym, ◌∙◌, ap}
use mathlib.Core.Bool.{Bool, true, false, cond, not, or-false}
use mathlib.Core.Logic.{inl, inr}
use mathlib.Core.Option.{none, some}
use mathlib.Core.List.{List, [], ◌∷◌}
use Prim.Native.Nat.{ℕ}
use native.Mathlib.Omega.{arith}
use lib.ListN.{length}
use lib.Dec.{eqb}
use Rattle.tree.specs.Memory.{reads, stores, apply}
use Rattle.tree.specs.Test.{is}
use Rattle.tree.specs.declared.layout.Geometry.{Geometry}
use Rattle.tree.specs.Layout.{map_words, geometry_of}
use Rattle.tree.specs.Fingerprint.{rule_of, bad_own}
use Rattle.tree.specs.Subtree.{all_trees, nodes_of, listed}
use Rattle.tree.specs.Check.{is_sound}
use Rattle.tree.specs.Recovery.{recover_stores}
use Rattle.tree.specs.Pool.{clear_map, map_of}
use Rattle.tree.proofs.Cases.{test}
use Rattle.book.specs.Heads.{idle_heads}
use Rattle.book.specs.Refusals.{Refusal, ◌gives◌, refusal}
use Rattle.book.specs.State.{Operation, State, recover, scratch_after}
use Rattle.book.specs.Checks.{checked, refusals}
use Rattle.book.specs.Perform.{granted, leaves, clears}
use Rattle.book.proofs.Refusals.{passed_all, refused_here}
use Rattle.std.specs.Prelude.{Some, None, Result, Err}
use Rattle.operations.specs.declared.answer.Refusal as enums
use Rattle.operations.specs.Answers.{number_of}
use Rattle.operations.specs.Ends.{no_buffers, state, ended, ends}
use Rattle.operations.proofs.Endings.{no_script, refused_with, done}
use Rattle.operations.proofs.Passed.{buffers_bad, checks_on, Checked, tests_left, ended_early, past_three, in_turn}

module _ (im pool heads : List ℕ) where
  abbrev op : Operation
  op = recover (length pool)

  abbrev start : State
  start = state im pool heads

  -- 4
  abbrev later_tests : Geometry → List Refusal
  later_tests g = (is (not (is_sound (rule_of (reads im)) g (reads im))) gives 4) ∷ []

  tests : refusal (refusals op start)
      ≡ refusal (checked im (buffers_bad im (Some (length pool)) None None) (later_tests (geometry_of (reads im))))
  unfolding refusals
  tests =
      past_three im _ (buffers_bad im (Some (length pool)) None None) _ _ (sym (or-false _))
      (in_turn (bad_own (reads im)) (is (not (is_sound (rule_of (reads im)) (geometry_of (reads im)) (reads im)))) 4 [])

  -- 1, 2, 3, or 4 for the table, which clears the map
  pub recover_early : {v : Result Geometry enums.Refusal} {why : enums.Refusal} → v ≡ checks_on im (some pool) none none → v ≡ Err why
      → (pool' : List ℕ) → pool' ≡ cond (eqb (number_of why) 4) (clear_map (length pool)) pool
      → ended (number_of why) 0 (state im pool' heads) no_buffers ≡ ends op start no_buffers
  unfolding leaves clears scratch_after
  recover_early {why = why} q told pool' left =
      let e = ended_early op start no_buffers (Some (length pool)) None None (later_tests (geometry_of (reads im))) tests q told in
      let same : state im (cond (eqb (number_of why) 4) (clear_map (length pool)) pool) heads ≡ leaves op start (number_of why) =
      elim (test (eqb (number_of why) 4)) [ inl h ↦ rw h refl | inr h ↦ rw h refl ] in
      ap (λ x. ended (number_of why) 0 (state im x heads) no_buffers) left ∙ ap (λ x. ended (number_of why) 0 x no_buffers) same ∙ e

  -- r says whether the image is sound; image and map are what recovering it left
  module _ (g : Geometry) (p : Checked im (some pool) none none g) (r : Bool) (r-is : r ≡ is_sound (rule_of (reads im)) g (reads im)) (im' pool' : List ℕ)
      (image-is : im' ≡ cond (is_sound (rule_of (reads im)) g (reads im)) (apply im (stores (recover_stores g (reads im)))) im)
      (pool-is : pool' ≡ cond (is_sound (rule_of (reads im)) g (reads im)) (map_of g (nodes_of (all_trees g (reads im)))) (clear_map (map_words g))) where
    later : refusal (refusals op start) ≡ refusal (later_tests g)
    later = tests ∙ tests_left im (some pool) none none p later_tests

    -- the map is cleared, and nothing else is changed
    pub unsound : r ≡ false → ended 4 0 (state im' pool' heads) no_buffers ≡ ends op start no_buffers
    unfolding leaves clears scratch_after listed
    unsound told =
        let bad = sym r-is ∙ told in
        let why : refusal (refusals op start) ≡ 4 = later ∙ refused_here _ _ (rw bad refl) in
        rw (image-is, pool-is, bad, ← p.map_words_lem) (sym (refused_with op start no_buffers 4 why (omega arith) ∙ no_script op _ no_buffers refl))

    pub recovered : r ≡ true → ended 0 0 (state im' pool' idle_heads) no_buffers ≡ ends op start no_buffers
    unfolding granted clears scratch_after listed
    recovered told =
        let fine = sym r-is ∙ told in
        let none : refusal (refusals op start) ≡ 0 = later ∙ passed_all (later_tests g) (rw fine refl, tt) in
        rw (image-is, pool-is, fine, p.geometry) (sym (done op start no_buffers none ∙ no_script op _ no_buffers refl))
