-- Convert: how each way through the code ends.
use mathlib.Core.Path.{◌≡◌, refl, sym, ◌∙◌}
use mathlib.Core.Bool.{true, false, not, or-false}
use mathlib.Core.Logic.{◌≢◌}
use mathlib.Core.Option.{none, some}
use mathlib.Core.List.{List, [], ◌∷◌}
use Prim.Native.Nat.{ℕ}
use native.Mathlib.Omega.{arith}
use lib.ListN.{length}
use borrow.Author.Tests.{eq-eqb, ne_eqb}
use Rattle.tree.specs.Memory.{reads}
use Rattle.tree.specs.Test.{is, holds}
use Rattle.tree.specs.declared.layout.Geometry.{Geometry}
use Rattle.tree.specs.Layout.{bad_image, geometry_of}
use Rattle.tree.specs.Fingerprint.{has_own, rule_of, bad_own}
use Rattle.tree.specs.Subtree.{listed}
use Rattle.tree.specs.Check.{is_sound}
use Rattle.tree.specs.Convert.{converted_image}
use Rattle.tree.specs.Pool.{clear_map}
use Rattle.tree.proofs.Cases.{or_right}
use Rattle.book.specs.Refusals.{Refusal, ◌gives◌, refusal}
use Rattle.book.specs.State.{Operation, State, query, convert, scratch_after}
use Rattle.book.specs.Checks.{first_three, bad_map, not_sound, refusals}
use Rattle.book.specs.Perform.{granted, leaves, clears}
use Rattle.book.proofs.Refusals.{passed_all, refused_here, refused_later}
use Rattle.std.specs.Prelude.{Some, None}
use Rattle.operations.specs.Ends.{Buffers, all_buffers, state, ended, ends}
use Rattle.operations.proofs.Endings.{no_script, refused}
use Rattle.operations.proofs.Passed.{buffers_bad, Checked, past_three, in_turn}
use Rattle.operations.proofs.Tested.{Tested, refused_past, done_past}

module _ (im pool ws scratch copy : List ℕ) where
  abbrev op : Operation
  op = query (convert (length scratch) (length copy))

  abbrev start : State
  start = state im pool ws

  abbrev borrowed : Buffers
  borrowed = all_buffers scratch [] [] copy

  -- 1 for the second image's length
  pub copy_bad : length copy ≢ length im → ended 1 0 start borrowed ≡ ends op start borrowed
  unfolding refusals leaves clears scratch_after
  copy_bad e =
      sym (refused op start borrowed 1 (refused_here _ _ (or_right (holds (bad_image (length im) (geometry_of (reads im)))) (rw (ne_eqb _ _ e) refl))) (omega arith) refl)

  -- 4 and 17
  abbrev rest : Geometry → List Refusal
  rest g = (is (not (is_sound (rule_of (reads im)) g (reads im))) gives 4) ∷ (is (has_own (reads im)) gives 17) ∷ []

  module _ (same : length copy ≡ length im) where
    -- the second image is as long: 1 is for the image alone
    right_length : refusal (refusals op start)
        ≡ refusal (first_three im (bad_map (geometry_of (reads im)) (length scratch)) ((not_sound (reads im) gives 4) ∷ (is (has_own (reads im)) gives 17) ∷ []))
    unfolding refusals refusal
    right_length = rw (eq-eqb (length copy) (length im) same, or-false (holds (bad_image (length im) (geometry_of (reads im))))) refl

    pub tested : Tested op start none (some scratch) none true rest
    unfolding refusals leaves clears
    tested = record {
      tests = right_length ∙ past_three im _ (buffers_bad im None (Some (length scratch)) None) _ _ (sym (or-false _))
          (in_turn (bad_own (reads im)) (is (not (is_sound (rule_of (reads im)) (geometry_of (reads im)) (reads im)))) 4 _);
      leaves_all = λ n. refl;
      clears_past = λ n. refl;
    }

    -- the scratch map is all 0 then
    module _ {g : Geometry} (p : Checked im none (some scratch) none g) where
      pub unsound : is_sound (rule_of (reads im)) g (reads im) ≡ false → ended 4 0 start (all_buffers (clear_map (length scratch)) [] [] copy) ≡ ends op start borrowed
      unsound bad = refused_past tested borrowed p 4 (refused_here _ _ (rw bad refl)) (omega arith)

      module _ (sound : is_sound (rule_of (reads im)) g (reads im) ≡ true) where
        pub own_table : has_own (reads im) ≡ true → ended 17 0 start (all_buffers (clear_map (length scratch)) [] [] copy) ≡ ends op start borrowed
        own_table own = refused_past tested borrowed p 17 (refused_later _ _ (rw sound refl) ∙ refused_here _ _ own) (omega arith)

        pub converts : has_own (reads im) ≡ false
            → ended 0 0 start (all_buffers (clear_map (length scratch)) [] [] (converted_image im)) ≡ ends op start borrowed
        unfolding granted scratch_after listed
        converts not_own =
            sym (done_past tested borrowed p (passed_all (rest g) (rw sound refl, (not_own, tt))) ∙ no_script op _ borrowed refl)
