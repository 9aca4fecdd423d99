-- List: how each way through the code ends.
use mathlib.Core.Path.{◌≡◌, refl, sym, ◌∙◌}
use mathlib.Core.Bool.{true, false, not, or-false}
use mathlib.Core.Logic.{inl, inr}
use mathlib.Core.Option.{none, some}
use mathlib.Core.List.{List, [], ◌∷◌}
use Prim.Native.Nat.{ℕ, ◌<◌}
use native.Mathlib.Omega.{arith}
use lib.ListN.{length}
use lib.Dec.{ltb}
use borrow.Author.Tests.{ltb-false}
use Rattle.tree.specs.Memory.{reads}
use Rattle.tree.specs.Test.{lt, is}
use Rattle.tree.specs.declared.layout.Geometry.{Geometry}
use Rattle.tree.specs.Subtree.{listing, listed}
use Rattle.tree.specs.Check.{is_sound_tree}
use Rattle.tree.specs.Pool.{clear_map}
use Rattle.tree.proofs.Cases.{test}
use Rattle.std.specs.Prelude.{Result, Ok, Err}
use Rattle.walks.specs.declared.trees.ListError.{ListError}
use Rattle.walks.specs.declared.trees.ListError.TheVariants.{Malformed, Short}
use Rattle.walks.specs.Answers.{listing_from, list_after}
use Rattle.book.specs.Refusals.{Refusal, ◌gives◌}
use Rattle.book.specs.State.{Operation, State, query, list, scratch_after}
use Rattle.book.specs.Checks.{refusals}
use Rattle.book.specs.Perform.{granted, leaves, clears}
use Rattle.book.proofs.Refusals.{passed_all, refused_here, refused_later}
use Rattle.operations.specs.declared.answer.Refusal as enums
use Rattle.operations.specs.declared.answer.Refusal.TheVariants as why
use Rattle.operations.specs.Answers.{answer_of, count_of}
use Rattle.operations.specs.Ends.{Buffers, buffers, state, ended, ends}
use Rattle.operations.proofs.Endings.{no_script}
use Rattle.operations.proofs.Passed.{same_checks}
use Rattle.operations.proofs.Tested.{OnReel, SlotRead, rest_bad, rest_done}

-- what the code answers for what listing the tree came to
abbrev pub answered : Result ℕ ListError → Result ℕ enums.Refusal
answered (Err Malformed) = Err why.Malformed
answered (Err Short) = Err why.ListShort
answered (Ok n) = Ok n

module _ (im pool ws scratch frames : List ℕ) (reel : ℕ) where
  abbrev op : Operation
  op = query (list (length scratch) (length frames) reel)

  abbrev start : State
  start = state im pool ws

  abbrev borrowed : Buffers
  borrowed = buffers scratch [] frames

  -- 4 and 14
  abbrev pub list_rest : Geometry → ℕ → List Refusal
  list_rest g slot = (is (not (is_sound_tree g (reads im) slot)) gives 4) ∷ (lt (length frames) (length (listing g (reads im) slot)) gives 14) ∷ []

  pub on_list : OnReel op start none (some scratch) none true reel list_rest
  unfolding refusals leaves clears
  on_list = record { tested = record { tests = same_checks im _ _ _ (sym (or-false _)); leaves_all = λ n. refl; clears_past = λ n. refl } }

  module _ {g : Geometry} {slot : ℕ} (p : SlotRead im none (some scratch) none reel g slot) (inside : slot < g.slots) where
    all_listed : is_sound_tree g (reads im) slot ≡ true → ltb (length frames) (length (listing g (reads im) slot)) ≡ false
        → ended 0 (length (listing g (reads im) slot)) start (buffers (clear_map (length scratch)) [] (listed (listing g (reads im) slot) frames)) ≡ ends op start borrowed
    unfolding granted scratch_after
    all_listed sound room =
        let none = passed_all (list_rest g slot) (rw sound refl, (ltb-false _ _ room, tt)) in
        rw (p.slot_is, p.checked.geometry) (sym (rest_done on_list borrowed p inside none ∙ no_script op _ borrowed refl))

    -- in one form for all that listing the tree comes to
    pub list_ended : (r : Result ℕ ListError) (frames' : List ℕ) → r ≡ listing_from g (reads im) slot (length frames) → frames' ≡ list_after g (reads im) slot frames
        → ended (answer_of (answered r)) (count_of (answered r)) start (buffers (clear_map (length scratch)) [] frames') ≡ ends op start borrowed
    unfolding listing_from list_after
    list_ended r frames' e l =
        elim (test (is_sound_tree g (reads im) slot)) [
          | inl sound ↦ elim (test (ltb (length frames) (length (listing g (reads im) slot)))) [
            | inl short ↦ rw (e, l, sound, short) (rest_bad on_list borrowed p inside 14
                (refused_later _ _ (rw sound refl) ∙ refused_here _ _ short) (omega arith))
            | inr room ↦ rw (e, l, sound, room) (all_listed sound room)
          ]
          | inr malformed ↦ rw (e, l, malformed) (rest_bad on_list borrowed p inside 4 (refused_here _ _ (rw malformed refl)) (omega arith))
        ]
