-- An operation's tests past the first checks, and how it ends by them: one form for all that leave the state as it was where they refuse.
use mathlib.Core.Path.{◌≡◌, refl, sym, ◌∙◌, ap}
use mathlib.Core.Bool.{Bool, true, cond, ◌&&◌, and-true}
use mathlib.Core.Option.{Option}
use mathlib.Core.List.{List, ◌∷◌}
use Rattle.std.specs.Prelude.{Result, Err}
use Prim.Native.Nat.{ℕ, ◌≤◌, ◌<◌}
use native.Mathlib.Omega.{arith}
use lib.ListN.{length}
use lib.Dec.{eqb}
use borrow.Author.Tests.{lt-ltb, ne_eqb, le-leb, lt-leb}
use Rattle.tree.specs.Memory.{reads}
use Rattle.tree.specs.Test.{le}
use Rattle.tree.specs.declared.layout.Geometry.{Geometry}
use Rattle.tree.specs.Layout.{geometry_of}
use Rattle.tree.specs.Slots.{Filled, slot_of}
use Rattle.tree.specs.Pool.{clear_map}
use Rattle.tree.proofs.Laws.{slot_laws}
use Rattle.book.specs.Refusals.{Refusal, ◌gives◌, refusal}
use Rattle.book.specs.State.{Operation, State, scratch_after}
use Rattle.book.specs.Checks.{checked, refusals}
use Rattle.book.specs.Perform.{granted, leaves, past_checks, clears, left_by}
use Rattle.book.proofs.Refusals.{refused_here, refused_later}
use Rattle.operations.specs.declared.answer.Refusal as enums
use Rattle.operations.specs.Answers.{number_of}
use Rattle.operations.specs.Ends.{Buffers, all_buffers, ended, found, ends}
use Rattle.operations.proofs.Endings.{refused, done}
use Rattle.operations.proofs.Passed.{number_some, buffers_bad, refused_first, by_length, checks_on, Checked, tests_left, ended_early, past_is_4}

-- 1 to 4 for what is borrowed and the table, then `rest`; `cleared` says whether the scratch map is all 0 once 3 is past
pub record Tested (op : Operation) (s : State) (map scratch script : Option (List ℕ)) (cleared : Bool) (rest : Geometry → List Refusal) : Type 0 where
  pub tests : refusal (refusals op s)
      ≡ refusal (checked s.image (buffers_bad s.image (by_length map) (by_length scratch) (by_length script)) (rest (geometry_of (reads s.image))))
  pub leaves_all : (n : ℕ) → leaves op s n ≡ s
  pub clears_past : (n : ℕ) → clears op n ≡ cleared && past_checks n

-- the buffers as they are left where nothing is written
abbrev pub left_as : Bool → Buffers → Buffers
left_as cleared b = all_buffers (cond cleared (clear_map (length b.scratch)) b.scratch) b.script b.list b.copy

module _ {op : Operation} {s : State} {map scratch script : Option (List ℕ)} {cleared : Bool} {rest : Geometry → List Refusal}
    (o : Tested op s map scratch script cleared rest) (b : Buffers) where
  -- 1, 2, 3, or 4 for the table, which clears a scratch map
  pub check_bad : {v : Result Geometry enums.Refusal} {why : enums.Refusal} → v ≡ checks_on s.image map scratch script → v ≡ Err why
      → ended (number_of why) 0 s (left_as (cleared && eqb (number_of why) 4) b) ≡ ends op s b
  unfolding scratch_after
  check_bad {why = why} is told =
      let n = number_of why in
      let most = (refused_first s.image (by_length map) (by_length scratch) (by_length script) (sym told ∙ is)).most in
      let past : clears op n ≡ cleared && eqb n 4 = o.clears_past n ∙ ap (λ c. cleared && c) (past_is_4 n (number_some why) most) in
      let left : ended n 0 (leaves op s n) (all_buffers (scratch_after (clears op n) b.scratch) b.script b.list b.copy)
      ≡ ended n 0 s (left_as (cleared && eqb n 4) b) = rw (o.leaves_all n, past) refl in
      sym left ∙ ended_early op s b (by_length map) (by_length scratch) (by_length script) _ o.tests is told

  module _ {g : Geometry} (p : Checked s.image map scratch script g) where
    later : refusal (refusals op s) ≡ refusal (rest g)
    later = o.tests ∙ tests_left s.image map scratch script p rest

    pub refused_past : (n : ℕ) → refusal (rest g) ≡ n → 3 < n → ended n 0 s (left_as cleared b) ≡ ends op s b
    unfolding scratch_after
    refused_past n e l =
        let past : past_checks n ≡ true = rw (ne_eqb n 0 (λ q. omega arith), lt-ltb 3 n l) refl in
        sym (refused op s b n (later ∙ e) (λ q. omega arith) (o.leaves_all n) ∙ rw (o.clears_past n, past, and-true cleared) refl)

    pub done_past : refusal (rest g) ≡ 0 → ends op s b ≡ found op (record { answer = 0; work = granted op s; cleared = cleared; places_left_lem = left_by op s }) b
    done_past e = done op s b (later ∙ e) ∙ rw (o.clears_past 0, and-true cleared) refl

-- ---- an operation on a reel

-- past the checks it tests 5, then the rest, by geometry and slot
pub record OnReel (op : Operation) (s : State) (map scratch script : Option (List ℕ)) (cleared : Bool) (reel : ℕ) (rest : Geometry → ℕ → List Refusal)
    : Type 0 where
  pub tested : Tested op s map scratch script cleared (λ g.
      let slot = slot_of g (reads s.image) reel in
      (le g.slots slot gives 5) ∷ rest g slot)

-- the geometry and the reel's slot, as the code has them once the checks are passed
pub record SlotRead (im : List ℕ) (map scratch script : Option (List ℕ)) (reel : ℕ) (g : Geometry) (slot : ℕ) : Type 0 where
  pub checked : Checked im map scratch script g
  pub slot_is : slot ≡ slot_of g (reads im) reel

-- a slot that is there is filled
pub filled_slot : {im : List ℕ} {map scratch script : Option (List ℕ)} {reel : ℕ} {g : Geometry} {slot : ℕ}
    → SlotRead im map scratch script reel g slot → slot < g.slots → Filled g (reads im) slot
filled_slot {im} {reel = reel} {g = g} p l = rw p.slot_is ((slot_laws g (reads im)).reel reel (rw (← p.slot_is) l)).0

module _ {op : Operation} {s : State} {map scratch script : Option (List ℕ)} {cleared : Bool} {reel : ℕ} {rest : Geometry → ℕ → List Refusal}
    (o : OnReel op s map scratch script cleared reel rest) (b : Buffers)
    {g : Geometry} {slot : ℕ} (p : SlotRead s.image map scratch script reel g slot) where
  by_slot : refusal ((le g.slots (slot_of g (reads s.image) reel) gives 5) ∷ rest g (slot_of g (reads s.image) reel))
      ≡ refusal ((le g.slots slot gives 5) ∷ rest g slot)
  by_slot = rw p.slot_is refl

  pub no_reel : g.slots ≤ slot → ended 5 0 s (left_as cleared b) ≡ ends op s b
  no_reel l = refused_past o.tested b p.checked 5 (by_slot ∙ refused_here _ _ (le-leb g.slots slot l)) (omega arith)

  module _ (l : slot < g.slots) where
    has_reel : refusal ((le g.slots (slot_of g (reads s.image) reel) gives 5) ∷ rest g (slot_of g (reads s.image) reel)) ≡ refusal (rest g slot)
    has_reel = by_slot ∙ refused_later _ _ (lt-leb g.slots slot l)

    pub rest_bad : (n : ℕ) → refusal (rest g slot) ≡ n → 3 < n → ended n 0 s (left_as cleared b) ≡ ends op s b
    rest_bad n e = refused_past o.tested b p.checked n (has_reel ∙ e)

    pub rest_done : refusal (rest g slot) ≡ 0 → ends op s b ≡ found op (record { answer = 0; work = granted op s; cleared = cleared; places_left_lem = left_by op s }) b
    rest_done e = done_past o.tested b p.checked (has_reel ∙ e)
