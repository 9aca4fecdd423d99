-- Claim: how each way through the code ends.
use mathlib.Core.Path.{◌≡◌, refl, sym, ◌∙◌, ap, ap₂}
use mathlib.Core.Bool.{Bool, true, false, cond, not}
use mathlib.Core.Logic.{inl, inr, ◌≢◌}
use mathlib.Core.List.{List, [], ◌∷◌, ◌++◌}
use Prim.Native.Nat.{ℕ, ◌+◌, ◌≤◌, ◌<◌}
use native.Mathlib.Omega.{arith}
use lib.ListN.{length}
use lib.Dec.{ltb, leb}
use borrow.Author.Tests.{ltb-true, ltb-false, leb-false, lt-ltb, le-leb, lt-leb}
use Rattle.tree.specs.Memory.{reads, is_some}
use Rattle.tree.specs.Test.{le, is, ◌or◌, holds}
use Rattle.tree.specs.declared.layout.Geometry.{Geometry}
use Rattle.tree.specs.Layout.{bad_image, geometry_of}
use Rattle.tree.specs.declared.path.Room.{Room}
use Rattle.tree.specs.declared.path.Room.TheVariants.{Clear, ScaleUp, BranchOut}
use Rattle.tree.specs.Path.{fanout}
use Rattle.tree.specs.Slots.{slot_of}
use Rattle.tree.specs.Fingerprint.{rule_of}
use Rattle.tree.specs.Lookup.{spot, path_from, find, is_free_run, free_run}
use Rattle.tree.specs.Room.{room_on, places_left, needs, at_level31}
use Rattle.tree.specs.Pool.{mark_all}
use Rattle.tree.specs.Subtree.{listed}
use Rattle.tree.proofs.Cases.{test}
use Rattle.tree.proofs.Memory.{first_laws}
use Rattle.std.specs.Prelude.{Result, Ok, Err, Some, None}
use Rattle.paths.specs.declared.descent.NoVacancy.{NoVacancy}
use Rattle.paths.specs.declared.descent.NoVacancy.TheVariants.{Malformed, Full, Held}
use Rattle.paths.specs.declared.descent.Vacancy.{Vacancy}
use Rattle.paths.specs.Answers.{vacancy, placement_from}
use Rattle.book.specs.declared.Target.{Target}
use Rattle.book.specs.declared.Head.{Head}
use Rattle.book.specs.declared.HeadState.TheVariants.{Claimed}
use Rattle.book.specs.Heads.{head_count, head_at, is_idle, any_head, conflicts, with_head}
use Rattle.book.specs.Refusals.{Refusal, ◌gives◌, refusal}
use Rattle.book.specs.State.{Operation, State, claim, Work, scratch_after}
use Rattle.book.specs.Checks.{no_path, target_in, no_run_for, in_conflict, refusals}
use Rattle.book.specs.Perform.{room_script, claim_script, taken, writing, granted, leaves, clears, left_by}
use Rattle.book.proofs.Refusals.{Named, denies, passes, passed_all, refused_here, refused_later}
use Rattle.book.proofs.Inside.{run_inside}
use Rattle.operations.specs.Checked.{first_checks}
use Rattle.operations.specs.HeadLists.{heads_in, state_in, any_in}
use Rattle.operations.specs.declared.answer.Refusal as enums
use Rattle.operations.specs.Answers.{number_of}
use Rattle.operations.specs.Ends.{Buffers, buffers, state, ended_left, ended, found, ends}
use Rattle.operations.proofs.Endings.{refused, done}
use Rattle.operations.proofs.Passed.{same_checks, buffers_bad, past_checks_lem, OpenChecked, open_checked, ended_early}
use Rattle.operations.proofs.HeadRecords.{state_read, any_read}
use Rattle.claims.specs.Answers.{admission_number, refusal_of}
use Rattle.claims.specs.Rooms.{Taken}
use Rattle.claims.proofs.Claiming.{placement_says, takes_nodes}

-- ---- tests after tests

first_refused : (rs others : List Refusal) → refusal rs ≢ 0 → refusal (rs ++ others) ≡ refusal rs
unfolding refusal
first_refused [] others z = absurd (z refl)
first_refused (r ∷ rs) others z = elim (test (holds r.test)) [
  | inl e ↦ rw e refl
  | inr e ↦ rw e (first_refused rs others (λ q. z (rw e q)))
]

none_refused : (rs others : List Refusal) → Named rs → refusal rs ≡ 0 → refusal (rs ++ others) ≡ refusal others
unfolding refusal
none_refused [] others n q = refl
none_refused (r ∷ rs) others n q = elim (test (holds r.test)) [
  | inl e ↦ absurd (n.0 (rw e at q))
  | inr e ↦ rw e (none_refused rs others n.1 (rw e at q))
]

-- the tests by the array of heads: 11, 12 and 5
abbrev head_tests_in : List Head → (h : ℕ) → Geometry → (slot : ℕ) → List Refusal
head_tests_in heads h g slot =
    (le head_count h gives 11)
    ∷ (is (not (is_idle (state_in heads h))) gives 12)
    ∷ (le g.slots slot gives 5)
    ∷ []

-- past them the slot is one of the image's
pub slot_below : (heads : List Head) (h : ℕ) (g : Geometry) (slot : ℕ) → 0 ≡ refusal (head_tests_in heads h g slot) → slot < g.slots
slot_below heads h g slot e = (passes (head_tests_in heads h g slot) (omega arith) (sym e)).1.1.0

-- the run that the room takes is inside the pool, where it takes any
pub run_fits : (g : Geometry) (pool : List ℕ) (room : Room) (start : ℕ) → start ≡ cond (ltb 0 (needs room)) (free_run g (reads pool) (needs room)) 0
    → start < g.nodes → start + needs room ≤ g.nodes
run_fits g pool room start e l = elim (test (ltb 0 (needs room))) [
  | inl t ↦
      let q : start ≡ free_run g (reads pool) (needs room) = rw t at e in
      rw q (run_inside g (reads pool) (needs room) (inr (omega arith)) (ltb-true 0 (needs room) t))
  | inr t ↦ omega (arith, ltb-false 0 (needs room) t)
]

-- it starts inside or just past it
pub start_within : (g : Geometry) (pool : List ℕ) (room : Room) (start : ℕ) → start ≡ cond (ltb 0 (needs room)) (free_run g (reads pool) (needs room)) 0
    → start ≤ g.nodes
unfolding free_run
start_within g pool room start e = elim (test (ltb 0 (needs room))) [
  | inl t ↦ let q : start ≡ free_run g (reads pool) (needs room) = rw t at e in omega (arith, q, (first_laws (is_free_run g (reads pool) (needs room)) g.nodes).within)
  | inr t ↦ let q : start ≡ 0 = rw t at e in omega arith
]

below_test : (a b : ℕ) → ltb a b ≡ not (leb b a)
below_test a b = elim (test (ltb a b)) [
  | inl e ↦ rw (e, lt-leb b a (ltb-true a b e)) refl
  | inr e ↦ rw (e, le-leb b a (ltb-false a b e)) refl
]

-- an image that passed 1 has a node
some_node : {im pool script : List ℕ} {g : Geometry} → OpenChecked im pool script g → 1 ≤ g.nodes
unfolding bad_image
some_node {im} {pool} {script} {g} p =
    rw p.geometry (denies (bad_image (length im) (geometry_of (reads im))) p.all.image_fine).0.1.1.0

module _ (im pool script ws : List ℕ) (h reel f : ℕ) where
  abbrev op : Operation
  op = claim (length pool) (length script) h reel f

  abbrev begun : State
  begun = state im pool ws

  abbrev borrowed : Buffers
  borrowed = buffers [] script []

  abbrev EndsWith : ℕ → Type 0
  EndsWith n = ended n 0 begun borrowed ≡ ends op begun borrowed

  abbrev room_in : Geometry → (slot : ℕ) → Room
  room_in g slot = room_on g (reads im) (path_from g (reads im) slot f)

  -- the three by the driver's words, then 4, 9, 13 and 8
  abbrev head_tests : Geometry → (slot : ℕ) → List Refusal
  head_tests g slot =
      (le head_count h gives 11)
      ∷ (is (not (is_idle (head_at ws h))) gives 12)
      ∷ (le g.slots slot gives 5)
      ∷ []

  abbrev room_tests : Geometry → (slot : ℕ) → Room → List Refusal
  room_tests g slot r =
      (no_path (path_from g (reads im) slot f) or is (at_level31 (room_in g slot)) gives 4)
      ∷ (is (is_some (find (rule_of (reads im)) g (reads im) slot f)) gives 9)
      ∷ (in_conflict g (reads pool) ws slot r f gives 13)
      ∷ (no_run_for g (reads pool) r gives 8)
      ∷ []

  abbrev all_tests : Geometry → (slot : ℕ) → List Refusal
  all_tests g slot = head_tests g slot ++ room_tests g slot (room_in g slot)

  -- 1, 2, 3, or 4 for the table
  pub claim_early : {v : Result Geometry enums.Refusal} {why : enums.Refusal} → v ≡ first_checks im (Some (length pool)) None (Some (length script))
      → v ≡ Err why → EndsWith (number_of why)
  unfolding refusals leaves clears scratch_after
  claim_early =
      ended_early op begun borrowed (Some (length pool)) None (Some (length script))
      (all_tests (geometry_of (reads im)) (slot_of (geometry_of (reads im)) (reads im) reel)) (same_checks im _ _ _ refl)

  -- a refusal leaves everything as it was
  ends_with : (n : ℕ) → refusal (refusals op begun) ≡ n → n ≢ 0 → EndsWith n
  unfolding leaves clears scratch_after
  ends_with n e z = sym (refused op begun borrowed n e z refl)

  -- past the tests of the head and of the slot
  pub record HeadPassed (g : Geometry) (slot : ℕ) : Type 0 where
    pub checked : OpenChecked im pool script g
    pub slot_is : slot ≡ slot_of g (reads im) reel
    pub later : refusal (refusals op begun) ≡ refusal (room_tests g slot (room_in g slot))

  -- in the code's own terms: n is the number that the three came to
  module _ (heads : List Head) (read : heads_in ws ≡ heads) (g : Geometry) (p : OpenChecked im pool script g) (slot : ℕ)
      (slot_is : slot ≡ slot_of g (reads im) reel) (n : ℕ) (n-is : n ≡ refusal (head_tests_in heads h g slot)) where
    after_checks : refusal (refusals op begun) ≡ refusal (all_tests g slot)
    unfolding refusals
    after_checks =
        same_checks im _ (buffers_bad im (Some (length pool)) None (Some (length script))) _ refl
        ∙ past_checks_lem im (Some (length pool)) None (Some (length script)) p.all
        (all_tests (geometry_of (reads im)) (slot_of (geometry_of (reads im)) (reads im) reel))
        ∙ rw (slot_is, p.geometry) refl

    -- by the array of heads as by the words
    same_tests : n ≡ refusal (head_tests g slot)
    unfolding refusal
    same_tests = n-is ∙ elim (test (leb head_count h)) [
      | inl e ↦ rw e refl
      | inr e ↦ rw (state_read ws heads h read (leb-false head_count h e)) refl
    ]

    pub head_refused : n ≢ 0 → EndsWith n
    head_refused z = ends_with n (after_checks ∙ first_refused (head_tests g slot) _ (λ q. z (same_tests ∙ q)) ∙ sym same_tests) z

    pub head_passed : n ≡ 0 → HeadPassed g slot
    head_passed none = record {
      checked = p;
      slot_is = slot_is;
      later = after_checks ∙ none_refused (head_tests g slot) _ (omega arith) (sym same_tests ∙ none);
    }

  -- in the terms of the calls: the checks passed, the slot read, and the claim admitted
  pub admitted : (heads : List Head) → heads_in ws ≡ heads → {v : Result Geometry enums.Refusal} {g : Geometry} {slot : ℕ} {a : Result (Unit {0}) enums.Refusal} {u : Unit {0}}
      → v ≡ first_checks im (Some (length pool)) None (Some (length script)) → v ≡ Ok g → slot ≡ slot_of g (reads im) reel
      → admission_number a ≡ refusal (head_tests_in heads h g slot) → a ≡ Ok u → HeadPassed g slot
  admitted heads read v-is told slot_is tests none =
      head_passed heads read _ (open_checked im pool script v-is told) _ slot_is _ tests (ap admission_number none)

  module _ {g : Geometry} {slot : ℕ} (p : HeadPassed g slot) {x : Result Vacancy NoVacancy} (e : x ≡ placement_from g (reads im) slot f) where
    path_bad : holds (no_path (path_from g (reads im) slot f) or is (at_level31 (room_in g slot))) ≡ true → EndsWith 4
    path_bad t = ends_with 4 (p.later ∙ refused_here _ _ t) (omega arith)

    pub no_room : (why : NoVacancy) → x ≡ Err why → EndsWith (number_of (refusal_of why))
    no_room Malformed q = path_bad (placement_says g (reads im) slot f (Err Malformed) (sym q ∙ e))
    no_room Full q = path_bad (placement_says g (reads im) slot f (Err Full) (sym q ∙ e))
    no_room Held q =
        let s = placement_says g (reads im) slot f (Err Held) (sym q ∙ e) in
        ends_with 9 (p.later ∙ refused_later _ _ s.0 ∙ refused_here _ _ s.1) (omega arith)

    module _ (v : Vacancy) (q : x ≡ Ok v) (start : ℕ) (start_is : start ≡ cond (ltb 0 (needs v.room)) (free_run g (reads pool) (needs v.room)) 0) where
      abbrev room : Room
      room = v.room

      is_free : Ok v ≡ placement_from g (reads im) slot f
      is_free = sym q ∙ e

      vacancy_is : v ≡ vacancy (room_in g slot) (places_left g (reads im) (room_in g slot))
      vacancy_is = (placement_says g (reads im) slot f (Ok v) is_free).2

      room_is : room ≡ room_in g slot
      room_is = ap (λ x. x.room) vacancy_is

      -- 13 and 8 are left
      last_tests : refusal (refusals op begun) ≡ refusal ((in_conflict g (reads pool) ws slot room f gives 13) ∷ (no_run_for g (reads pool) room gives 8) ∷ [])
      last_tests =
          let s = placement_says g (reads im) slot f (Ok v) is_free in
          p.later ∙ refused_later _ _ s.0 ∙ refused_later _ _ s.1 ∙ rw room_is refl

      -- the run is missing exactly if the code's start is no node
      run_test : holds (no_run_for g (reads pool) room) ≡ leb g.nodes start
      run_test = elim (test (ltb 0 (needs room))) [
        | inl t ↦ let k : start ≡ free_run g (reads pool) (needs room) = rw t at start_is in rw (t, k) refl
        | inr t ↦ let k : start ≡ 0 = rw t at start_is in rw (t, k) (sym (lt-leb g.nodes 0 (some_node p.checked)))
      ]

      -- what the code leaves, by the geometry, slot, room and start that it has
      abbrev work_from : ℕ → Room → Work
      work_from from r =
          writing (claim_script g (reads im) r from f)
          (state im (mark_all pool (taken r from)) (with_head ws h (Claimed (target_in slot r from f))))

      -- nothing depends on the start where the room takes no node
      same_start : (r : Room) (from : ℕ) → ((parent d : ℕ) → r ≡ BranchOut parent d → 0 < fanout d)
          → (work_from from r ≡ work_from (cond (ltb 0 (needs r)) from 0) r) × (target_in slot r from f ≡ target_in slot r (cond (ltb 0 (needs r)) from 0) f)
      unfolding claim_script room_script
      same_start (Clear t) from some = (refl, refl)
      same_start (ScaleUp n size) from some = (refl, refl)
      same_start (BranchOut parent d) from some = rw (lt-ltb 0 (fanout d) (some parent d refl)) (refl, refl)

      -- 13 in the code's own terms
      module _ (heads : List Head) (read : heads_in ws ≡ heads) (target : Target) (target_is : target ≡ target_in slot room start f)
          (met : Bool) (met-is : met ≡ any_in (conflicts target (ltb start g.nodes)) heads) where
        told : met ≡ holds (in_conflict g (reads pool) ws slot room f)
        told =
            let same = (same_start room (free_run g (reads pool) (needs room)) (takes_nodes g (reads im) slot f is_free)).1 in
            met-is
            ∙ any_read (conflicts target (ltb start g.nodes)) ws heads read
            ∙ ap₂ (λ t u. any_head (conflicts t u) ws) (target_is ∙ ap (λ k. target_in slot room k f) start_is ∙ sym same)
            (below_test start g.nodes ∙ sym (ap not run_test))

        pub has_conflict : met ≡ true → EndsWith 13
        has_conflict t = ends_with 13 (last_tests ∙ refused_here _ _ (sym told ∙ t)) (omega arith)

        pub no_run_lem : met ≡ false → g.nodes ≤ start → EndsWith 8
        no_run_lem t l = ends_with 8 (last_tests ∙ refused_later _ _ (sym told ∙ t) ∙ refused_here _ _ (run_test ∙ le-leb g.nodes start l)) (omega arith)

        work_is : granted op begun ≡ work_from start room
        unfolding granted
        work_is =
            let all : granted op begun ≡ work_from (free_run g (reads pool) (needs room)) room = rw (room_is, p.slot_is, p.checked.geometry) refl in
            rw start_is (all ∙ (same_start room (free_run g (reads pool) (needs room)) (takes_nodes g (reads im) slot f is_free)).0)

        left_is : left_by op begun ≡ v.left
        left_is = rw (vacancy_is, p.slot_is, p.checked.geometry) refl

        pub claimed : met ≡ false → start < g.nodes → (pool' script' : List ℕ) (words : ℕ)
            → Taken g (reads im) room start (spot target.node target.place) pool pool' script script' words
            → ended_left 0 words v.left (state im pool' (with_head ws h (Claimed target))) (buffers [] script' []) ≡ ends op begun borrowed
        unfolding found clears scratch_after listed claim_script
        claimed e l pool' script' words took =
            let none = last_tests ∙ refused_later _ _ (sym told ∙ e) ∙ refused_later _ _ (run_test ∙ lt-leb g.nodes start l) ∙ passed_all [] tt in
            let t = rw target_is at took in
            rw (target_is, t.0, t.1, t.2) (sym (done op begun borrowed none ∙ rw (work_is, left_is) refl))
