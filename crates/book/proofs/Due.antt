-- The refusal that is due is the answer: test by test, what the book computes and what the paper says.
use mathlib.Core.Path.{◌≡◌, refl}
use mathlib.Core.Bool.{true, false, not}
use mathlib.Core.Logic.{inl, inr, ◌↔◌}
use mathlib.Core.List.{List, [], ◌∷◌}
use Prim.Native.Nat.{ℕ}
use native.Mathlib.Omega.{arith}
use lib.ListN.{length}
use Rattle.tree.specs.Memory.{reads}
use Rattle.tree.specs.Test.{Test, le, ne, is, ◌or◌, holds, Says}
use Rattle.tree.specs.declared.layout.Geometry.{Geometry}
use Rattle.tree.specs.Layout.{bad_image, bad_edition}
use Rattle.tree.specs.Fingerprint.{bad_own}
use Rattle.tree.specs.Slots.{slot_of}
use Rattle.tree.specs.Lookup.{free_run}
use Rattle.tree.specs.Check.{is_sound_tree}
use Rattle.tree.proofs.Cases.{test, true_not_false}
use Rattle.tree.proofs.Laws.{table_laws}
use Rattle.book.specs.Heads.{head_count, busy}
use Rattle.book.specs.Refusals.{Refusal, ◌gives◌, refusal}
use Rattle.book.specs.State.{State, Operation, format, recover, open_reel, claim, fill, commit, abandon, remove, retire, tidy, query, has, list, convert, memory, shape}
use Rattle.book.specs.Checks.{bad_map, bad_script, first_three, refusals}
use Rattle.book.specs.Ways.{ReelAt}
use Rattle.tree.specs.Groups.{NoGroup}
use Rattle.book.specs.Due.{Due, ◌when◌, First, here, later, none, header, checked, Busy, OfReel, NoReel, BadTree, due, RefusalsDue}
use Rattle.book.proofs.Refusals.{decided}
use Rattle.book.proofs.Performed.{answer_is}
use Rattle.book.proofs.DueWords.{plain, turned, either, unsound_test, own_test, given_test, image_test, idle_test, claimed_test, filled_test, outside_test, busy_test, open_test, absent_test, present, of_reel, full_test, run_says}
use Rattle.book.proofs.DuePaths.{path_test, path_there, room_test, find_test, conflict_test, children_test}
use Rattle.book.proofs.DueTrees.{tree_test, tree_sound, group_test, frames_test}

-- ---- a list of tests and a list of conditions

-- each test decides its condition, where no earlier one holds; a test that never holds is passed over
data Decides : List Refusal → List Due → Type 1 where
  end : Decides [] []
  next : {t : Test} {P : Type 0} {n : ℕ} {rs : List Refusal} {ds : List Due} → (holds t ≡ true) ↔ P → ((P → ⊥) → Decides rs ds)
      → Decides ((t gives n) ∷ rs) ((n when P) ∷ ds)
  skip : {t : Test} {n : ℕ} {rs : List Refusal} {ds : List Due} → holds t ≡ false → Decides rs ds → Decides ((t gives n) ∷ rs) ds

first_due : {rs : List Refusal} {ds : List Due} → Decides rs ds → First ds (refusal rs)
unfolding refusal
first_due end = none
first_due (next {t} {P} {n} {rs} {ds} i d) = elim (test (holds t)) [
  | inl e ↦ rw e (here (i.0 e))
  | inr e ↦ let past : P → ⊥ = λ p. true_not_false (i.1 p) e in rw e (later past (first_due (d past)))
]
first_due (skip {t} {n} {rs} {ds} e d) = rw e (first_due d)

-- ---- the operations

module _ (s : State) where
  -- 1 and 2
  checks : {rs : List Refusal} {ds : List Due} → Decides rs ds
      → Decides ((bad_image (length s.image) (shape s) gives 1) ∷ (bad_edition (memory s) gives 2) ∷ rs) (header s ds)
  checks d = next (image_test (length s.image) (shape s)) (λ a. next (plain (bad_edition (memory s))) (λ b. d))

  -- 3, and just after it 4 for a bad table
  after_3 : {t : Test} {rs : List Refusal} {ds : List Due} → Decides rs ds
      → Decides (first_three s.image t ((bad_own (memory s) gives 4) ∷ rs)) (checked s (Says t) ds)
  after_3 {t} d = checks (next (plain t) (λ a. next (table_laws.bad (memory s)) (λ b. d)))

  -- 5, and after it the reel's slot
  reel_there : {rs : List Refusal} {ds : List Due} (reel : ℕ) → (ReelAt (shape s) (memory s) reel (slot_of (shape s) (memory s) reel) → Decides rs ds)
      → Decides ((le (shape s).slots (slot_of (shape s) (memory s) reel) gives 5) ∷ rs) ((5 when NoReel s reel) ∷ ds)
  reel_there reel d = next (absent_test s reel) (λ a. d (present s reel a))

  -- 13
  busy_of : {reel slot : ℕ} → ReelAt (shape s) (memory s) reel slot → (holds (is (busy s.heads slot)) ≡ true) ↔ OfReel s reel (Busy s)
  busy_of {reel} {slot} r = of_reel s reel (Busy s) r (busy_test s slot)

  -- 4 in List, Retire and Tidy
  tree_of : {reel slot : ℕ} → ReelAt (shape s) (memory s) reel slot → (holds (is (not (is_sound_tree (shape s) (memory s) slot))) ≡ true) ↔ OfReel s reel (BadTree s)
  tree_of {reel} r = of_reel s reel (BadTree s) r (tree_test s r.has.open_slot)

  -- what is not so of a reel is not so of its slot
  past_reel : {reel slot : ℕ} {P : ℕ → Type 0} → ReelAt (shape s) (memory s) reel slot → (OfReel s reel P → ⊥) → P slot → ⊥
  past_reel {slot = slot} r past x = past (record { slot = slot; is = r; so = x })

  decides : (op : Operation) → Decides (refusals op s) (due op s)
  unfolding refusals due
  decides (format map table slots nodes) =
      let g : Geometry = record { slots = slots; nodes = nodes } in
      next (image_test (length s.image) g) (λ a. next (plain (bad_map g map)) (λ b. next (given_test table) (λ c. end)))
  decides (recover map) =
      checks (next (plain (bad_map (shape s) map)) (λ a.
      next (unsound_test (memory s)) (λ b. end)))
  decides (open_reel map script reel) =
      after_3 {t = bad_map (shape s) map or bad_script script} (
      next (open_test s reel) (λ b.
      next (full_test s) (λ c.
      next (decided (le (shape s).nodes (free_run (shape s) (reads s.pool) 1)) (run_says s 1 (omega arith))) (λ d. end))))
  decides (claim map script h reel f) =
      after_3 {t = bad_map (shape s) map or bad_script script} (
      next (plain (le head_count h)) (λ b.
      next (turned (idle_test s h)) (λ c.
      reel_there reel (λ r.
      let o = r.has.open_slot in
      next (of_reel s reel _ r (room_test s f o)) (λ d.
      let bad = past_reel r d in
      let p = path_there s f o (λ x. bad (inl x)) in
      next (of_reel s reel _ r (find_test s f o p.0 p.1)) (λ e.
      next (of_reel s reel _ r (conflict_test s f o p.0 p.1 (λ x. bad (inr x)))) (λ k.
      next (of_reel s reel _ r (children_test s f o p.0 p.1 (λ x. bad (inr x)))) (λ l. end))))))))
  decides (fill script h) =
      after_3 {t = bad_script script} (
      next (plain (le head_count h)) (λ b.
      next (turned (claimed_test s h)) (λ c.
      next (outside_test s h (λ i. c i.0)) (λ d. end))))
  decides (commit script h) =
      after_3 {t = bad_script script} (
      next (plain (le head_count h)) (λ b.
      next (turned (filled_test s h)) (λ c.
      next (outside_test s h (λ i. c i.1)) (λ d. end))))
  decides (abandon script h) =
      after_3 {t = bad_script script} (
      next (plain (le head_count h)) (λ b.
      next (idle_test s h) (λ c.
      next (outside_test s h c) (λ d. end))))
  decides (remove script reel f) =
      after_3 {t = bad_script script} (
      reel_there reel (λ r.
      next (busy_of r) (λ b.
      let o = r.has.open_slot in
      next (of_reel s reel _ r (path_test s f o)) (λ c.
      let p = path_there s f o (past_reel r c) in
      next (of_reel s reel _ r (turned (find_test s f o p.0 p.1))) (λ d. end)))))
  decides (retire map scratch script reel) =
      after_3 {t = bad_map (shape s) map or bad_map (shape s) scratch or bad_script script} (
      reel_there reel (λ r.
      next (busy_of r) (λ b.
      next (tree_of r) (λ c. end))))
  decides (tidy map scratch script reel) =
      after_3 {t = bad_map (shape s) map or bad_map (shape s) scratch or bad_script script} (
      reel_there reel (λ r.
      next (busy_of r) (λ b.
      next (tree_of r) (λ c.
      next (of_reel s reel (NoGroup (shape s) (memory s)) r (group_test s r.has.open_slot)) (λ d. end)))))
  decides (query (has reel f)) =
      checks (skip refl (next (table_laws.bad (memory s)) (λ a. reel_there reel (λ r.
      next (of_reel s reel _ r (path_test s f r.has.open_slot)) (λ b. end)))))
  decides (query (list scratch room reel)) =
      after_3 {t = bad_map (shape s) scratch} (
      reel_there reel (λ r.
      next (tree_of r) (λ b.
      let o = r.has.open_slot in
      next (of_reel s reel _ r (frames_test s o room (tree_sound s o (past_reel r b)))) (λ c. end))))
  decides (query (convert scratch copy)) =
      next (either (image_test (length s.image) (shape s)) (plain (ne copy (length s.image)))) (λ a.
      next (plain (bad_edition (memory s))) (λ b.
      next (plain (bad_map (shape s) scratch)) (λ c.
      next (unsound_test (memory s)) (λ d.
      next (own_test (memory s)) (λ e. end)))))

pub refusals_due : RefusalsDue
refusals_due op s = rw (answer_is op s) (first_due (decides s op))
