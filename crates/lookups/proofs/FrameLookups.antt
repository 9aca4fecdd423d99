-- Has and Remove: a frame looked up in its reel's slot, and how each way through the code ends.
use mathlib.Core.Path.{◌≡◌, refl, sym, ◌∙◌, ap}
use mathlib.Core.Bool.{Bool, true, false, not}
use mathlib.Core.Option.{Option, none, some}
use mathlib.Core.List.{List, [], ◌∷◌}
use Prim.Native.Nat.{ℕ, ◌<◌}
use native.Mathlib.Omega.{arith}
use lib.ListN.{length}
use Rattle.tree.specs.Memory.{Memory, reads, is_some, segmented, written}
use Rattle.tree.specs.Test.{is}
use Rattle.tree.specs.declared.layout.Geometry.{Geometry}
use Rattle.tree.specs.declared.path.Spot.{Spot}
use Rattle.tree.specs.Fingerprint.{rule_of}
use Rattle.tree.specs.Slots.{slot_of}
use Rattle.tree.specs.Lookup.{path_from, find}
use Rattle.tree.specs.Subtree.{listed}
use Rattle.std.specs.Prelude.{Option as Optional, Some, None, is_some as holds, Result, Ok, Err}
use Rattle.paths.specs.declared.descent.Malformed.{Malformed}
use Rattle.paths.specs.declared.descent.Found.{Found}
use Rattle.paths.specs.Answers.{on_path, found_on, found_from}
use Rattle.paths.specs.Descent.{spot_of}
use Rattle.paths.proofs.Trails.{spot_in, find_spot}
use Rattle.book.specs.Heads.{busy}
use Rattle.book.specs.Refusals.{Refusal, refusal, ◌gives◌}
use Rattle.book.specs.State.{State, Operation, remove, query, has, scratch_after}
use Rattle.book.specs.Checks.{no_path, refusals}
use Rattle.book.specs.Perform.{remove_script, found_spot, one_if, nodes_on, granted, leaves, clears}
use Rattle.book.proofs.Refusals.{passed_all, refused_here, refused_later}
use Rattle.book.proofs.Inside.{find_inside}
use Rattle.operations.specs.Ends.{Buffers, buffers, no_buffers, ended_path, ended, found, ends}
use Rattle.operations.proofs.ScriptWords.{words_of}
use Rattle.operations.proofs.Endings.{no_script}
use Rattle.operations.proofs.Passed.{Checked, same_checks}
use Rattle.operations.proofs.Tested.{OnReel, SlotRead, rest_bad, rest_done}

-- ---- what the lookup answers, in the terms of the tests

abbrev pub is_malformed : Result Found Malformed → Bool
is_malformed (Err e) = true
is_malformed (Ok a) = false

abbrev nodes_in : Result Found Malformed → ℕ
nodes_in (Err e) = 0
nodes_in (Ok a) = a.nodes

-- x is what the lookup answered, and y what the code took it for
module _ (g : Geometry) (m : Memory) (s f : ℕ) {x : Result Found Malformed} (e : x ≡ found_from g m s f) {y : Result Found Malformed} (q : x ≡ y) where
  -- 4
  path_test : not (is_some (path_from g m s f)) ≡ is_malformed y
  unfolding found_from
  path_test = rw (sym q ∙ e) (on (path_from g m s f))
    where
      on : (o : Option (List ℕ)) → not (is_some o) ≡ is_malformed (on_path (Err (record {})) (found_on g m f) o)
      on none = refl
      on (some ns) = refl

  path_length : nodes_on (path_from g m s f) ≡ nodes_in y
  unfolding found_from
  path_length = rw (sym q ∙ e) (on (path_from g m s f))
    where
      on : (o : Option (List ℕ)) → nodes_on o ≡ nodes_in (on_path (Err (record {})) (found_on g m f) o)
      on none = refl
      on (some ns) = refl

  found_spot_lem : find (rule_of m) g m s f ≡ spot_in y
  found_spot_lem = rw (sym q ∙ e) (find_spot g m s f)

-- whether it found one, of the code's place or the model's
held : (z : Optional Spot) → holds z ≡ is_some (spot_of z)
held None = refl
held (Some t) = refl

-- a place that it found is inside
pub found_inside : (g : Geometry) (m : Memory) (s f : ℕ) {x : Result Found Malformed} → x ≡ found_from g m s f
    → {a : Found} {t : Spot} → x ≡ Ok a → a.found ≡ Some t
    → (t.node < g.nodes) × (t.place < 64)
found_inside g m s f e q w =
    let there = rw w at (found_spot_lem g m s f e q) in
    let p = find_inside g m (rule_of m) s f (rw there refl) in
    (rw there at p.node, rw there at p.place)

-- the reel's slot is there, and x is what the lookup from it answered
pub record Looked (im : List ℕ) (script : Option (List ℕ)) (reel f : ℕ) (g : Geometry) (slot : ℕ) (x : Result Found Malformed) : Type 0 where
  pub slot_read : SlotRead im none none script reel g slot
  pub present : slot < g.slots
  pub answer : x ≡ found_from g (reads im) slot f

pub look : {im : List ℕ} {script : Option (List ℕ)} {reel f : ℕ} {g : Geometry} {slot : ℕ} {x : Result Found Malformed} → Checked im none none script g
    → slot ≡ slot_of g (reads im) reel → slot < g.slots → x ≡ found_from g (reads im) slot f → Looked im script reel f g slot x
look c s l e = record { slot_read = record { checked = c; slot_is = s }; present = l; answer = e }

-- ---- Has

module _ (s : State) (reel f : ℕ) where
  -- 4
  abbrev has_rest : Geometry → (slot : ℕ) → List Refusal
  has_rest g slot = (no_path (path_from g (reads s.image) slot f) gives 4) ∷ []

  pub on_has : OnReel (query (has reel f)) s none none none false reel has_rest
  unfolding refusals leaves clears
  on_has = record { tested = record { tests = same_checks s.image _ _ _ refl; leaves_all = λ n. refl; clears_past = λ n. refl } }

  module _ {g : Geometry} {slot : ℕ} {x : Result Found Malformed} (p : Looked s.image none reel f g slot x) where
    pub has_malformed : {e : Malformed} → x ≡ Err e → ended 4 0 s no_buffers ≡ ends (query (has reel f)) s no_buffers
    has_malformed q =
        rest_bad on_has no_buffers p.slot_read p.present 4 (refused_here _ _ (path_test g (reads s.image) slot f p.answer q)) (omega arith)

    pub has_said : {a : Found} → x ≡ Ok a
        → ended_path 0 (one_if (holds a.found)) a.nodes s no_buffers ≡ ends (query (has reel f)) s no_buffers
    unfolding granted listed scratch_after
    has_said {a = a} q =
        let m = reads s.image in
        let none = refused_later _ _ (path_test g m slot f p.answer q) ∙ passed_all [] tt in
        let read = p.slot_read in
        rw (held a.found, ← found_spot_lem g m slot f p.answer q, ← path_length g m slot f p.answer q, read.slot_is, read.checked.geometry)
        (sym (rest_done on_has no_buffers p.slot_read p.present none ∙ no_script (query (has reel f)) _ no_buffers refl))

-- ---- Remove

module _ (s : State) (script : List ℕ) (reel f : ℕ) where
  abbrev op : Operation
  op = remove (length script) reel f

  abbrev borrowed : Buffers
  borrowed = buffers [] script []

  -- 4 and 10
  abbrev frame_tests : Geometry → (slot : ℕ) → List Refusal
  frame_tests g slot =
      let m = reads s.image in
      (no_path (path_from g m slot f) gives 4) ∷ (is (not (is_some (find (rule_of m) g m slot f))) gives 10) ∷ []

  pub on_remove : OnReel op s none none (some script) false reel (λ g slot. (is (busy s.heads slot) gives 13) ∷ frame_tests g slot)
  unfolding refusals leaves clears
  on_remove = record { tested = record { tests = same_checks s.image _ _ _ refl; leaves_all = λ n. refl; clears_past = λ n. refl } }

  module _ {g : Geometry} {slot : ℕ} where
    pub remove_busy : SlotRead s.image none none (some script) reel g slot → slot < g.slots → busy s.heads slot ≡ true
        → ended 13 0 s borrowed ≡ ends op s borrowed
    remove_busy p l q = rest_bad on_remove borrowed p l 13 (refused_here _ _ q) (omega arith)

    module _ (idle : busy s.heads slot ≡ false) {x : Result Found Malformed} (p : Looked s.image (some script) reel f g slot x) where
      past_busy : refusal ((is (busy s.heads slot) gives 13) ∷ frame_tests g slot) ≡ refusal (frame_tests g slot)
      past_busy = refused_later _ _ idle

      pub remove_malformed : {e : Malformed} → x ≡ Err e → ended 4 0 s borrowed ≡ ends op s borrowed
      remove_malformed q =
          rest_bad on_remove borrowed p.slot_read p.present 4
          (past_busy ∙ refused_here _ _ (path_test g (reads s.image) slot f p.answer q)) (omega arith)

      -- 10, by what the code took x for
      past_path : {a : Found} {z : Optional Spot} → x ≡ Ok a → a.found ≡ z
          → refusal ((is (busy s.heads slot) gives 13) ∷ frame_tests g slot)
          ≡ refusal ((is (not (is_some (spot_of z))) gives 10) ∷ [])
      past_path q w =
          past_busy
          ∙ refused_later _ _ (path_test g (reads s.image) slot f p.answer q)
          ∙ rw (found_spot_lem g (reads s.image) slot f p.answer q, w) refl

      pub remove_absent : {a : Found} → x ≡ Ok a → a.found ≡ None → ended 10 0 s borrowed ≡ ends op s borrowed
      remove_absent q w =
          rest_bad on_remove borrowed p.slot_read p.present 10 (past_path q w ∙ refused_here _ _ refl) (omega arith)

      pub removed : {a : Found} {t : Spot} → x ≡ Ok a → a.found ≡ Some t
          → (words : List ℕ) → words ≡ written (segmented (remove_script g (reads s.image) t)) script
          → ended 0 8 s (buffers [] words []) ≡ ends op s borrowed
      unfolding found granted remove_script listed scratch_after
      removed {t = t} q z words w =
          let there : t ≡ found_spot (find (rule_of (reads s.image)) g (reads s.image) slot f) =
          sym (ap found_spot (rw z at (found_spot_lem g (reads s.image) slot f p.answer q))) in
          ap (λ k. ended 0 k s (buffers [] words [])) (words_of (remove_script g (reads s.image) t))
          ∙ rw (w, there, p.slot_read.slot_is, p.slot_read.checked.geometry)
          (sym (rest_done on_remove borrowed p.slot_read p.present (past_path q z ∙ passed_all _ (refl, tt))))
