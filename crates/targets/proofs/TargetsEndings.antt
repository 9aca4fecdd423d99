-- Fill, Commit and Abandon: their tests and their work in one form, and how each way through the code ends.
use mathlib.Core.Path.{◌≡◌, refl, sym, ◌∙◌}
use mathlib.Core.Bool.{Bool, true, false, cond, not}
use mathlib.Core.Logic.{inl, inr}
use mathlib.Core.Option.{none, some}
use mathlib.Core.List.{List, [], ◌∷◌}
use Prim.Native.Nat.{ℕ, ◌*◌, ◌≤◌, ◌<◌}
use native.Mathlib.Omega.{arith}
use lib.ListN.{length}
use lib.Dec.{leb}
use Rattle.std.specs.Prelude.{Option, None, Some, Result, Ok, Err}
use borrow.Author.Tests.{le-leb, lt-leb, leb-true, leb-false}
use Rattle.tree.specs.Memory.{Store, segmented, written, Memory, reads}
use Rattle.tree.specs.Test.{le, is, holds}
use Rattle.tree.specs.declared.layout.Geometry.{Geometry}
use Rattle.tree.specs.Layout.{Sized, geometry_of, set_at, locate_at}
use Rattle.tree.specs.Fingerprint.{Rule, rule_of}
use Rattle.tree.proofs.Cases.{test}
use Rattle.tree.specs.Subtree.{listed}
use Rattle.book.specs.declared.Target.{Target}
use Rattle.book.specs.declared.HeadState.{HeadState}
use Rattle.book.specs.declared.HeadState.TheVariants.{Idle, Filled}
use Rattle.book.specs.Heads.{head_count, head_at, is_idle, is_claimed, is_filled, target_of}
use Rattle.book.specs.Refusals.{Refusal, refusal, ◌gives◌}
use Rattle.book.specs.State.{State, Operation, fill, commit, abandon, Work, scratch_after}
use Rattle.book.specs.Checks.{outside, refusals}
use Rattle.book.specs.Perform.{fill_script, bit_on, bit_off, writing, put_head, granted, leaves, clears, left_by}
use Rattle.book.proofs.Refusals.{denies, passed_all, refused_here, refused_later}
use Rattle.operations.specs.declared.answer.Refusal as enums
use Rattle.operations.specs.declared.answer.Refusal.TheVariants as enum
use Rattle.operations.specs.Answers.{number_of}
use Rattle.operations.specs.HeadLists.{heads_in, state_in}
use Rattle.operations.specs.Ends.{Buffers, buffers, ended, count_in, found, ends}
use Rattle.operations.proofs.HeadRecords.{state_read}
use Rattle.operations.proofs.ScriptWords.{words_of}
use Rattle.operations.proofs.Passed.{Checked, all_checked, checks_on, same_checks}
use Rattle.operations.proofs.Tested.{Tested, check_bad, refused_past, done_past}
use Rattle.targets.specs.declared.Aim.{Aim}
use Rattle.targets.specs.Aimed.{aimed_past, aimed}

-- the tests that come after the first three: head h's number, its state, where its target is
abbrev later : (h : ℕ) (wrong : Bool) (t : Target) → Geometry → List Refusal
later h wrong t g = (le head_count h gives 11) ∷ (is wrong gives 12) ∷ (outside g t gives 4) ∷ []

-- an operation on the target t of head h: `wrong` says that the head's state is not the one it wants; it writes a script and leaves
-- the head in state x
pub record OnTarget (op : Operation) (s : State) (script : List ℕ) (h : ℕ) (wrong : Bool) (t : Target) (segs : Geometry → List (List Store)) (x : HeadState)
    : Type 0 where
  pub tested : Tested op s none none (some script) false (later h wrong t)
  pub work : granted op s ≡ writing (segs (geometry_of (reads s.image))) (put_head s h x)
  pub hands : (w : Work) → count_in op w ≡ 2 * length (segmented w.script)
  pub none_left : left_by op s ≡ 0

-- the scripts, by the geometry
abbrev pub fill_segs : Memory → Target → Geometry → List (List Store)
fill_segs m t g = fill_script (rule_of m) g m t

abbrev pub commit_segs : Memory → Target → Geometry → List (List Store)
commit_segs m t g = bit_on m (set_at g t.node) t.place ∷ []

abbrev pub abandon_segs : Memory → Target → Geometry → List (List Store)
abandon_segs m t g = bit_off m (locate_at g t.node) t.place ∷ []

module _ (s : State) (script : List ℕ) (h : ℕ) (y : HeadState) (read : head_at s.heads h ≡ y) where
  pub on_fill : OnTarget (fill (length script) h) s script h (not (is_claimed y)) (target_of y) (fill_segs (reads s.image) (target_of y)) (Filled (target_of y))
  unfolding refusals granted leaves clears
  on_fill = rw (← read) (record {
    tested = record { tests = same_checks s.image _ _ _ refl; leaves_all = λ n. refl; clears_past = λ n. refl };
    work = refl;
    hands = λ w. refl;
    none_left = refl;
  })

  pub on_commit : OnTarget (commit (length script) h) s script h (not (is_filled y)) (target_of y) (commit_segs (reads s.image) (target_of y)) Idle
  unfolding refusals granted leaves clears
  on_commit = rw (← read) (record {
    tested = record { tests = same_checks s.image _ _ _ refl; leaves_all = λ n. refl; clears_past = λ n. refl };
    work = refl;
    hands = λ w. refl;
    none_left = refl;
  })

  pub on_abandon : OnTarget (abandon (length script) h) s script h (is_idle y) (target_of y) (abandon_segs (reads s.image) (target_of y)) Idle
  unfolding refusals granted leaves clears
  on_abandon = rw (← read) (record {
    tested = record { tests = same_checks s.image _ _ _ refl; leaves_all = λ n. refl; clears_past = λ n. refl };
    work = refl;
    hands = λ w. refl;
    none_left = refl;
  })

-- ---- the ways through the code

module _ {op : Operation} {s : State} {script : List ℕ} {h : ℕ} {wrong : Bool} {t : Target} {segs : Geometry → List (List Store)} {x : HeadState}
    (o : OnTarget op s script h wrong t segs x) where
  abbrev borrowed : Buffers
  borrowed = buffers [] script []

  module _ {g : Geometry} (p : Checked s.image none none (some script) g) where
    pub number_bad : head_count ≤ h → ended 11 0 s borrowed ≡ ends op s borrowed
    number_bad l = refused_past o.tested borrowed p 11 (refused_here _ _ (le-leb head_count h l)) (omega arith)

    module _ (l : h < head_count) where
      past_number : refusal (later h wrong t g) ≡ refusal ((is wrong gives 12) ∷ (outside g t gives 4) ∷ [])
      past_number = refused_later _ _ (lt-leb head_count h l)

      pub state_bad : wrong ≡ true → ended 12 0 s borrowed ≡ ends op s borrowed
      state_bad w = refused_past o.tested borrowed p 12 (past_number ∙ refused_here _ _ w) (omega arith)

      pub target_bad : wrong ≡ false → holds (outside g t) ≡ true → ended 4 0 s borrowed ≡ ends op s borrowed
      target_bad w q = refused_past o.tested borrowed p 4 (past_number ∙ refused_later _ _ w ∙ refused_here _ _ q) (omega arith)

      pub all_done : (n : ℕ) (words : List ℕ) → wrong ≡ false → holds (outside g t) ≡ false
          → n ≡ 2 * length (segmented (segs g)) → words ≡ written (segmented (segs g)) script
          → ended 0 n (put_head s h x) (buffers [] words []) ≡ ends op s borrowed
      unfolding found scratch_after listed
      all_done n words w q c e =
          let none = past_number ∙ refused_later _ _ w ∙ refused_later _ _ q ∙ passed_all [] tt in
          rw (c, e, p.geometry) (sym (done_past o.tested borrowed p none ∙ rw (o.work, o.hands, o.none_left) refl))

-- ---- the beginning

-- the target that is wanted, where the head has it
abbrev pub wanted : Bool → Target → Option Target
wanted wrong t = cond wrong None (Some t)

pub wanted_where : (right : Bool) (t : Target) → cond right (Some t) None ≡ wanted (not right) t
wanted_where true t = refl
wanted_where false t = refl

-- an aim: the checks are passed, the head is one of the four, and its target is inside
pub record AimedAt (im script : List ℕ) (h : ℕ) (wrong : Bool) (t : Target) (a : Aim) : Type 0 where
  pub checked : Checked im none none (some script) a.g
  pub numbered : h < head_count
  pub right : wrong ≡ false
  pub target : a.t ≡ t
  pub inside : holds (outside a.g a.t) ≡ false

module _ (im script : List ℕ) (h : ℕ) (wrong : Bool) (t : Target) where
  aimed_from : {a : Aim} (v : Result Geometry enums.Refusal) → v ≡ checks_on im none none (some script)
      → ◌≡◌ {A = Result Aim enums.Refusal} (Ok a) (aimed_past h (wanted wrong t) v) → AimedAt im script h wrong t a
  aimed_from (Err why) q e = cc
  aimed_from {a} (Ok g) q e = elim (test (leb head_count h)) [
    | inl b ↦ let z = rw b at e in cc
    | inr b ↦ elim (test wrong) [
      | inl w ↦ let z = rw (b, w) at e in cc
      | inr w ↦ elim (test (holds (outside g t))) [
        | inl o ↦ let z = rw (b, w, o) at e in cc
        | inr o ↦
            let z : a ≡ record { g = g; t = t } = let e' = rw (b, w, o) at e in cc in
            rw z (record { checked = all_checked im none none (some script) q refl; numbered = leb-false head_count h b; right = w; target = refl; inside = o })
      ]
    ]
  ]

  pub aimed_at : {a : Aim} {r : Result Aim enums.Refusal} {w : Option Target} → r ≡ aimed im (length script) h w → w ≡ wanted wrong t → r ≡ Ok a
      → AimedAt im script h wrong t a
  unfolding aimed
  aimed_at q same told = aimed_from _ refl (sym told ∙ q ∙ rw same refl)

-- what the writers of the scripts ask
pub writer_asks : {im script : List ℕ} {h : ℕ} {wrong : Bool} {t : Target} {a : Aim} → AimedAt im script h wrong t a → (n : ℕ) → n ≤ 50
    → Sized im a.g × (a.t.node < a.g.nodes) × (a.t.place < 64) × (n ≤ length script)
writer_asks {a = a} p n few =
    let d = denies (outside a.g a.t) p.inside in
    (p.checked.sized, d.0, d.1, omega (arith, p.checked.script_words))

-- an operation on head h, whatever its state is in the driver's words; y is the state that the code is given
module _ {op : Operation} {s : State} {script : List ℕ} {h : ℕ} {wrong : HeadState → Bool} {segs : HeadState → Geometry → List (List Store)}
    {x : HeadState → HeadState}
    (o : (y : HeadState) → head_at s.heads h ≡ y → OnTarget op s script h (wrong y) (target_of y) (segs y) (x y))
    (y : HeadState) (given : state_in (heads_in s.heads) h ≡ y) where
  at_head : h < head_count → OnTarget op s script h (wrong y) (target_of y) (segs y) (x y)
  at_head l = o y (sym (state_read s.heads (heads_in s.heads) h refl l) ∙ given)

  refused_from : {why : enums.Refusal} (v : Result Geometry enums.Refusal) → v ≡ checks_on s.image none none (some script)
      → ◌≡◌ {A = Result Aim enums.Refusal} (Err why) (aimed_past h (wanted (wrong y) (target_of y)) v)
      → ended (number_of why) 0 s (buffers [] script []) ≡ ends op s (buffers [] script [])
  refused_from {why} (Err why') q e =
      let z : why ≡ why' = cc in
      rw z (check_bad (o _ refl).tested (buffers [] script []) q refl)
  refused_from {why} (Ok g) q e =
      let p = all_checked s.image none none (some script) q refl in
      elim (test (leb head_count h)) [
        | inl b ↦
            let z : why ≡ enum.HeadNumber = let e' = rw b at e in cc in
            rw z (number_bad (o _ refl) p (leb-true head_count h b))
        | inr b ↦
            let l = leb-false head_count h b in
            elim (test (wrong y)) [
              | inl w ↦
                  let z : why ≡ enum.HeadState = let e' = rw (b, w) at e in cc in
                  rw z (state_bad (at_head l) p l w)
              | inr w ↦ elim (test (holds (outside g (target_of y)))) [
                | inl out ↦
                    let z : why ≡ enum.Malformed = let e' = rw (b, w, out) at e in cc in
                    rw z (target_bad (at_head l) p l w out)
                | inr out ↦ let z = rw (b, w, out) at e in cc
              ]
            ]
      ]

  -- the code ends there
  pub aim_bad : {why : enums.Refusal} {r : Result Aim enums.Refusal} {w : Option Target} → r ≡ aimed s.image (length script) h w
      → w ≡ wanted (wrong y) (target_of y) → r ≡ Err why → ended (number_of why) 0 s (buffers [] script []) ≡ ends op s (buffers [] script [])
  unfolding aimed
  aim_bad q same told = refused_from _ refl (sym told ∙ q ∙ rw same refl)

  -- or writes its script
  pub aim_done : {a : Aim} (p : AimedAt s.image script h (wrong y) (target_of y) a) (n : ℕ) (words : List ℕ)
      → n ≡ 2 * length (segmented (segs y a.g)) → words ≡ written (segmented (segs y a.g)) script
      → ended 0 n (put_head s h (x y)) (buffers [] words []) ≡ ends op s (buffers [] script [])
  aim_done p n words = all_done (at_head p.numbered) p.checked p.numbered n words p.right (rw p.target at p.inside)

-- how many words the scripts have
pub fill_words : (r : Rule) (g : Geometry) (m : Memory) (t : Target) → 8 ≡ 2 * length (segmented (fill_script r g m t))
unfolding fill_script
fill_words r g m t = words_of (fill_script r g m t)

pub bit_words : (a : Store) → 4 ≡ 2 * length (segmented ((a ∷ []) ∷ []))
bit_words a = words_of ((a ∷ []) ∷ [])
