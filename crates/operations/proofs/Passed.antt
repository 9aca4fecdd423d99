-- The checks that come first, passed or not: 1, 2, 3 and 4 for the table, as every operation but Format makes them.
use mathlib.Core.Path.{◌≡◌, refl, sym, ◌∙◌, ap}
use mathlib.Core.Bool.{false}
use mathlib.Core.Logic.{inl, inr, ◌≢◌}
use mathlib.Core.Option.{Option, none, some}
use Rattle.std.specs.Prelude as std
use Rattle.std.specs.Prelude.{Result, Ok, Err, Some, None}
use mathlib.Core.List.{List, ◌∷◌}
use Prim.Native.Nat.{ℕ, ◌≤◌}
use native.Mathlib.Omega.{arith}
use native.Mathlib.Decide.{ℕ_discrete}
use lib.ListN.{length}
use lib.Dec.{eqb}
use borrow.Author.Tests.{ne_eqb, le-ltb}
use Rattle.tree.specs.Memory.{reads}
use Rattle.tree.specs.Test.{Test, ◌or◌, holds}
use Rattle.tree.specs.declared.layout.Geometry.{Geometry}
use Rattle.tree.specs.Layout.{Sized, bad_image, geometry_of, bad_edition}
use Rattle.tree.specs.Fingerprint.{bad_own}
use Rattle.tree.proofs.Cases.{test}
use Rattle.book.specs.Refusals.{Refusal, ◌gives◌, refusal}
use Rattle.book.specs.State.{State, Operation, scratch_after}
use Rattle.book.specs.Checks.{first_three, checked, refusals}
use Rattle.book.specs.Perform.{leaves, past_checks, clears}
use Rattle.book.proofs.Refusals.{Denies, denies}
use Rattle.book.proofs.Inside.{sized}
use Rattle.operations.specs.declared.answer.Refusal as enums
use Rattle.operations.specs.declared.answer.Refusal.TheVariants as enum
use Rattle.operations.specs.Answers.{number_of}
use Rattle.operations.specs.Checked.{map_bad, script_bad, first_checks}
use Rattle.operations.specs.Ends.{Buffers, all_buffers, ended, ends}
use Rattle.operations.proofs.Endings.{refused_any}

-- what the checks come to: the geometry of an image that passes, or why it is refused
abbrev Verdict : Type 0
Verdict = Result Geometry enums.Refusal

passed_refused : {X : Type 0} {g : Geometry} {why : enums.Refusal} → ◌≡◌ {A = Verdict} (Ok g) (Err why) → X
passed_refused q = cc

passed_same : {g g' : Geometry} → ◌≡◌ {A = Verdict} (Ok g) (Ok g') → g ≡ g'
passed_same q = cc

refused_same : {why why' : enums.Refusal} → ◌≡◌ {A = Verdict} (Err why) (Err why') → why ≡ why'
refused_same q = cc

-- every refusal has a number of its own
pub number_some : (why : enums.Refusal) → number_of why ≢ 0
number_some enum.Image = omega arith
number_some enum.Edition = omega arith
number_some enum.Buffer = omega arith
number_some enum.Malformed = omega arith
number_some enum.NoReel = omega arith
number_some enum.AlreadyOpen = omega arith
number_some enum.NoSlot = omega arith
number_some enum.NoRun = omega arith
number_some enum.FrameHeld = omega arith
number_some enum.FrameNotHeld = omega arith
number_some enum.HeadNumber = omega arith
number_some enum.HeadState = omega arith
number_some enum.Busy = omega arith
number_some enum.ListShort = omega arith
number_some enum.GivenTable = omega arith
number_some enum.OwnTable = omega arith
number_some enum.NoGroup = omega arith

-- the checks go by what a test computes
pub same_checks : (image : List ℕ) (bad bad' : Test) (rest : List Refusal) → holds bad ≡ holds bad'
    → refusal (checked image bad rest) ≡ refusal (checked image bad' rest)
unfolding refusal
same_checks image bad bad' rest e = rw e refl

-- an image that passed 1 has its geometry's length
pub sized_image : (image : List ℕ) (g : Geometry) → holds (bad_image (length image) g) ≡ false → Sized image g
sized_image image g h =
    let s = sized (length image) g (denies (bad_image (length image) g) h) in
    record { words = s.length; slots_limit = s.slots; nodes_limit = s.nodes }

abbrev shape_of : List ℕ → Geometry
shape_of image = geometry_of (reads image)

module _ (image : List ℕ) (map scratch script : std.Option ℕ) where
  -- 3, for all three buffers
  abbrev pub buffers_bad : Test
  buffers_bad = map_bad (shape_of image) map or map_bad (shape_of image) scratch or script_bad script

  -- what the verdict says of an operation's tests, which begin with the four
  pub record PassedAll (g : Geometry) : Type 0 where
    pub geometry : g ≡ shape_of image
    pub image_fine : holds (bad_image (length image) (shape_of image)) ≡ false
    pub edition_fine : holds (bad_edition (reads image)) ≡ false
    pub buffers_fine : holds buffers_bad ≡ false
    pub table_fine : holds (bad_own (reads image)) ≡ false

  pub passed : {g : Geometry} → Ok g ≡ first_checks image map scratch script → PassedAll g
  unfolding first_checks
  passed {g} q = elim (test (holds (bad_image (length image) (shape_of image)))) [
    | inl a ↦ passed_refused (rw a at q)
    | inr a ↦ elim (test (holds (bad_edition (reads image)))) [
      | inl b ↦ passed_refused (rw (a, b) at q)
      | inr b ↦ elim (test (holds buffers_bad)) [
        | inl c ↦ passed_refused (rw (a, b, c) at q)
        | inr c ↦ elim (test (holds (bad_own (reads image)))) [
          | inl d ↦ passed_refused (rw (a, b, c, d) at q)
          | inr d ↦ record { geometry = passed_same (rw (a, b, c, d) at q); image_fine = a; edition_fine = b; buffers_fine = c; table_fine = d }
        ]
      ]
    ]
  ]

  pub past_checks_lem : {g : Geometry} → PassedAll g → (rest : List Refusal) → refusal (checked image buffers_bad rest) ≡ refusal rest
  unfolding refusal
  past_checks_lem p rest = rw (p.image_fine, p.edition_fine, p.buffers_fine, p.table_fine) refl

  -- refused: with one of the four numbers, which is the operation's
  pub record RefusedFirst (why : enums.Refusal) : Type 0 where
    pub number : (rest : List Refusal) → refusal (checked image buffers_bad rest) ≡ number_of why
    pub most : number_of why ≤ 4

  pub refused_first : {why : enums.Refusal} → Err why ≡ first_checks image map scratch script → RefusedFirst why
  unfolding first_checks refusal
  refused_first q = elim (test (holds (bad_image (length image) (shape_of image)))) [
    | inl a ↦ rw (refused_same (rw a at q)) (record { number = λ rest. rw a refl; most = omega arith })
    | inr a ↦ elim (test (holds (bad_edition (reads image)))) [
      | inl b ↦ rw (refused_same (rw (a, b) at q)) (record { number = λ rest. rw (a, b) refl; most = omega arith })
      | inr b ↦ elim (test (holds buffers_bad)) [
        | inl c ↦ rw (refused_same (rw (a, b, c) at q)) (record { number = λ rest. rw (a, b, c) refl; most = omega arith })
        | inr c ↦ elim (test (holds (bad_own (reads image)))) [
          | inl d ↦ rw (refused_same (rw (a, b, c, d) at q)) (record { number = λ rest. rw (a, b, c, d) refl; most = omega arith })
          | inr d ↦ passed_refused (sym (rw (a, b, c, d) at q))
        ]
      ]
    ]
  ]

-- ---- what the checks leave

-- a buffer that is borrowed, or none, as the checks see it
abbrev pub by_length : Option (List ℕ) → std.Option ℕ
by_length none = None
by_length (some words) = Some (length words)

abbrev pub checks_on : List ℕ → (map scratch script : Option (List ℕ)) → Verdict
checks_on im map scratch script = first_checks im (by_length map) (by_length scratch) (by_length script)

-- with the geometry that was handed on: none of the four holds, and the image and what is borrowed have their lengths
pub record Checked (im : List ℕ) (map scratch script : Option (List ℕ)) (g : Geometry) : Type 0 where
  pub all : PassedAll im (by_length map) (by_length scratch) (by_length script) g
  pub geometry : g ≡ geometry_of (reads im)
  pub sized : Sized im g
  pub map_words_lem : Denies (map_bad g (by_length map))
  pub scratch_words : Denies (map_bad g (by_length scratch))
  pub script_words : Denies (script_bad (by_length script))

module _ (im : List ℕ) (map scratch script : Option (List ℕ)) {g : Geometry} where
  pub all_checked : {v : Verdict} → v ≡ checks_on im map scratch script → v ≡ Ok g → Checked im map scratch script g
  all_checked q told =
      let p = passed im (by_length map) (by_length scratch) (by_length script) (sym told ∙ q) in
      let fine = denies (buffers_bad im (by_length map) (by_length scratch) (by_length script)) p.buffers_fine in
      record {
        all = p;
        geometry = p.geometry;
        sized = rw p.geometry (sized_image im (shape_of im) p.image_fine);
        map_words_lem = rw p.geometry fine.0;
        scratch_words = rw p.geometry fine.1.0;
        script_words = fine.1.1;
      }

  -- the tests that are left
  pub tests_left : Checked im map scratch script g → (rest : Geometry → List Refusal)
      → refusal (checked im (buffers_bad im (by_length map) (by_length scratch) (by_length script)) (rest (geometry_of (reads im)))) ≡ refusal (rest g)
  tests_left p rest =
      past_checks_lem im (by_length map) (by_length scratch) (by_length script) p.all _ ∙ ap (λ (g : Geometry). refusal (rest g)) (sym p.geometry)

-- for Open and for Claim
abbrev pub OpenChecked : (im pool script : List ℕ) → Geometry → Type 0
OpenChecked im pool script = Checked im (some pool) none (some script)

pub open_checked : (im pool script : List ℕ) {g : Geometry} {v : Verdict} → v ≡ checks_on im (some pool) none (some script) → v ≡ Ok g
    → OpenChecked im pool script g
open_checked im pool script = all_checked im (some pool) none (some script)

-- ---- an operation that ends with one of the four

-- as the code ends there: v is the checks' verdict, and it refuses
pub ended_early : (op : Operation) (s : State) (b : Buffers) (map scratch script : std.Option ℕ) (rest : List Refusal) {v : Verdict} {why : enums.Refusal}
    → refusal (refusals op s) ≡ refusal (checked s.image (buffers_bad s.image map scratch script) rest)
    → v ≡ first_checks s.image map scratch script → v ≡ Err why
    → ended (number_of why) 0 (leaves op s (number_of why)) (all_buffers (scratch_after (clears op (number_of why)) b.scratch) b.script b.list b.copy)
    ≡ ends op s b
ended_early op s b map scratch script rest {why = why} same is told =
    let r = refused_first s.image map scratch script (sym told ∙ is) in
    sym (refused_any op s b (number_of why) (same ∙ r.number rest) (number_some why))

-- an end that is none of 1, 2 and 3 is 4 then
pub past_is_4 : (n : ℕ) → n ≢ 0 → n ≤ 4 → past_checks n ≡ eqb n 4
past_is_4 n z h = elim (ℕ_discrete n 4) [
  | yes q ↦ rw q refl
  | no q ↦ rw (ne_eqb n 0 z, ne_eqb n 4 q, le-ltb 3 n (omega arith)) refl
]

-- what comes after 3 may be put otherwise
pub past_three : (image : List ℕ) (bad bad' : Test) (rest rest' : List Refusal) → holds bad ≡ holds bad' → refusal rest ≡ refusal rest'
    → refusal (first_three image bad rest) ≡ refusal (first_three image bad' rest')
unfolding refusal
past_three image bad bad' rest rest' e same = rw (e, same) refl

-- a number by one test or by two in turn
pub in_turn : (t u : Test) (n : ℕ) (rest : List Refusal) → refusal ((t or u gives n) ∷ rest) ≡ refusal ((t gives n) ∷ (u gives n) ∷ rest)
unfolding refusal
in_turn t u n rest = elim (test (holds t)) [ inl e ↦ rw e refl | inr e ↦ rw e refl ]
