-- Tests of the image, of buffers, heads, slots and runs, each with what it means by words.
use mathlib.Core.Path.{◌≡◌, refl, sym, ◌∙◌, ap, subst}
use mathlib.Core.Bool.{Bool, true, false, not, ◌||◌}
use mathlib.Core.Logic.{◌⊎◌, inl, inr, ◌↔◌, ◌≢◌}
use mathlib.Core.List.{List}
use Prim.Native.Nat.{ℕ, ◌≤◌, ◌<◌}
use native.Mathlib.Omega.{arith}
use native.Mathlib.Decide.{dec_lt, ℕ_discrete}
use lib.ListN.{length, get_or}
use lib.Dec.{eqb}
use borrow.Author.Tests.{ltb-true, lt-ltb, eqb-true, eqb-false, not-true}
use Rattle.tree.specs.Memory.{Memory, reads}
use Rattle.tree.specs.Test.{Test, lt, le, eq, ne, is, ◌and◌, ◌or◌, holds, Says}
use Rattle.tree.specs.declared.layout.Geometry.{Geometry}
use Rattle.tree.specs.Layout.{bad_image, edition_at, own_at}
use Rattle.tree.specs.Fingerprint.{has_own, has_every, is_given, bad_given, LacksByte}
use Rattle.tree.specs.Sound.{SoundImage}
use Rattle.tree.specs.Slots.{slot_of, empty_slot}
use Rattle.tree.specs.Lookup.{free_run}
use Rattle.tree.proofs.Cases.{test, true_not_false, or-true, or_left, or_right}
use Rattle.tree.proofs.Tests.{says, said}
use Rattle.tree.proofs.Laws.{slot_laws, run_laws, table_laws}
use Rattle.book.specs.declared.Target.{Target}
use Rattle.book.specs.declared.HeadState.{HeadState}
use Rattle.book.specs.declared.HeadState.TheVariants as heads
use Rattle.book.specs.Heads.{head_count, state_of, head_at, is_idle, is_claimed, is_filled, target_of, busy}
use Rattle.book.specs.State.{State, memory, shape}
use Rattle.book.specs.Checks.{not_sound, outside}
use Rattle.book.specs.Agrees.{About, by_claim, by_fill}
use Rattle.book.specs.Ways.{SlotHas, ReelAt, HeadNames}
use Rattle.book.specs.Due.{RightImage, BadGiven, state_word, slot_word, node_word, place_word, frame_word, Idle, Outside, Busy, OfReel, NoReel, OpenReel, NoEmptySlot, NoRun, LowestFree}
use Rattle.book.proofs.Refusals.{Denies, decided, denies, denied}
use Rattle.book.proofs.Recovery.{sound_test}
use Rattle.book.proofs.Uses.{FoundRun}
use Rattle.book.proofs.Conflicts.{busy_by}

-- a condition that is what its test says
pub plain : (t : Test) → (holds t ≡ true) ↔ Says t
plain t = (says t, said t)

-- a test that decides P, turned round
pub turned : {b : Bool} {P : Type 0} → (b ≡ true) ↔ P → (not b ≡ true) ↔ (P → ⊥)
turned {b} h = (
  λ e p. true_not_false (h.1 p) (not-true b e),
  λ wrong. elim (test b) [ inl e ↦ absurd (wrong (h.0 e)) | inr e ↦ ap not e ],
)

-- one test or another
pub either : {a b : Bool} {P Q : Type 0} → (a ≡ true) ↔ P → (b ≡ true) ↔ Q → (a || b ≡ true) ↔ (P ⊎ Q)
either {a} {b} h k = (
  λ e. elim (or-true a b e) [ inl x ↦ inl (h.0 x) | inr x ↦ inr (k.0 x) ],
  λ x. elim x [ inl p ↦ or_left b (h.1 p) | inr q ↦ or_right a (k.1 q) ],
)

-- 4 in Recover and Convert
pub unsound_test : (m : Memory) → (holds (not_sound m) ≡ true) ↔ (SoundImage m → ⊥)
unsound_test m = (
  λ e a. true_not_false e ((sound_test m).1 a),
  λ wrong. elim (test (holds (not_sound m))) [ inl e ↦ e | inr e ↦ absurd (wrong ((sound_test m).0 e)) ],
)

-- 17
pub own_test : (m : Memory) → (has_own m ≡ true) ↔ ((m 0 ≡ 2) × (m 3 ≡ 1))
unfolding has_own
own_test m = plain (eq (m edition_at) 2 and eq (m own_at) 1)

-- 16
pub given_test : (table : List ℕ) → (holds (bad_given table) ≡ true) ↔ BadGiven table
unfolding bad_given is_given
given_test table =
    let t = is (is_given table) and (ne (length table) 256 or is (not (has_every table))) in (
      λ e. let h = says t e in
          (ltb-true 0 (length table) h.0, elim h.1 [ inl n ↦ inl n | inr x ↦ wrong (not-true _ x) ]),
      λ b. said t (
        lt-ltb 0 (length table) b.0,
        elim (ℕ_discrete (length table) 256) [
          | yes q ↦ elim b.1 [ inl n ↦ inl n | inr x ↦ inr (ap not ((table_laws.lacks table q).1 x)) ]
          | no n ↦ inl n
        ],
      ),
    )
  where
    wrong : has_every table ≡ false → (length table ≢ 256) ⊎ LacksByte (λ i. get_or table i 0)
    wrong e = elim (ℕ_discrete (length table) 256) [ yes q ↦ inr ((table_laws.lacks table q).0 e) | no n ↦ inl n ]

-- 1
pub image_test : (words : ℕ) (g : Geometry) → (holds (bad_image words g) ≡ true) ↔ (RightImage words g → ⊥)
unfolding bad_image
image_test words g = (
  λ e r.
      let d : Denies (bad_image words g) = omega (arith, r) in
      true_not_false e (denied (bad_image words g) d),
  λ wrong. elim (test (holds (bad_image words g))) [
    | inl e ↦ e
    | inr e ↦
        let d = denies (bad_image words g) e in
        absurd (wrong (record {
          slots_from = omega (arith, d);
          slots_to = omega (arith, d);
          nodes_from = omega (arith, d);
          nodes_to = omega (arith, d);
          right_length = d.1;
        }))
  ],
)

-- ---- heads

-- the state that a state word is read as
data StateIs (w : ℕ) (t : Target) : HeadState → Type 0 where
  idle : w ≢ 1 → w ≢ 2 → StateIs w t heads.Idle
  claimed : w ≡ 1 → StateIs w t (heads.Claimed t)
  filled : w ≡ 2 → StateIs w t (heads.Filled t)

state_is : (w : ℕ) (t : Target) → StateIs w t (state_of w t)
unfolding state_of
state_is w t = elim (test (eqb w 1)) [
  | inl e ↦ rw e (claimed (eqb-true w 1 e))
  | inr e ↦ rw e (elim (test (eqb w 2)) [ inl k ↦ rw k (filled (eqb-true w 2 k)) | inr k ↦ rw k (idle (eqb-false w 1 e) (eqb-false w 2 k)) ])
]

module _ (s : State) (h : ℕ) where
  abbrev target : Target
  target = record { slot = slot_word s h; node = node_word s h; place = place_word s h; frame = frame_word s h }

  head_is : StateIs (state_word s h) target (head_at s.heads h)
  unfolding head_at
  head_is = state_is (state_word s h) target

  pub idle_test : (is_idle (head_at s.heads h) ≡ true) ↔ Idle s h
  idle_test = go head_is
    where
      go : {x : HeadState} → StateIs (state_word s h) target x → (is_idle x ≡ true) ↔ Idle s h
      go (idle a b) = (λ e. (a, b), λ p. refl)
      go (claimed q) = (λ e. absurd (true_not_false e refl), λ p. absurd (p.0 q))
      go (filled q) = (λ e. absurd (true_not_false e refl), λ p. absurd (p.1 q))

  pub claimed_test : (is_claimed (head_at s.heads h) ≡ true) ↔ (state_word s h ≡ 1)
  claimed_test = go head_is
    where
      go : {x : HeadState} → StateIs (state_word s h) target x → (is_claimed x ≡ true) ↔ (state_word s h ≡ 1)
      go (idle a b) = (λ e. absurd (true_not_false e refl), λ p. absurd (a p))
      go (claimed q) = (λ e. q, λ p. refl)
      go (filled q) = (λ e. absurd (true_not_false e refl), λ p. absurd (omega arith))

  pub filled_test : (is_filled (head_at s.heads h) ≡ true) ↔ (state_word s h ≡ 2)
  filled_test = go head_is
    where
      go : {x : HeadState} → StateIs (state_word s h) target x → (is_filled x ≡ true) ↔ (state_word s h ≡ 2)
      go (idle a b) = (λ e. absurd (true_not_false e refl), λ p. absurd (b p))
      go (claimed q) = (λ e. absurd (true_not_false e refl), λ p. absurd (omega arith))
      go (filled q) = (λ e. q, λ p. refl)

  pub outside_test : (Idle s h → ⊥) → (holds (outside (shape s) (target_of (head_at s.heads h))) ≡ true) ↔ Outside s h
  outside_test taken = go head_is
    where
      go : {x : HeadState} → StateIs (state_word s h) target x → (holds (outside (shape s) (target_of x)) ≡ true) ↔ Outside s h
      go (idle a b) = absurd (taken (a, b))
      go (claimed q) = plain (outside (shape s) target)
      go (filled q) = plain (outside (shape s) target)

  -- what a head is about, by its words
  pub word_target : {t : Target} → About t (head_at s.heads h) → (Idle s h → ⊥) × (t ≡ target)
  word_target o = go head_is o
    where
      go : {t : Target} {x : HeadState} → StateIs (state_word s h) target x → About t x → (Idle s h → ⊥) × (t ≡ target)
      go (idle a b) o = elim o [ ]
      go (claimed q) by_claim = (λ i. i.0 q, refl)
      go (filled q) by_fill = (λ i. i.1 q, refl)

  pub about_words : (Idle s h → ⊥) → About target (head_at s.heads h)
  about_words taken = go head_is
    where
      go : {x : HeadState} → StateIs (state_word s h) target x → About target x
      go (idle a b) = absurd (taken (a, b))
      go (claimed q) = by_claim
      go (filled q) = by_fill

  abbrev pub named : {slot : ℕ} → h < head_count → (Idle s h → ⊥) → slot_word s h ≡ slot → HeadNames s h slot
  named l taken q = record { low = l; target = target; about = about_words taken; of_slot = q }

-- 13 in Remove, Retire and Tidy
abbrev pub busy_of_names : {s : State} {slot k : ℕ} → HeadNames s k slot → Busy s slot
busy_of_names {s} {slot} {k} x =
    let w = word_target s k x.about in
    record { head = k; low = x.low; not_idle = w.0; names = ap (λ t. t.slot) (sym w.1) ∙ x.of_slot }

pub busy_test : (s : State) (slot : ℕ) → (busy s.heads slot ≡ true) ↔ Busy s slot
busy_test s slot = (
  λ e. busy_of_names ((busy_by s slot).0 e).1,
  λ b. (busy_by s slot).1 (b.head, named s b.head b.low b.not_idle b.names),
)

-- ---- slots

module _ (s : State) (reel : ℕ) where
  pub reel_slot : slot_of (shape s) (memory s) reel < (shape s).slots → ReelAt (shape s) (memory s) reel (slot_of (shape s) (memory s) reel)
  reel_slot l = let t = (slot_laws (shape s) (memory s)).reel reel l in record { has = record { open_slot = t.0; number = t.1 }; lowest = lowest }
    where
      lowest : (k : ℕ) → SlotHas (shape s) (memory s) reel k → slot_of (shape s) (memory s) reel ≤ k
      lowest k x = rw x.number at ((slot_laws (shape s) (memory s)).lowest x.open_slot)

  below : {k : ℕ} → SlotHas (shape s) (memory s) reel k → slot_of (shape s) (memory s) reel < (shape s).slots
  below x = omega (arith, rw x.number at ((slot_laws (shape s) (memory s)).lowest x.open_slot), x.open_slot.inside)

  -- 6, and 5
  pub open_test : (holds (lt (slot_of (shape s) (memory s) reel) (shape s).slots) ≡ true) ↔ OpenReel s reel
  open_test = decided (lt (slot_of (shape s) (memory s) reel) (shape s).slots) (λ l. (_, (reel_slot l).has), λ x. below x.1)

  pub absent_test : (holds (le (shape s).slots (slot_of (shape s) (memory s) reel)) ≡ true) ↔ NoReel s reel
  absent_test = decided (le (shape s).slots (slot_of (shape s) (memory s) reel)) (
    λ l k x. omega (arith, below x),
    λ none. elim (dec_lt (slot_of (shape s) (memory s) reel) (shape s).slots) [ yes l ↦ absurd (none _ (reel_slot l).has) | no l ↦ omega arith ],
  )

  -- past 5
  pub present : (NoReel s reel → ⊥) → ReelAt (shape s) (memory s) reel (slot_of (shape s) (memory s) reel)
  present some = elim (dec_lt (slot_of (shape s) (memory s) reel) (shape s).slots) [
    | yes l ↦ reel_slot l
    | no l ↦ absurd (some (λ k x. l (below x)))
  ]

  -- what a test decides of the reel's slot
  pub of_reel : {b : Bool} {slot : ℕ} (P : ℕ → Type 0) → ReelAt (shape s) (memory s) reel slot → (b ≡ true) ↔ P slot → (b ≡ true) ↔ OfReel s reel P
  of_reel {slot = slot} P r h = (
    λ e. record { slot = slot; is = r; so = h.0 e },
    λ x.
        let q : x.slot ≡ slot = omega (arith, x.is.lowest slot r.has, r.lowest x.slot x.is.has) in
        h.1 (rw q at x.so),
  )

-- 7
pub full_test : (s : State) → (holds (le (shape s).slots (empty_slot (shape s) (memory s))) ≡ true) ↔ NoEmptySlot s
full_test s = let laws = slot_laws (shape s) (memory s) in decided (le (shape s).slots (empty_slot (shape s) (memory s))) (
  λ l k b z. omega (arith, laws.lowest_empty k b z),
  λ all. elim (dec_lt (empty_slot (shape s) (memory s)) (shape s).slots) [ yes l ↦ absurd (all _ l (laws.empty l)) | no l ↦ omega arith ],
)

-- 8
pub run_says : (s : State) (k : ℕ) → 0 < k → ((shape s).nodes ≤ free_run (shape s) (reads s.pool) k) ↔ NoRun s k
run_says s k h = let laws = run_laws (shape s) (reads s.pool) k in (
  λ l n r. omega (arith, (laws.lowest n h r).1),
  λ none. elim (dec_lt (free_run (shape s) (reads s.pool) k) (shape s).nodes) [ yes l ↦ absurd (none _ (laws.found l)) | no l ↦ omega arith ],
)

-- the lowest free run is what the search of the map finds
pub lowest_free : (s : State) (k start : ℕ) → 0 < k → LowestFree s k start ↔ FoundRun (shape s) (reads s.pool) k start
lowest_free s k start h = let laws = run_laws (shape s) (reads s.pool) k in (
  λ l. let z = laws.lowest start h l.run in (omega (arith, z.0, l.lowest _ (laws.found z.1)), z.1),
  λ q. subst (LowestFree s k) q.0 (record { run = laws.found q.1; lowest = λ b r. (laws.lowest b h r).0 }),
)
