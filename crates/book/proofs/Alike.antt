-- Demand 2: where a book agrees with a table, both answer alike.
use mathlib.Core.Path.{◌≡◌, refl, sym, ◌∙◌, ap}
use mathlib.Core.Bool.{true, false, not}
use mathlib.Core.Logic.{inl, inr, ◌↔◌, ◌≢◌}
use mathlib.Core.Option.{some}
use mathlib.Core.List.{List, [], ◌∷◌}
use Prim.Native.Nat.{ℕ, ◌<◌}
use native.Mathlib.Omega.{arith}
use native.Mathlib.Decide.{ℕ_discrete}
use lib.ListN.{length}
use lib.Dec.{eqb, ltb, leb}
use borrow.Author.Tests.{ltb-false, leb-true, le-leb, lt-leb, not-false}
use Rattle.tree.specs.Memory.{reads, is_some, Fit}
use Rattle.tree.specs.Test.{Test, lt, le, ne, is, ◌or◌, holds}
use Rattle.tree.specs.Lists.{empty}
use Rattle.tree.specs.declared.layout.Geometry.{Geometry}
use Rattle.tree.specs.Layout.{bad_image, image_words, bad_edition}
use Rattle.tree.specs.Fingerprint.{bad_own}
use Rattle.tree.specs.Slots.{slot_of, empty_slot}
use Rattle.tree.specs.Lookup.{path_from, free_run}
use Rattle.tree.specs.Groups.{first_group, NoGroup}
use Rattle.tree.proofs.Cases.{test, true_not_false, same_test}
use Rattle.tree.proofs.Tests.{says}
use Rattle.book.specs.Heads.{head_count, head_at, target_of}
use Rattle.book.specs.Refusals.{Refusal, ◌gives◌, refusal}
use Rattle.tree.specs.Room.{room_on, at_level31}
use Rattle.book.specs.State.{State, Operation, format, recover, open_reel, claim, fill, commit, abandon, remove, retire, tidy, query, has, list, convert, arguments, Work, memory, shape}
use Rattle.book.specs.Checks.{first_three, bad_map, bad_script, not_sound, outside, no_path, no_run_for, refusals}
use Rattle.book.specs.Perform.{one_if, granted, perform}
use Rattle.book.specs.Table as table
use Rattle.book.specs.Table.{Table, TableHead, TableWork, Fed, nothing, fed, is_present, table_head, table_refusals, table_work, reply}
use Rattle.book.specs.Agrees.{EachOnce, Agrees}
use Rattle.book.specs.Ways.{SlotHas, Lacks, LacksGroup, no_group, InTheWay}
use Rattle.book.specs.Histories.{replied}
use Rattle.book.specs.Demands.{GivesOne, by_format, by_convert, Alike}
use Rattle.book.proofs.Refusals.{Named, Passes, decided, denies, denied, passes}
use Rattle.book.proofs.Performed.{answer_is, work_granted, work_refused, reply_is, reply_granted, reply_refused}
use Rattle.book.proofs.InTheWay.{busy_remove, busy_retire, busy_tidy, taken_in_the_way, conflict_claim, lacking}
use Rattle.book.proofs.DueTrees.{group_test}
use Rattle.book.proofs.Level31.{never_level31, lacks_open, lacks_claim}
use Rattle.book.proofs.Paired.{Paired, end, same, skip, busy, meets, run, group, paired_answer, paired_run, paired_group, paired_busy}
use Rattle.book.proofs.Reading.{image_right, edition_right, same_geometry, is_sound_lem, slot_has, slot_below, one_slot, path_there, tree_right}
use Rattle.book.proofs.Reading.{same_frames, same_length, same_held, all_filled, same_idle, same_claimed, same_filled, claim_of, claim_inside, same_busy}

image_words_lem : {s : State} {t : Table} → Agrees s t → length s.image ≡ image_words (table.geometry t)
image_words_lem a = a.shows.words ∙ ap image_words (same_geometry a.shows)

-- ---- the operations' lists

claimed_not_idle : (y : TableHead) → table.is_claimed y ≡ true → table.is_idle y ≡ false
claimed_not_idle table.idle h = absurd (true_not_false h refl)
claimed_not_idle (table.claimed r f) h = refl
claimed_not_idle (table.filled r f) h = refl

filled_not_idle : (y : TableHead) → table.is_filled y ≡ true → table.is_idle y ≡ false
filled_not_idle table.idle h = absurd (true_not_false h refl)
filled_not_idle (table.claimed r f) h = refl
filled_not_idle (table.filled r f) h = refl

module _ {s : State} {t : Table} (a : Agrees s t) where
  present_test : (reel : ℕ) → ltb (slot_of (shape s) (memory s) reel) (shape s).slots ≡ is_present t reel
  present_test reel = same_test (decided (lt (slot_of (shape s) (memory s) reel) (shape s).slots) (slot_below a.shows reel))

  absent_test : (reel : ℕ) → leb (shape s).slots (slot_of (shape s) (memory s) reel) ≡ not (is_present t reel)
  absent_test reel = elim (test (is_present t reel)) [
    | inl e ↦ rw e (lt-leb _ _ ((slot_below a.shows reel).1 e))
    | inr e ↦ rw e (le-leb (shape s).slots (slot_of (shape s) (memory s) reel) (ltb-false _ _ (present_test reel ∙ e)))
  ]

  full_test : leb (shape s).slots (empty_slot (shape s) (memory s)) ≡ leb t.slots (length t.reels)
  full_test = let d = all_filled a.shows in same_test (λ e. le-leb _ _ (d.0 (leb-true _ _ e)), λ e. le-leb _ _ (d.1 (leb-true _ _ e)))

  -- a head's claim is inside
  inside_test : (h : ℕ) → h < head_count → table.is_idle (table_head t h) ≡ false → holds (outside (shape s) (target_of (head_at s.heads h))) ≡ false
  inside_test h l e =
      let x = a.heads h l in
      denied (outside (shape s) (target_of (head_at s.heads h))) (claim_inside a.shows (claim_of x (same_idle x ∙ e)))

  -- 1 and 2 never come
  checks : {x : Fed} {P G Q : Type 0} {rs qs : List Refusal} → Paired x P G Q rs qs
      → Paired x P G Q ((bad_image (length s.image) (shape s) gives 1) ∷ (bad_edition (memory s) gives 2) ∷ rs) qs
  checks p = skip (image_right a.shows) (skip (edition_right a.shows) p)

  -- 3 is for what is borrowed, and 4 for a bad table never comes
  borrowed : {x : Fed} {P G Q : Type 0} {u v : Test} {rs qs : List Refusal} → holds u ≡ holds v → (holds v ≡ false → Paired x P G Q rs qs)
      → Paired x P G Q (first_three s.image u ((bad_own (memory s) gives 4) ∷ rs)) ((v gives 3) ∷ qs)
  borrowed q p = checks (same 3 refl q (λ e. skip a.shows.good_table (p e)))

  -- nor does 4 for an image that is not sound
  sound_image : holds (not_sound (memory s)) ≡ false
  sound_image = rw a.shows.good_table (ap not (is_sound_lem a.shows))

  -- 5, and after it the reel's slot
  reel_there : {x : Fed} {P G Q : Type 0} {rs qs : List Refusal} (reel : ℕ)
      → (SlotHas (shape s) (memory s) reel (slot_of (shape s) (memory s) reel) → Paired x P G Q rs qs)
      → Paired x P G Q ((le (shape s).slots (slot_of (shape s) (memory s) reel) gives 5) ∷ rs) ((is (not (is_present t reel)) gives 5) ∷ qs)
  reel_there reel p = same 5 refl (absent_test reel) (λ e. p (slot_has a.shows reel (not-false _ e)))

  -- 11, and after it the head
  head_there : {x : Fed} {P G Q : Type 0} {rs qs : List Refusal} (h : ℕ) → (h < head_count → Paired x P G Q rs qs)
      → Paired x P G Q ((le head_count h gives 11) ∷ rs) ((le head_count h gives 11) ∷ qs)
  head_there h p = same 11 refl refl (λ e. p (denies (le head_count h) e))

  -- 4 never comes on a path
  path_test : {reel slot : ℕ} (f : ℕ) → SlotHas (shape s) (memory s) reel slot
      → holds (no_path (path_from (shape s) (memory s) slot f)) ≡ false
  path_test f r = ap (λ ns. not (is_some ns)) (path_there a.shows r.open_slot f).1

  room_test : {reel slot : ℕ} (f : ℕ) → SlotHas (shape s) (memory s) reel slot
      → let ns = path_from (shape s) (memory s) slot f in
      holds (no_path ns or is (at_level31 (room_on (shape s) (memory s) ns))) ≡ false
  room_test f r = let ns = path_there a.shows r.open_slot f in rw ns.1 (never_level31 a f ns.0 r.open_slot ns.1)

  run_test : {reel slot : ℕ} (words script h f : ℕ) → SlotHas (shape s) (memory s) reel slot
      → (holds (no_run_for (shape s) (reads s.pool) (room_on (shape s) (memory s) (path_from (shape s) (memory s) slot f))) ≡ true)
      ↔ Lacks s (claim words script h reel f)
  run_test words script h f r =
      let ns = path_there a.shows r.open_slot f in
      rw ns.1 (decided (no_run_for (shape s) (reads s.pool) (room_on (shape s) (memory s) (some ns.0)))
      (lacks_claim a words script h f ns.0 r ns.1))

  -- 18 comes exactly where no node that the reel reaches has an empty group
  lacks_group : {reel slot : ℕ} (words scratch script : ℕ) → SlotHas (shape s) (memory s) reel slot
      → (not (is_some (first_group (shape s) (memory s) slot)) ≡ true) ↔ LacksGroup s (tidy words scratch script reel)
  lacks_group {reel} {slot} words scratch script r =
      let n = group_test s r.open_slot in (λ e. no_group r (n.0 e), λ l. n.1 (of_slot l))
    where
      of_slot : LacksGroup s (tidy words scratch script reel) → NoGroup (shape s) (memory s) slot
      of_slot (no_group r' nowhere) w n x = nowhere w n (rw (one_slot a.shows r r') at x)

  paired : (op : Operation) (x : Fed) → Paired x (Lacks s op) (LacksGroup s op) (InTheWay s op) (refusals op s) (table_refusals op x t)
  unfolding refusals table_refusals
  paired (format words table slots nodes) x =
      let g : Geometry = record { slots = slots; nodes = nodes } in
      same 1 refl (ap (λ n. holds (bad_image n g)) (image_words_lem a)) (λ e.
      same 3 refl refl (λ e. same 16 refl refl (λ e. end (λ w. elim w [ ]) (λ w. elim w [ ]) (λ w. elim w [ ]))))
  paired (recover words) x =
      checks (same 3 refl (ap (λ g. holds (bad_map g words)) (same_geometry a.shows)) (λ e.
      skip sound_image (end (λ w. elim w [ ]) (λ w. elim w [ ]) (λ w. elim w [ ]))))
  paired (open_reel words script reel) x =
      borrowed (ap (λ g. holds (bad_map g words or bad_script script)) (same_geometry a.shows)) (λ e.
      same 6 refl (present_test reel) (λ e.
      same 7 refl full_test (λ e.
      run (λ w. elim w [ ]) (λ w. elim w [ ]) (decided (le (shape s).nodes (free_run (shape s) (reads s.pool) 1)) (lacks_open a words script reel)))))
  paired (claim words script h reel f) x =
      borrowed (ap (λ g. holds (bad_map g words or bad_script script)) (same_geometry a.shows)) (λ e.
      head_there h (λ l.
      same 12 refl (ap not (same_idle (a.heads h l))) (λ e.
      reel_there reel (λ r.
      skip (room_test f r) (same 9 refl (same_held a.shows r f) (λ e'.
      let idle = same_idle (a.heads h l) ∙ not-false _ e in
      meets (λ w. elim w [ ]) (conflict_claim a r words script f h idle) (taken_in_the_way a r words script f h idle)
      (λ own w z. lacking a r words script f h idle ((run_test words script h f r).1 z) own w)
      (run_test words script h f r)))))))
  paired (fill script h) x =
      borrowed refl (λ e.
      head_there h (λ l.
      same 12 refl (ap not (same_claimed (a.heads h l))) (λ e.
      skip (inside_test h l (claimed_not_idle (table_head t h) (not-false _ e))) (end (λ w. elim w [ ]) (λ w. elim w [ ]) (λ w. elim w [ ])))))
  paired (commit script h) x =
      borrowed refl (λ e.
      head_there h (λ l.
      same 12 refl (ap not (same_filled (a.heads h l))) (λ e.
      skip (inside_test h l (filled_not_idle (table_head t h) (not-false _ e))) (end (λ w. elim w [ ]) (λ w. elim w [ ]) (λ w. elim w [ ])))))
  paired (abandon script h) x =
      borrowed refl (λ e.
      head_there h (λ l.
      same 12 refl (same_idle (a.heads h l)) (λ e. skip (inside_test h l e) (end (λ w. elim w [ ]) (λ w. elim w [ ]) (λ w. elim w [ ])))))
  paired (remove script reel f) x =
      borrowed refl (λ e.
      reel_there reel (λ r.
      busy (same_busy a r) (busy_remove a r script f) (λ free.
      skip (path_test f r) (same 10 refl (ap not (same_held a.shows r f)) (λ e. end (λ w. elim w [ ]) (λ w. elim w [ ]) free)))))
  paired (query (has reel f)) x =
      checks (skip refl (skip a.shows.good_table (reel_there reel (λ r. skip (path_test f r) (end (λ w. elim w [ ]) (λ w. elim w [ ]) (λ w. elim w [ ]))))))
  paired (query (list scratch room reel)) x =
      borrowed (ap (λ g. holds (bad_map g scratch)) (same_geometry a.shows)) (λ e.
      reel_there reel (λ r.
      skip (ap not (tree_right a.shows r.open_slot))
      (same 14 refl (ap (ltb room) (same_length (same_frames a.shows r))) (λ e. end (λ w. elim w [ ]) (λ w. elim w [ ]) (λ w. elim w [ ])))))
  paired (query (convert scratch copy)) x =
      let n = length s.image in
      let longer : holds (bad_image n (shape s) or ne copy n) ≡ not (eqb copy (image_words (table.geometry t))) =
      rw (image_right a.shows) (ap (λ n. not (eqb copy n)) (image_words_lem a)) in
      same 1 refl longer (λ e.
      skip (edition_right a.shows) (
      same 3 refl (ap (λ g. holds (bad_map g scratch)) (same_geometry a.shows)) (λ e.
      skip sound_image (
      same 17 refl a.shows.own (λ e. end (λ w. elim w [ ]) (λ w. elim w [ ]) (λ w. elim w [ ]))))))
  paired (retire words scratch script reel) x =
      borrowed (ap (λ g. holds (bad_map g words or bad_map g scratch or bad_script script)) (same_geometry a.shows)) (λ e.
      reel_there reel (λ r.
      busy (same_busy a r) (busy_retire a r words scratch script) (λ free.
      skip (ap not (tree_right a.shows r.open_slot)) (end (λ w. elim w [ ]) (λ w. elim w [ ]) free))))
  paired (tidy words scratch script reel) x =
      borrowed (ap (λ g. holds (bad_map g words or bad_map g scratch or bad_script script)) (same_geometry a.shows)) (λ e.
      reel_there reel (λ r.
      busy (same_busy a r) (busy_tidy a r words scratch script) (λ free.
      skip (ap not (tree_right a.shows r.open_slot)) (group (λ w. elim w [ ]) free (lacks_group words scratch script r)))))

-- ---- what is handed back

-- an operation that is answered passes each of the table's tests
table_passes : (op : Operation) (x : Fed) (t : Table) → Named (table_refusals op x t) → (reply op x t).answer ≡ 0 → Passes (table_refusals op x t)
table_passes op x t named h = passes (table_refusals op x t) named (sym (reply_is op x t) ∙ h)

none_once : EachOnce [] []
none_once = record { once = empty; once_too = empty; same = λ x. (λ y. y, λ y. y) }

-- two works hand back the same
record SameWork (w : Work) (u : TableWork) : Type 0 where
  value : w.handed.value ≡ u.handed.value
  listing : EachOnce w.handed.listing u.handed.listing

granted_alike : {s : State} {t : Table} → Agrees s t → (op : Operation) (x : Fed) → (reply op x t).answer ≡ 0 → SameWork (granted op s) (table_work op t)
unfolding granted table_work table_refusals
granted_alike a (format words table slots nodes) x h = record { value = refl; listing = none_once }
granted_alike a (recover words) x h = record { value = refl; listing = none_once }
granted_alike a (open_reel words script reel) x h = record { value = refl; listing = none_once }
granted_alike a (claim words script h' reel f) x h = record { value = refl; listing = none_once }
granted_alike a (fill script h') x h = record { value = refl; listing = none_once }
granted_alike a (commit script h') x h = record { value = refl; listing = none_once }
granted_alike a (abandon script h') x h = record { value = refl; listing = none_once }
granted_alike a (remove script reel f) x h = record { value = refl; listing = none_once }
granted_alike a (retire words scratch script reel) x h = record { value = refl; listing = none_once }
granted_alike a (tidy words scratch script reel) x h = record { value = refl; listing = none_once }
granted_alike a (query (convert scratch copy)) x h = record { value = refl; listing = none_once }
granted_alike {s} {t} a (query (has reel f)) x h =
    let r = slot_has a.shows reel (not-false _ (table_passes (query (has reel f)) x t (omega arith) h).0) in
    record { value = ap one_if (same_held a.shows r f); listing = none_once }
granted_alike {s} {t} a (query (list scratch room reel)) x h =
    let r = slot_has a.shows reel (not-false _ (table_passes (query (list scratch room reel)) x t (omega arith) h).1.0) in
    record { value = same_length (same_frames a.shows r); listing = same_frames a.shows r }

work_alike : {s : State} {t : Table} → Agrees s t → (op : Operation) → (perform op s).answer ≡ (replied op s t).answer
    → SameWork (perform op s).work (replied op s t).work
work_alike {s} {t} a op e = elim (ℕ_discrete (perform op s).answer 0) [
  | yes z ↦
      let y : (replied op s t).answer ≡ 0 = sym e ∙ z in
      rw (work_granted op s z, reply_granted op (fed (perform op s).answer) t y) (granted_alike a op (fed (perform op s).answer) y)
  | no z ↦
      rw (work_refused op s z, reply_refused op (fed (perform op s).answer) t (λ q. z (e ∙ q)))
      (record { value = refl; listing = none_once })
]

-- ---- the table's numbers: 2 and 4 never, 1 only of Format, and of Convert for the second image's length

record Answers (s : State) (op : Operation) (n : ℕ) : Type 0 where
  not_edition : n ≢ 2
  not_malformed : n ≢ 4
  one_from : n ≡ 1 → GivesOne s op

-- what holds of 0 and of every number of a list holds of its answer
abbrev Each : (ℕ → Type 0) → List Refusal → Type 0
Each P [] = Unit {0}
Each P (r ∷ rs) = P r.number × Each P rs

each_answer : (P : ℕ → Type 0) → P 0 → (rs : List Refusal) → Each P rs → P (refusal rs)
unfolding refusal
each_answer P z [] p = z
each_answer P z (r ∷ rs) p = elim (test (holds r.test)) [ inl e ↦ rw e p.0 | inr e ↦ rw e (each_answer P z rs p.1) ]

never_these : {s : State} {op : Operation} (rs : List Refusal) → Each (λ n. (n ≢ 1) × (n ≢ 2) × (n ≢ 4)) rs → Answers s op (refusal rs)
never_these rs p =
    let n = each_answer (λ n. (n ≢ 1) × (n ≢ 2) × (n ≢ 4)) (omega arith) rs p in
    record { not_edition = n.1; not_malformed = n.2; one_from = λ q. absurd (n.0 q) }

table_answers : {s : State} {t : Table} → Agrees s t → (op : Operation) (x : Fed) → Answers s op (refusal (table_refusals op x t))
unfolding table_refusals refusal
table_answers {s} {t} a (query (convert scratch copy)) x =
    let rs = table_refusals (query (convert scratch copy)) x t in
    let longer = ne copy (image_words (table.geometry t)) in
    elim (test (holds longer)) [
      | inl e ↦ rw e (record {
        not_edition = omega arith;
        not_malformed = omega arith;
        one_from = λ q. by_convert (λ z. says longer e (z ∙ image_words_lem a));
      })
      | inr e ↦ rw e (never_these ((bad_map (table.geometry t) scratch gives 3) ∷ (is t.own gives 17) ∷ []) (omega arith))
    ]
table_answers {t = t} a (format words table slots nodes) x =
    let n = each_answer (λ n. (n ≢ 2) × (n ≢ 4)) (omega arith) (table_refusals (format words table slots nodes) x t) (omega arith) in
    record { not_edition = n.0; not_malformed = n.1; one_from = λ q. by_format }
table_answers {t = t} a (recover words) x = never_these (table_refusals (recover words) x t) (omega arith)
table_answers {t = t} a (open_reel words script reel) x = never_these (table_refusals (open_reel words script reel) x t) (omega arith)
table_answers {t = t} a (claim words script h reel f) x = never_these (table_refusals (claim words script h reel f) x t) (omega arith)
table_answers {t = t} a (fill script h) x = never_these (table_refusals (fill script h) x t) (omega arith)
table_answers {t = t} a (commit script h) x = never_these (table_refusals (commit script h) x t) (omega arith)
table_answers {t = t} a (abandon script h) x = never_these (table_refusals (abandon script h) x t) (omega arith)
table_answers {t = t} a (remove script reel f) x = never_these (table_refusals (remove script reel f) x t) (omega arith)
table_answers {t = t} a (query (has reel f)) x = never_these (table_refusals (query (has reel f)) x t) (omega arith)
table_answers {t = t} a (query (list scratch room reel)) x = never_these (table_refusals (query (list scratch room reel)) x t) (omega arith)
table_answers {t = t} a (retire words scratch script reel) x = never_these (table_refusals (retire words scratch script reel) x t) (omega arith)
table_answers {t = t} a (tidy words scratch script reel) x = never_these (table_refusals (tidy words scratch script reel) x t) (omega arith)

-- ---- demand 2 of one state

pub alike : {s : State} {t : Table} → Agrees s t → (op : Operation) → Fit (arguments op) → Alike op s t
alike {s} {t} a op fit =
    let x = fed (perform op s).answer in
    let e : (perform op s).answer ≡ refusal (table_refusals op x t) = sym (paired_answer (paired a op x) (sym (answer_is op s)) refl) in
    let q : (perform op s).answer ≡ (replied op s t).answer = e ∙ sym (reply_is op x t) in
    let n = table_answers a op x in
    let w = work_alike a op q in
    record {
      answer = q;
      value = w.value;
      listing = w.listing;
      not_edition = λ z. n.not_edition (sym e ∙ z);
      not_malformed = λ z. n.not_malformed (sym e ∙ z);
      one_from = λ z. n.one_from (sym e ∙ z);
      busy = λ z. rw answer_is (paired_busy (paired a op nothing) z);
      no_run_lem = λ z. rw answer_is (paired_run (paired a op nothing) z);
      no_group = λ z. rw answer_is (paired_group (paired a op nothing) z);
    }
