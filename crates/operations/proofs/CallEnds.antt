-- How a call ends, as the driver finds it: what it is handed back, answered or refused, and with a map of another length.
use mathlib.Core.Path.{◌≡◌, refl, sym, ◌∙◌, ap}
use mathlib.Core.Bool.{Bool, true, false, cond}
use mathlib.Core.Logic.{inl, inr, ◌≢◌}
use mathlib.Core.Option.{some}
use mathlib.Core.List.Memᴰ
use mathlib.Core.List.{List, [], ◌∷◌, Memᴰ}
use Prim.Native.Nat.{ℕ, ◌≤◌}
use native.Mathlib.Omega.{arith}
use lib.ListN.{length, drop}
use lib.Seq.{take-append_seam, drop_at}
use native.Mathlib.Decide.{ℕ_discrete}
use borrow.Author.Tests.{ne_eqb}
use Rattle.tree.specs.Memory.{reads, encode, written, decode, segmented, carry_out, Inside}
use Rattle.tree.specs.Test.{holds}
use Rattle.tree.specs.declared.layout.Geometry.{Geometry}
use Rattle.tree.specs.Layout.{bad_image, map_words, geometry_of, bad_edition}
use Rattle.tree.specs.Subtree.{listed}
use Rattle.tree.proofs.Memory.{script_laws, segment_laws}
use Rattle.tree.proofs.Cases.{test, not-false}
use Rattle.tree.proofs.Laws.{pool_laws}
use Rattle.book.specs.Refusals.{refusal}
use Rattle.book.specs.State.{State, Operation, format, recover, open_reel, claim, fill, commit, abandon, remove, retire, tidy, query, has, list, convert, Work, scratch_after, copy_after}
use Rattle.book.specs.Checks.{refusals}
use Rattle.book.specs.Perform.{granted, leaves, clears, left_by, perform}
use Rattle.book.specs.Demands.{Leaves, as_before, map_cleared}
use Rattle.book.proofs.Demands.{demand1, scripts}
use Rattle.book.proofs.Due.{refusals_due}
use Rattle.book.proofs.Performed.{answer_is, work_granted, work_refused}
use Rattle.operations.specs.Ends.{Buffers, state, Ends, ended, found, ends}
use Rattle.operations.specs.Chain.{Counted, nothing, script_words, number_alone, frames, counted, words_in, frames_in, value_in, Answered, Tells, Refused, OtherMap, by_format, by_recover, by_open, by_claim, by_retire, by_tidy, Cleared, Clears, Unread, Fits}
use Rattle.operations.proofs.Endings.{refused as ends-refused, done as ends-done}

-- ---- what is handed back

-- no words are those of no segments, and read back and carried out as none
no_words : [] ≡ encode (segmented [])
no_words = sym segment_laws.none_encoded

pub none_inside : (n : ℕ) → Inside n (segmented [])
none_inside n i v x = absurd (Memᴰ.not-nil (rw segment_laws.no_segment at x))

pub no_entries : (n : ℕ) → decode n [] ≡ some (segmented [])
no_entries n = rw segment_laws.none_encoded at (script_laws.read_back n (segmented []) (none_inside n))

pub none_carried : (m : List ℕ) → (carry_out m []).image ≡ m
none_carried m =
    ap (λ o. o.image) (rw segment_laws.none_encoded at (script_laws.carried_out m (segmented []) (none_inside (length m)))) ∙ segment_laws.apply_none m

abbrev answering : Operation → State → Buffers → Ends
answering op s b = found op (record { answer = 0; work = granted op s; cleared = clears op 0; places_left_lem = left_by op s }) b

-- words, value and frames of an operation's work are handed over
abbrev HandsOver : Operation → Work → Ends → Type 0
HandsOver op w e =
    (words_in (counted op) e ≡ encode (segmented w.script)) × (value_in (counted op) e ≡ w.handed.value) × (frames_in (counted op) e ≡ w.handed.listing)

granted_over : (op : Operation) (s : State) (b : Buffers) → HandsOver op (granted op s) (answering op s b)
unfolding found granted listed
granted_over (format words table slots nodes) s b = (no_words, refl, refl)
granted_over (recover words) s b = (no_words, refl, refl)
granted_over (open_reel words script reel) s b = (script_laws.take_written _ _, refl, refl)
granted_over (claim words script h reel f) s b = (script_laws.take_written _ _, refl, refl)
granted_over (fill script h) s b = (script_laws.take_written _ _, refl, refl)
granted_over (commit script h) s b = (script_laws.take_written _ _, refl, refl)
granted_over (abandon script h) s b = (script_laws.take_written _ _, refl, refl)
granted_over (remove script reel f) s b = (script_laws.take_written _ _, refl, refl)
granted_over (query (has reel f)) s b = (no_words, refl, refl)
granted_over (query (list scratch room reel)) s b = (no_words, refl, take-append_seam _ _)
granted_over (query (convert scratch copy)) s b = (no_words, refl, refl)
granted_over (retire words scratch script reel) s b = (script_laws.take_written _ _, refl, refl)
granted_over (tidy words scratch script reel) s b = (script_laws.take_written _ _, refl, refl)

-- and nothing where the count is 0
pub nothing_over : (k : Counted) (e : Ends) → e.count ≡ 0 → (words_in k e ≡ []) × (value_in k e ≡ 0) × (frames_in k e ≡ [])
nothing_over script_words e z = (rw z refl, refl, refl)
nothing_over frames e z = (refl, z, rw z refl)
nothing_over number_alone e z = (refl, z, refl)
nothing_over nothing e z = (refl, refl, refl)

module _ (op : Operation) (s : State) (b : Buffers) where
  pub answer_ends : (ends op s b).answer ≡ (perform op s).answer
  unfolding ends found
  answer_ends = refl

  pub after_ends : (ends op s b).after ≡ (perform op s).work.after
  unfolding ends found
  after_ends = refl

  left_ends : (ends op s b).places_left_lem ≡ (perform op s).places_left_lem
  unfolding ends found
  left_ends = refl

  pub nodes_ends : (ends op s b).path_nodes ≡ (perform op s).work.handed.path_nodes
  unfolding ends found
  nodes_ends = refl

  script_ends : (ends op s b).buffers.script ≡ written (segmented (perform op s).work.script) b.script
  unfolding ends found
  script_ends = refl

  list_ends : (ends op s b).buffers.list ≡ listed (perform op s).work.handed.listing b.list
  unfolding ends found
  list_ends = refl

  pub copy_ends : (ends op s b).buffers.copy ≡ copy_after (perform op s).work.handed.copy b.copy
  unfolding ends found
  copy_ends = refl

-- ---- answered

module _ (op : Operation) (s : State) (b : Buffers) (h : (perform op s).answer ≡ 0) where
  ends_answered : ends op s b ≡ answering op s b
  ends_answered = ends-done op s b (sym (answer_is op s) ∙ h)

  pub hands_over : HandsOver op (perform op s).work (ends op s b)
  hands_over = rw (ends_answered, work_granted op s h) (granted_over op s b)

  pub answered : Fits op s → Answered op s (ends op s b)
  answered fit =
      let good = scripts op s fit.image fit.heads fit.numbers in
      record {
        entries = rw hands_over.0 (script_laws.read_back (length s.image) (segmented (perform op s).work.script) good.inside);
        carried_out = rw (hands_over.0, after_ends op s b) (good.carried_out h);
        pool = ap (λ (x : State). x.pool) (after_ends op s b);
        heads = ap (λ (x : State). x.heads) (after_ends op s b);
      }

-- ---- refused

-- nothing is handed back
refused_count : (s : State) (b : Buffers) {op : Operation} {n : ℕ} {s' : State} → Leaves s op n s' → s' ≡ leaves op s n → refusal (refusals op s) ≡ n → n ≢ 0
    → (ends op s b).count ≡ 0
unfolding ends found
refused_count s b {op} {n} (as_before c q) l e z = ap (λ (x : Ends). x.count) (ends-refused op s b n e z (sym l ∙ q))
refused_count s b (map_cleared im hs len zero) l e z = refl

module _ (op : Operation) (s : State) (b : Buffers) (h : (perform op s).answer ≢ 0) where
  pub refused : Refused op s b (ends op s b)
  unfolding ends found listed
  refused =
      let d = demand1.refused op s h in
      record {
        count = refused_count s b d.left (ap (λ (w : Work). w.after) (work_refused op s h)) (sym (answer_is op s)) h;
        places_left_lem = d.places_left_lem;
        path_nodes = ap (λ x. x.path_nodes) d.none_handed;
        script = rw d.no_store (segment_laws.none_written b.script);
        list = rw d.none_handed refl;
        copy = rw d.none_handed refl;
        after = rw d.no_store (ap (λ (im : List ℕ). state im (perform op s).work.after.pool (perform op s).work.after.heads)
            (sym (segment_laws.apply_none (perform op s).work.after.image)));
        left = d.left;
      }

-- ---- answered or refused

-- the list's words after the frames stay
drop_listed : (fs buffer : List ℕ) → drop (length fs) (listed fs buffer) ≡ drop (length fs) buffer
unfolding listed
drop_listed fs buffer = drop_at fs _ _ refl

module _ (op : Operation) (s : State) (b : Buffers) where
  handed_over : HandsOver op (perform op s).work (ends op s b)
  handed_over = elim (ℕ_discrete (perform op s).answer 0) [
    | yes h ↦ hands_over op s b h
    | no h ↦
        let d = demand1.refused op s h in
        let n = nothing_over (counted op) (ends op s b) (refused op s b h).count in
        rw (d.no_store, d.none_handed) (n.0 ∙ no_words, n.1, n.2)
  ]

  pub tells : Tells op s b (ends op s b)
  tells =
      let o = handed_over in
      let es = segmented (perform op s).work.script in
      record {
        number_due = rw (answer_ends op s b) (refusals_due op s);
        words = o.0;
        value = o.1;
        listing = o.2;
        places_left_lem = left_ends op s b;
        path_nodes = nodes_ends op s b;
        after = after_ends op s b;
        copied = λ ws e. copy_ends op s b ∙ ap (λ o. copy_after o b.copy) e;
        copy_stays = λ e. copy_ends op s b ∙ ap (λ o. copy_after o b.copy) e;
        script_tail = rw (o.0, script_ends op s b, script_laws.length_encode es) (script_laws.drop_written es b.script);
        list_tail = rw (o.2, list_ends op s b) (drop_listed (perform op s).work.handed.listing b.list);
      }

-- ---- the scratch map

module _ (op : Operation) (s : State) (b : Buffers) where
  scratch_ends : (ends op s b).buffers.scratch ≡ scratch_after (perform op s).cleared b.scratch
  unfolding ends found
  scratch_ends = refl

  pub scratch_cleared : Clears op (ends op s b) → Cleared b.scratch (ends op s b).buffers.scratch
  unfolding scratch_after
  scratch_cleared c =
      rw (scratch_ends, (demand1.scratch op s).1 (rw answer_ends at c))
      (record { same_length = pool_laws.length_clear (length b.scratch); zeros = pool_laws.clear_word (length b.scratch) })

  pub scratch_left : (Clears op (ends op s b) → ⊥) → (ends op s b).buffers.scratch ≡ b.scratch
  unfolding scratch_after
  scratch_left n = rw (scratch_ends, not-false (λ e. n (rw answer_ends ((demand1.scratch op s).0 e)))) refl

-- ---- a map of another length

-- the first that holds of the three checks, where the third does
early_number : List ℕ → ℕ
early_number image = cond (holds (bad_image (length image) (geometry_of (reads image)))) 1 (cond (holds (bad_edition (reads image))) 2 3)

-- an operation is refused with a number of at most 3, whatever the map has
record Early (op : Operation) (image heads : List ℕ) : Type 0 where
  number : ℕ
  low : Memᴰ number (1 ∷ 2 ∷ 3 ∷ [])
  is : (pool : List ℕ) → refusal (refusals op (state image pool heads)) ≡ number

one_of : (a b : Bool) → Memᴰ {A = ℕ} (cond a 1 (cond b 2 3)) (1 ∷ 2 ∷ 3 ∷ [])
one_of true b = Memᴰ.head refl
one_of false true = Memᴰ.tail (Memᴰ.head refl)
one_of false false = Memᴰ.tail (Memᴰ.tail (Memᴰ.head refl))

checks_only : {op : Operation} {heads : List ℕ} (image : List ℕ) → ((pool : List ℕ) → refusal (refusals op (state image pool heads)) ≡ early_number image)
    → Early op image heads
unfolding early_number
checks_only image is = record {
  number = early_number image;
  low = one_of (holds (bad_image (length image) (geometry_of (reads image)))) (holds (bad_edition (reads image)));
  is = is;
}

early : {image : List ℕ} {op : Operation} → OtherMap image op → (heads : List ℕ) → Early op image heads
unfolding refusals refusal early_number
early {image} (by_format {words} {slots} {nodes} {table} d) heads =
    let g : Geometry = record { slots = slots; nodes = nodes } in
    record {
      number = cond (holds (bad_image (length image) g)) 1 3;
      low = one_of (holds (bad_image (length image) g)) false;
      is = λ pool. rw (ne_eqb words (map_words g) d) refl;
    }
early {image} (by_recover {words} d) heads = checks_only image (λ pool. rw (ne_eqb words _ d) refl)
early {image} (by_open {words} d) heads = checks_only image (λ pool. rw (ne_eqb words _ d) refl)
early {image} (by_claim {words} d) heads = checks_only image (λ pool. rw (ne_eqb words _ d) refl)
early {image} (by_retire {words} d) heads = checks_only image (λ pool. rw (ne_eqb words _ d) refl)
early {image} (by_tidy {words} d) heads = checks_only image (λ pool. rw (ne_eqb words _ d) refl)

-- with such a number everything is left
stays : {s : State} {op : Operation} {n : ℕ} {s' : State} → Leaves s op n s' → n ≤ 3 → s' ≡ s
stays (as_before c q) l = q
stays (map_cleared im hs len zero) l = absurd (omega arith)

module _ (op : Operation) (s : State) (z : (perform op s).answer ≢ 0) (l : (perform op s).answer ≤ 3) where
  all_left : leaves op s (perform op s).answer ≡ s
  all_left = sym (ap (λ (w : Work). w.after) (work_refused op s z)) ∙ stays (demand1.refused op s z).left l

  scratch_kept : clears op (perform op s).answer ≡ false
  unfolding perform
  scratch_kept = elim (test (perform op s).cleared) [
    | inl e ↦ absurd (elim ((demand1.scratch op s).0 e).1 [ inl q ↦ z q | inr m ↦ omega arith ])
    | inr e ↦ e
  ]

  early_ends : (b : Buffers) → ends op s b ≡ ended (perform op s).answer 0 s b
  unfolding scratch_after
  early_ends b = ends-refused op s b (perform op s).answer (sym (answer_is op s)) z all_left ∙ rw scratch_kept refl

pub one_to_three : {n : ℕ} → Memᴰ n (1 ∷ 2 ∷ 3 ∷ []) → (n ≢ 0) × (n ≤ 3)
one_to_three (Memᴰ.head q) = omega arith
one_to_three (Memᴰ.tail (Memᴰ.head q)) = omega arith
one_to_three (Memᴰ.tail (Memᴰ.tail (Memᴰ.head q))) = omega arith
one_to_three (Memᴰ.tail (Memᴰ.tail (Memᴰ.tail x))) = elim x [ ]

pub unread : (op : Operation) (image pool heads : List ℕ) (b : Buffers) → OtherMap image op → Unread op image heads b (ends op (state image pool heads) b)
unread op image pool heads b o =
    let r = early o heads in
    let each : (pool' : List ℕ) → (perform op (state image pool' heads)).answer ≡ r.number = λ pool'. answer_is op (state image pool' heads) ∙ r.is pool' in
    let here : (ends op (state image pool heads) b).answer ≡ r.number = answer_ends op (state image pool heads) b ∙ each pool in
    record {
      number = rw here r.low;
      same = λ pool'. each pool' ∙ sym here;
      leaves_all = λ pool'.
          let w = one_to_three r.low in
          early_ends op (state image pool' heads) (rw (each pool') w.0) (rw (each pool') w.1) b ∙ rw (each pool', here) refl;
    }
