-- The chain, proved: from what a call hands the driver, answered or refused, to the step of a history that follows.
use mathlib.Core.Path.{◌≡◌, refl, sym, ◌∙◌, ap}
use mathlib.Core.Logic.{inl, inr, ◌≢◌}
use mathlib.Core.List.{List, [], ◌∷◌, Memᴰ}
use Prim.Native.Nat.{ℕ}
use native.Mathlib.Omega.{arith}
use lib.ListN.{length}
use lib.Dec.{eqb}
use borrow.Author.Tests.{eqb-true, eqb-false}
use Rattle.tree.specs.Memory.{reads, Module}
use Rattle.tree.specs.Test.{holds}
use Rattle.tree.specs.Layout.{bad_image, geometry_of}
use Rattle.tree.proofs.Cases.{test}
use Rattle.tree.specs.Fingerprint.{is_given}
use Rattle.book.specs.State.{State, Operation, format, recover, scratch_after}
use Rattle.book.specs.Checks.{refusals}
use Rattle.book.specs.Perform.{leaves, clears, perform}
use Rattle.book.specs.CarryOut.{carry}
use Rattle.book.specs.Table.{Table, empty_table, table_work, reply}
use Rattle.book.specs.Histories.{done, replied, Follows, formatted, started, performed}
use Rattle.book.proofs.Held.{at_once}
use Rattle.book.proofs.Demands.{demand1, demand2}
use Rattle.book.proofs.Done.{done_same}
use Rattle.book.proofs.Performed.{answer_is}
use Rattle.operations.specs.Ends.{Buffers, state, Ends, ended, ends}
use Rattle.operations.specs.Chain.{counted, next, Fits, OtherBuffer, another_length, to_format, Called, with_its_map, with_another, after_call, GoesOn, Chain}
use Rattle.operations.proofs.Endings.{refused as ends-refused}
use Rattle.operations.proofs.CallEnds.{none_carried, nothing_over, answer_ends, tells, answered, refused, scratch_cleared, scratch_left, one_to_three, unread}
use Rattle.operations.proofs.OnModule.{carried_there}

-- ---- the next state

-- nothing is carried out where there are no words
nothing_carried : (m : List ℕ) → (carry m []).image ≡ m
unfolding carry
nothing_carried m = elim (test (holds (bad_image (length m) (geometry_of (reads m))))) [ inl e ↦ rw e refl | inr e ↦ rw e (none_carried m) ]

-- answered or refused, the driver comes to the state of the step
pub steps : (op : Operation) (s : State) (b : Buffers) → Fits op s → next op (ends op s b) ≡ done op s
steps op s b fit = elim (test (eqb (perform op s).answer 0)) [
  | inl t ↦ let a = answered op s b (eqb-true (perform op s).answer 0 t) fit in rw (a.carried_out, a.pool, a.heads) refl
  | inr t ↦
      let r = refused op s b (eqb-false (perform op s).answer 0 t) in
      let n = nothing_over (counted op) (ends op s b) r.count in
      rw (n.0, nothing_carried (ends op s b).after.image) r.after
]

-- ---- in a history, with the book's map

goes_on : {on : Module} (op : Operation) (s : State) (t : Table) (b : Buffers) → Follows on s t → Fits op s → GoesOn on op s t (ends op s b) (next op (ends op s b))
goes_on op s t b f fit =
    let a = demand2.alike s t f op fit.numbers in
    let d = tells op s b in
    record {
      answer = answer_ends op s b ∙ a.answer;
      value = d.value ∙ a.value;
      listing = rw d.listing a.listing;
      follows = rw (steps op s b fit) (performed f op fit.numbers);
    }

-- ---- with another buffer

-- what a format answers goes by the image's length and by the map's: neither map nor heads is read
format_answer : (words : ℕ) (table : List ℕ) (slots nodes : ℕ) (image pool pool' heads heads' : List ℕ)
    → (perform (format words table slots nodes) (state image pool heads)).answer ≡ (perform (format words table slots nodes) (state image pool' heads')).answer
unfolding perform refusals
format_answer words table slots nodes image pool pool' heads heads' = refl

-- a format that is refused ends with everything as it was
format_ends : (words : ℕ) (table : List ℕ) (slots nodes : ℕ) (s : State) (b : Buffers) → (perform (format words table slots nodes) s).answer ≢ 0
    → ends (format words table slots nodes) s b ≡ ended (perform (format words table slots nodes) s).answer 0 s b
unfolding leaves clears scratch_after
format_ends words table slots nodes s b z =
    let op = format words table slots nodes in
    ends-refused op s b (perform op s).answer (sym (answer_is op s)) z refl

no_format_4 : {n : ℕ} → Memᴰ n (1 ∷ 3 ∷ 16 ∷ []) → n ≢ 4
no_format_4 (Memᴰ.head q) = omega arith
no_format_4 (Memᴰ.tail (Memᴰ.head q)) = omega arith
no_format_4 (Memᴰ.tail (Memᴰ.tail (Memᴰ.head q))) = omega arith
no_format_4 (Memᴰ.tail (Memᴰ.tail (Memᴰ.tail x))) = elim x [ ]

-- the number is the same with the book's map, and a refusal leaves everything
pub record SentBack (op : Operation) (s : State) (map : List ℕ) (b : Buffers) (e : Ends) : Type 0 where
  pub answer : e.answer ≡ (perform op s).answer
  pub is : e.answer ≢ 0 → e ≡ ended e.answer 0 (state s.image map s.heads) b
  pub stays : e.answer ≢ 0 → done op s ≡ s

pub sent_back : {op : Operation} {s : State} (map : List ℕ) (b : Buffers) → OtherBuffer s.image op
    → SentBack op s map b (ends op (state s.image map s.heads) b)
sent_back {op} {s} map b (another_length o) =
    let u = unread op s.image map s.heads b o in
    let n = one_to_three u.number in
    record {
      answer = sym (u.same s.pool);
      is = λ z. u.leaves_all map;
      stays = λ z. done_same op s (rw (u.same s.pool) z) (λ p. omega (arith, u.same s.pool, p, n.1));
    }
sent_back {s = s} map b (to_format {words} {slots} {nodes} {table}) =
    let op = format words table slots nodes in
    let s' = state s.image map s.heads in
    let q = answer_ends op s' b in
    let same = format_answer words table slots nodes s.image map s.pool s.heads s.heads in
    record {
      answer = q ∙ same;
      is = λ z.
          let h : (perform op s').answer ≢ 0 = λ p. z (q ∙ p) in
          format_ends words table slots nodes s' b h ∙ ap (λ n. ended n 0 s' b) (sym q);
      stays = λ z.
          let h : (perform op s).answer ≢ 0 = λ p. z (q ∙ same ∙ p) in
          done_same op s h (no_format_4 (demand1.refused op s h).number);
    }

-- a format that the table answers leaves it empty
pub format_table : (words : ℕ) (table : List ℕ) (slots nodes : ℕ) (s : State) (t : Table) → (replied (format words table slots nodes) s t).answer ≡ 0
    → (replied (format words table slots nodes) s t).work.after ≡ empty_table (is_given table) slots nodes
unfolding reply table_work
format_table words table slots nodes s t h = rw h refl

-- refused, it has its own map still, and comes to the state of the step
pub sent_back_next : {op : Operation} {s : State} {map : List ℕ} {b : Buffers} {e : Ends} → SentBack op s map b e → e.answer ≢ 0
    → state (next op e).image s.pool e.after.heads ≡ done op s
sent_back_next {op} {s} {e = e} x z =
    let n = nothing_over (counted op) e (ap (λ (y : Ends). y.count) (x.is z)) in
    let heads = ap (λ (y : Ends). y.after.heads) (x.is z) in
    let image = ap (λ (y : Ends). y.after.image) (x.is z) in
    rw (n.0, nothing_carried e.after.image, image, heads) (sym (x.stays z))

-- and is told what the table replies
sent_back_goes_on : {op : Operation} {s : State} {t : Table} {map : List ℕ} {b : Buffers} {e : Ends} {on : Module} → Follows on s t → Fits op s → SentBack op s map b e
    → e.answer ≢ 0 → GoesOn on op s t e (state (next op e).image s.pool e.after.heads)
sent_back_goes_on {op} {s} {t} {map} {b} {e} f fit x z =
    let a = demand2.alike s t f op fit.numbers in
    let d = demand1.refused op s (rw (← x.answer) z) in
    let n = nothing_over (counted op) e (ap (λ (y : Ends). y.count) (x.is z)) in
    record {
      answer = x.answer ∙ a.answer;
      value = n.1 ∙ sym (ap (λ x. x.value) d.none_handed) ∙ a.value;
      listing = rw n.2 (rw d.none_handed at a.listing);
      follows = rw (sent_back_next x z) (performed f op fit.numbers);
    }

-- a format that is answered starts the book anew, with the map that it was lent
format_goes_on : {on : Module} (words : ℕ) (table : List ℕ) (slots nodes : ℕ) (s : State) (t : Table) (map : List ℕ) (b : Buffers) {e : Ends} → Follows on s t → Fits (format words table slots nodes) s
    → e ≡ ends (format words table slots nodes) (state s.image map s.heads) b → e.answer ≡ 0
    → GoesOn on (format words table slots nodes) s t e (next (format words table slots nodes) e)
format_goes_on words table slots nodes s t map b {e} f fit q h =
    let op = format words table slots nodes in
    let s' = state s.image map s.heads in
    let own = goes_on op s t b f fit in
    let x = rw (← q) at (sent_back {op = op} {s = s} map b to_format) in
    let answer : e.answer ≡ (replied op s t).answer = x.answer ∙ (demand2.alike s t f op fit.numbers).answer in
    let h' : (perform op s').answer ≡ 0 = sym (answer_ends op s' b) ∙ sym (ap (λ (y : Ends). y.answer) q) ∙ h in
    let fit' : Fits op s' = record { image = fit.image; heads = fit.heads; numbers = fit.numbers } in
    record {
      answer = answer;
      value = own.value;
      listing = own.listing;
      follows = rw (format_table words table slots nodes s t (sym answer ∙ h), q, steps op s' b fit') (started (formatted words table slots nodes s' fit.image h'));
    }

-- one that is lent a map of another length is never answered
answered_another : {on : Module} (op : Operation) (s : State) (t : Table) (b : Buffers) (e : Ends) (map : List ℕ) → Follows on s t → Fits op s → OtherBuffer s.image op
    → e ≡ ends op (state s.image map s.heads) b → e.answer ≡ 0 → GoesOn on op s t e (next op e)
answered_another op s t b e map f fit (another_length o) q h =
    absurd ((one_to_three (unread op s.image map s.heads b o).number).0 (sym (ap (λ (y : Ends). y.answer) q) ∙ h))
answered_another op s t b e map f fit (to_format {words} {slots} {nodes} {table}) q h = format_goes_on words table slots nodes s t map b f fit q h

called_goes_on : {on : Module} (op : Operation) (s : State) (t : Table) (b : Buffers) (e : Ends) → Follows on s t → Fits op s → (c : Called op s b e)
    → GoesOn on op s t e (after_call c)
called_goes_on op s t b e f fit (with_its_map q) = rw q (goes_on op s t b f fit)
called_goes_on op s t b e f fit (with_another map o q) = elim (test (eqb e.answer 0)) [
  | inl r ↦ rw r (answered_another op s t b e map f fit o q (eqb-true e.answer 0 r))
  | inr r ↦ rw r (sent_back_goes_on f fit (rw (← q) at (sent_back {op = op} {s = s} map b o)) (eqb-false e.answer 0 r))
]

pub chain : Chain
chain = record {
  tells = λ op s b e q. rw q (tells op s b);
  answered = λ op s b e fit q h. rw q (answered op s b (sym (answer_ends op s b) ∙ sym (ap (λ (x : Ends). x.answer) q) ∙ h) fit);
  on_module = λ on op s b e buffer fit q room. rw q (carried_there op s b fit on buffer room);
  refused = λ op s b e q h. rw q (refused op s b (λ z. h (ap (λ (x : Ends). x.answer) q ∙ answer_ends op s b ∙ z)));
  scratch_cleared = λ op s b e q c. rw q (scratch_cleared op s b (rw q at c));
  scratch_left = λ op s b e q n. rw q (scratch_left op s b (rw q at n));
  other_map = λ op image pool heads b e o q. rw q (unread op image pool heads b o);
  starts = λ words table slots nodes s b e fit q h.
      let op = format words table slots nodes in
      let h' : (perform op s).answer ≡ 0 = sym (answer_ends op s b) ∙ sym (ap (λ (x : Ends). x.answer) q) ∙ h in
      rw (q, steps op s b fit) (started (formatted words table slots nodes s fit.image h'));
  starts_on = λ words s b e fit q h.
      let op = recover words in
      let h' : (perform op s).answer ≡ 0 = sym (answer_ends op s b) ∙ sym (ap (λ (x : Ends). x.answer) q) ∙ h in
      rw (q, steps op s b fit) (started (demand2.starts_on words s fit.image h' (done op s) (at_once words s h')));
  goes_on = called_goes_on;
}
