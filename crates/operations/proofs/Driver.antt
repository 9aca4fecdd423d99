-- A driver's whole history, proved: its cuts are those of histories, its calls of recover the recoveries there.
use mathlib.Core.Path.{◌≡◌, refl, sym, ◌∙◌, ap, subst}
use mathlib.Core.Bool.{Bool, true, false}
use mathlib.Core.Logic.{◌⊎◌, inl, inr, ◌≢◌}
use mathlib.Core.Option.{some}
use mathlib.Core.List.{List, []}
use Prim.Native.Nat.{ℕ, ◌≤◌}
use native.Mathlib.Omega.{arith}
use native.Mathlib.Decide.{ℕ_discrete}
use lib.ListN.{length, replicate}
use lib.Dec.{eqb}
use borrow.Author.Tests.{ne_eqb}
use Rattle.tree.specs.Memory.{reads, decode, segmented, Module, entries_on, EachLine}
use Rattle.tree.specs.Layout.{map_words, geometry_of}
use Rattle.tree.specs.Fingerprint.{is_given}
use Rattle.tree.specs.Pool.{clear_map}
use Rattle.tree.proofs.Memory.{segment_laws, module_laws}
use Rattle.tree.proofs.Cases.{some_inj, test, true_not_false}
use Rattle.tree.proofs.Laws.{pool_laws}
use Rattle.book.specs.Refusals.{refusal}
use Rattle.book.specs.State.{State, Operation, format, recover, query, has, convert, Work, copy_after}
use Rattle.book.specs.Checks.{refusals}
use Rattle.book.specs.Perform.{granted, leaves, perform}
use Rattle.book.specs.Table.{Table, frames_in, is_present, empty_table}
use Rattle.book.specs.Conversions.{Writes, written}
use Rattle.book.specs.PathNodes.{OpensReel, StaysSmall, Small}
use Rattle.book.specs.Histories.{carried_out, done, replied, Steady, answered_format, Interrupted, Attempts, Recovered, Follows, found, started, performed, before, after}
use Rattle.book.specs.Histories.{none_yet as no-attempt, refused as refused-attempt, interrupted as interrupted-attempt}
use Rattle.book.proofs.Demands.{demand1, demand2, demand3, scripts, placed, growth, tidying, path_nodes, conversions}
use Rattle.book.proofs.Performed.{work_granted}
use Rattle.book.proofs.Done.{refused_image}
use Rattle.book.proofs.Recovery.{recover_writes}
use Rattle.book.proofs.Held.{idle_held}
use Rattle.book.proofs.Witnesses.{not_steady}
use Rattle.operations.specs.Ends.{Buffers, no_buffers, state, Ends, ends}
use Rattle.operations.specs.Chain.{OtherMap, by_recover as lent-recover, by_open as lent-open, by_claim as lent-claim, by_retire as lent-retire, by_tidy as lent-tidy}
use Rattle.operations.specs.Chain.{counted, words_in, Fits, OtherBuffer, another_length, to_format, Called, with_its_map, with_another, after_call}
use Rattle.operations.specs.Driver.{CutShort, Flushed, RecoverEnds, Retries, none_yet, refused, cut_short, Recovers, Whole, as_before, as_after, Driven, formats, finds, calls, loses_power, KeptSmall, Survives, Stands, BorrowsMap, by_recover, by_open, by_claim, by_retire, by_tidy, Driver}
use Rattle.operations.proofs.CallEnds.{no_entries, nothing_over, answer_ends, after_ends, copy_ends, nodes_ends, one_to_three}
use Rattle.operations.proofs.OnModule.{entries_on_lem}
use Rattle.operations.proofs.Chain.{steps, sent_back, sent_back_next, format_table, chain}

-- ---- power lost

-- a call as histories have it: its answer, the image that it left, and the entries that its words are read as
record Performs (op : Operation) (s : State) (e : Ends) : Type 0 where
  answer : e.answer ≡ (perform op s).answer
  image : e.after.image ≡ (perform op s).work.after.image
  entries : decode (length s.image) (words_in (counted op) e) ≡ some (segmented (perform op s).work.script)
  few : length (segmented (perform op s).work.script) ≤ 25

-- no entry
none_few : length (segmented []) ≤ 25
none_few = rw segment_laws.no_segment (omega arith)

-- one that is refused hands out no words
performs_refused : {op : Operation} {s : State} {e : Ends} → e.answer ≡ (perform op s).answer → e.after.image ≡ (perform op s).work.after.image
    → e.count ≡ 0 → (perform op s).answer ≢ 0 → Performs op s e
performs_refused {op} {s} {e} q i c h = record {
  answer = q;
  image = i;
  entries = rw ((nothing_over (counted op) e c).0, (demand1.refused op s h).no_store) (no_entries _);
  few = rw (demand1.refused op s h).no_store none_few;
}

performs : (op : Operation) (s : State) (b : Buffers) → Fits op s → Performs op s (ends op s b)
performs op s b fit = elim (ℕ_discrete (perform op s).answer 0) [
  | yes h ↦ record {
    answer = answer_ends op s b;
    image = ap (λ (x : State). x.image) (after_ends op s b);
    entries = (chain.answered op s b (ends op s b) fit refl (answer_ends op s b ∙ h)).entries;
    few = (scripts op s fit.image fit.heads fit.numbers).short;
  }
  | no h ↦ performs_refused (answer_ends op s b) (ap (λ (x : State). x.image) (after_ends op s b))
      (chain.refused op s b (ends op s b) refl (λ z. h (sym (answer_ends op s b) ∙ z))).count h
]

-- a driver's cut is one of the history's
cut_interrupted : {op : Operation} {s : State} {e : Ends} {k : ℕ} {m : List ℕ} {on : Module} → Performs op s e → (c : CutShort on op s e k m)
    → Interrupted on op s k m × (c.entries ≡ entries_on on (segmented (perform op s).work.script))
cut_interrupted {op} {s} {on = on} p c =
    let same : c.entries ≡ entries_on on (segmented (perform op s).work.script) =
    some_inj (sym c.decoded ∙ entries_on_lem (length s.image) c.buffer _ (perform op s).work.script c.room p.few p.entries on) in (
      record {
        unsteady = λ x. c.unsteady (rw p.answer x);
        itself = c.itself;
        same_length = c.same_length;
        old_or_new = rw p.image at c.old_or_new;
        script = rw same at c.cut;
      },
      same,
    )

another_refused : {op : Operation} (s : State) (map : List ℕ) (b : Buffers) → OtherBuffer s.image op
    → (Steady op (ends op (state s.image map s.heads) b).answer → ⊥) → (ends op (state s.image map s.heads) b).answer ≢ 0
another_refused {op} s map b (another_length o) u z =
    (one_to_three (chain.other_map op s.image map s.heads b _ o refl).number).0 z
another_refused s map b to_format u z = u (rw z answered_format)

-- with another buffer it is refused; a format that is answered is on steady power
called_performs : {op : Operation} {s : State} {b : Buffers} {e : Ends} → Fits op s → Called op s b e → (Steady op e.answer → ⊥) → Performs op s e
called_performs {op} {s} {b} fit (with_its_map q) u = rw q (performs op s b fit)
called_performs {op} {s} {b} {e} fit (with_another map o q) u =
    let x = rw (← q) at (sent_back {op = op} {s = s} map b o) in
    let z : e.answer ≢ 0 = rw q (another_refused {op = op} s map b o (rw q at u)) in
    let h : (perform op s).answer ≢ 0 = rw (← x.answer) z in
    performs_refused x.answer (ap (λ (y : Ends). y.after.image) (x.is z) ∙ sym (refused_image op s h)) (ap (λ (y : Ends). y.count) (x.is z)) h

-- ---- recovery

-- work without a script leaves what it left
nothing_left : (w : Work) → w.script ≡ [] → carried_out w ≡ w.after
nothing_left w e = rw e (ap (λ (im : List ℕ). state im w.after.pool w.after.heads) (segment_laws.apply_none w.after.image))

module _ (words : ℕ) (s : State) (b : Buffers) where
  -- it hands out no words, and leaves the image that the history goes on with
  recover_performs : Performs (recover words) s (ends (recover words) s b)
  recover_performs = record {
    answer = answer_ends (recover words) s b;
    image = ap (λ (x : State). x.image) (after_ends (recover words) s b);
    entries = rw (recover_writes words s).script (no_entries _);
    few = rw (recover_writes words s).script none_few;
  }

  recover_after : (ends (recover words) s b).after ≡ done (recover words) s
  recover_after = after_ends (recover words) s b ∙ sym (nothing_left (perform (recover words) s).work (recover_writes words s).script)

retries_attempts : {on : Module} {m m' : List ℕ} → Retries on m m' → Attempts on m m'
retries_attempts none_yet = no-attempt
retries_attempts {m = m} {m' = m'} (refused map heads e q z r) =
    let s = state m map heads in
    let words = length map in
    let same : e.after.image ≡ (done (recover words) s).image =
    ap (λ (x : Ends). x.after.image) q ∙ ap (λ (x : State). x.image) (recover_after words s no_buffers) in
    refused-attempt words s refl (λ h. z (ap (λ (x : Ends). x.answer) q ∙ answer_ends (recover words) s no_buffers ∙ h)) (rw same at (retries_attempts r))
retries_attempts {m = m} (cut_short map heads e q k c r) =
    let s = state m map heads in
    let words = length map in
    interrupted-attempt words s k refl (cut_interrupted (rw q (recover_performs words s no_buffers)) c).0 (retries_attempts r)

recovers_recovered : {m : List ℕ} {s' : State} {on : Module} {lines : Flushed} → Recovers on lines m s' → Recovered on m s'
recovers_recovered r =
    let s = state r.image r.map r.heads in
    let words = length r.map in
    let q = r.contract in
    record {
      left = r.image;
      attempts = retries_attempts r.retries;
      words = words;
      from = s;
      image = refl;
      answered = sym (answer_ends (recover words) s no_buffers) ∙ sym (ap (λ (x : Ends). x.answer) q) ∙ r.answered;
      is = r.is ∙ ap (λ (x : Ends). x.after) q ∙ recover_after words s no_buffers;
    }

-- ---- a driver

module _ {on : Module} {op : Operation} {s : State} {t : Table} {b : Buffers} {e : Ends} {k : ℕ} {m : List ℕ} (f : Follows on s t) (fit : Fits op s) (call : Called op s b e)
    (c : CutShort on op s e k m) where
  cut : Interrupted on op s k m × (c.entries ≡ entries_on on (segmented (perform op s).work.script))
  cut = cut_interrupted (called_performs fit call c.unsteady) c

  whole_follows : {lines : Flushed} {s' : State} {t' : Table} → Recovers on lines m s' → Whole c.entries k t (replied op s t).work.after s' t' → Follows on s' t'
  whole_follows r (as_before p a) = before f op fit.numbers k cut.0 (recovers_recovered r) (rw cut.1 at p) a
  whole_follows r (as_after a) = after f op fit.numbers k cut.0 (recovers_recovered r) a

  survives : {lines : Flushed} → Survives on lines op s t e k m c
  survives =
      let lives = (demand3 s t f).survives op fit.numbers k m in
      record {
        accepted = λ m' map heads e' r q.
            ap (λ (x : Ends). x.answer) q ∙ answer_ends (recover (length map)) (state m' map heads) no_buffers
            ∙ (lives m' cut.0 (retries_attempts r)).accepted (length map) (state m' map heads) refl;
        whole = λ s' r. elim ((lives m cut.0 no-attempt).whole s' (recovers_recovered r)) [
          | inl y ↦ (_, as_before (rw cut.1 y.0) y.1)
          | inr y ↦ (_, as_after y)
        ];
      }

follows : {on : Module} {lines : Flushed} {s : State} {t : Table} → Driven on lines s t → Follows on s t
follows (formats words table slots nodes s b e fit q h w) = chain.starts words table slots nodes s b e fit q h
follows (finds v r) = started (found v (recovers_recovered r))
follows (calls {s} {t} d op b e fit c w) = (chain.goes_on op s t b e (follows d) fit c).follows
follows (loses_power d op b e fit call k c r w) = whole_follows (follows d) fit call c r w

stands : {on : Module} {lines : Flushed} (s : State) (t : Table) → Driven on lines s t → Stands on lines s t
stands s t d = let f = follows d in record {
  follows = f;
  agrees = (demand3 s t f).agrees;
  goes_on = λ op b e fit c. chain.goes_on op s t b e f fit c;
  alike = λ op fit. demand2.alike s t f op fit;
  places = placed s t f;
  growing = growth s t f;
  tidies = tidying s t f;
  survives = λ op b e fit call k m c. survives f fit call c;
}

-- ---- a reel that the driver has kept small

no_reel : (own : Bool) (slots nodes reel : ℕ) → is_present (empty_table own slots nodes) reel ≡ false
unfolding is_present frames_in empty_table
no_reel own slots nodes reel = refl

-- with another buffer, and with the reel there after it, it is refused: a format that is answered leaves no reel
another_reel : {op : Operation} {s : State} {t : Table} {e : Ends} {on : Module} (reel : ℕ) → Follows on s t → Fits op s → (map : List ℕ) (b : Buffers)
    → OtherBuffer s.image op → e ≡ ends op (state s.image map s.heads) b → is_present (replied op s t).work.after reel ≡ true → e.answer ≢ 0
another_reel {op} {s} {e = e} reel f fit map b (another_length o) q p h =
    (one_to_three (chain.other_map op s.image map s.heads b e o q).number).0 h
another_reel {s = s} {t} reel f fit map b (to_format {words} {slots} {nodes} {table}) q p h =
    let op = format words table slots nodes in
    let x = rw (← q) at (sent_back {op = op} {s = s} map b to_format) in
    let answered = sym (demand2.alike s t f op fit.numbers).answer ∙ sym x.answer ∙ h in
    true_not_false (rw (format_table words table slots nodes s t answered) at p) (no_reel (is_given table) slots nodes reel)

-- so the driver comes to the state of the step
called_next : {op : Operation} {s : State} {t : Table} {b : Buffers} {e : Ends} {on : Module} (reel : ℕ) → Follows on s t → Fits op s → (c : Called op s b e)
    → is_present (replied op s t).work.after reel ≡ true → after_call c ≡ done op s
called_next {op} {s} {b = b} reel f fit (with_its_map q) p = rw q (steps op s b fit)
called_next {op} {s} {b = b} reel f fit (with_another map o q) p =
    let z = another_reel reel f fit map b o q p in
    rw (ne_eqb _ 0 z) (sent_back_next (rw (← q) at (sent_back {op = op} {s = s} map b o)) z)

-- before a step that opens the reel any history does, before another one in which it is small
so_far : {reel : ℕ} {s : State} {t : Table} {op : Operation} {Before : Type 0} {on : Module} → OpensReel reel s op ⊎ Before → Follows on s t
    → (Before → (h : Follows on s t) × Small reel h) → (h : Follows on s t) × (OpensReel reel s op ⊎ Small reel h)
so_far (inl o) f small = (f, inl o)
so_far (inr x) f small = let y = small x in (y.0, inr y.1)

-- and one step on, cut short
whole_small : {op : Operation} {s s' : State} {t t' : Table} {b : Buffers} {e : Ends} {k : ℕ} {m : List ℕ} {Before : Type 0} {on : Module} {lines : Flushed} (f : Follows on s t)
    (fit : Fits op s) (call : Called op s b e) (c : CutShort on op s e k m) (reel : ℕ) → Recovers on lines m s'
    → Whole c.entries k t (replied op s t).work.after s' t' → StaysSmall reel op s t t' Before → OpensReel reel s op ⊎ Small reel f
    → (h : Follows on s' t') × Small reel h
whole_small {op} {k = k} f fit call c reel r (as_before p a) small x =
    let i = cut f fit call c in
    (before f op fit.numbers k i.0 (recovers_recovered r) (rw i.1 at p) a, (small.0, small.1, x))
whole_small {op} {k = k} f fit call c reel r (as_after a) small x =
    (after f op fit.numbers k (cut f fit call c).0 (recovers_recovered r) a, (small.0, small.1, x))

-- so the history that it follows is one in which the reel was opened and has stayed small
small_history : {on : Module} {lines : Flushed} {s : State} {t : Table} (d : Driven on lines s t) (reel : ℕ) → KeptSmall reel d → (h : Follows on s t) × Small reel h
small_history (formats words table slots nodes s b e fit q h w) reel p = absurd p
small_history (finds v r) reel p = absurd p
small_history {on = on} (calls {s} {t} d op b e fit c w) reel p =
    let x = so_far p.2 (follows d) (λ y. small_history d reel y) in
    subst (λ s'. (h : Follows on s' (replied op s t).work.after) × Small reel h) (sym (called_next reel x.0 fit c p.0))
    (performed x.0 op fit.numbers, (p.0, p.1, x.1))
small_history (loses_power {s} {t = t} d op b e fit call k c r w) reel p =
    let x = so_far p.2 (follows d) (λ y. small_history d reel y) in
    whole_small x.0 fit call c reel r w p x.1

one_node : {s : State} {t : Table} {on : Module} {lines : Flushed} (d : Driven on lines s t) (reel f : ℕ) (b : Buffers) (e : Ends) → KeptSmall reel d → Fits (query (has reel f)) s
    → e ≡ ends (query (has reel f)) s b → e.path_nodes ≡ 1
one_node {s} d reel f b e p fit q =
    let x = small_history d reel p in
    ap (λ (y : Ends). y.path_nodes) q ∙ nodes_ends (query (has reel f)) s b ∙ path_nodes.one x.0 reel f fit.numbers x.1

-- ---- not too small

-- a history's crash is one of the driver's cuts
interrupted_cut : {op : Operation} {s : State} {e : Ends} {k : ℕ} {m : List ℕ} {on : Module} → Performs op s e → Interrupted on op s k m → CutShort on op s e k m
interrupted_cut {op} {s} {on = on} p c = record {
  unsteady = λ x. c.unsteady (rw (← p.answer) x);
  itself = c.itself;
  same_length = c.same_length;
  old_or_new = rw (← p.image) at c.old_or_new;
  buffer = replicate 98 0;
  room = omega arith;
  entries = entries_on on (segmented (perform op s).work.script);
  decoded = entries_on_lem (length s.image) (replicate 98 0) _ (perform op s).work.script (omega arith) p.few p.entries on;
  cut = c.script;
}

-- a recovery reads no map: one of the length that it was lent does as well
module _ (words : ℕ) (s : State) where
  abbrev lent : State
  lent = state s.image (clear_map words) s.heads

  length_lent : length lent.pool ≡ words
  length_lent = pool_laws.length_clear words

  same_answer : (perform (recover words) lent).answer ≡ (perform (recover words) s).answer
  unfolding perform refusals
  same_answer = refl

  same_image : (perform (recover words) lent).work.after.image ≡ (perform (recover words) s).work.after.image
  unfolding perform refusals granted leaves
  same_image = elim (test (eqb (refusal (refusals (recover words) s)) 0)) [
    | inl a ↦ rw a refl
    | inr a ↦ elim (test (eqb (refusal (refusals (recover words) s)) 4)) [ inl b ↦ rw (a, b) refl | inr b ↦ rw (a, b) refl ]
  ]

  same_granted : granted (recover words) lent ≡ granted (recover words) s
  unfolding granted
  same_granted = refl

  same_done : (perform (recover words) s).answer ≡ 0 → done (recover words) lent ≡ done (recover words) s
  same_done h = ap carried_out (work_granted (recover words) lent (same_answer ∙ h) ∙ same_granted ∙ sym (work_granted (recover words) s h))

  -- the image that the call leaves is the one that the history goes on with
  lent_image : (ends (recover words) lent no_buffers).after.image ≡ (done (recover words) s).image
  lent_image =
      ap (λ (x : State). x.image) (after_ends (recover words) lent no_buffers) ∙ same_image
      ∙ ap (λ (x : State). x.image) (sym (nothing_left (perform (recover words) s).work (recover_writes words s).script))

  lent_interrupted : {k : ℕ} {m : List ℕ} {on : Module} → Interrupted on (recover words) s k m → Interrupted on (recover words) lent k m
  lent_interrupted c = record {
    unsteady = λ x. elim x [ ];
    itself = c.itself;
    same_length = c.same_length;
    old_or_new = rw same_image c.old_or_new;
    script = rw ((recover_writes words lent).script, ← (recover_writes words s).script) c.script;
  }

  -- what the contract says of that call
  lent_contract : RecoverEnds s.image (clear_map words) s.heads (ends (recover words) lent no_buffers)
  lent_contract = rw length_lent refl

attempts_retries : {on : Module} {m m' : List ℕ} → Attempts on m m' → Retries on m m'
attempts_retries no-attempt = none_yet
attempts_retries (refused-attempt words s q z a) =
    let e = ends (recover words) (lent words s) no_buffers in
    let said = answer_ends (recover words) (lent words s) no_buffers ∙ same_answer words s in
    rw (← q) (refused (clear_map words) s.heads e (lent_contract words s) (λ h. z (sym said ∙ h)) (rw (← lent_image words s) at (attempts_retries a)))
attempts_retries {on = on} (interrupted-attempt {m' = x} words s k q c a) =
    let e = ends (recover words) (lent words s) no_buffers in
    let cut : CutShort on (recover (length (clear_map words))) (lent words s) e k x =
    rw (length_lent words s) (interrupted_cut (recover_performs words (lent words s) no_buffers) (lent_interrupted words s c)) in
    rw (← q) (cut_short (clear_map words) s.heads e (lent_contract words s) k cut (attempts_retries a))

recovered_recovers : {m : List ℕ} {s' : State} {on : Module} {lines : Flushed} → ((before after : List ℕ) → EachLine before (lines before after)) → Recovered on m s' → Recovers on lines m s'
recovered_recovers {on = on} {lines} every r =
    let words = r.words in
    let s = r.from in
    let e = ends (recover words) (lent words s) no_buffers in
    record {
      image = s.image;
      retries = rw r.image (attempts_retries r.attempts);
      map = clear_map words;
      heads = s.heads;
      e = e;
      contract = lent_contract words s;
      answered = answer_ends (recover words) (lent words s) no_buffers ∙ same_answer words s ∙ r.answered;
      lasts = module_laws.each_line_lasts on _ _ _ (every _ _);
      is = r.is ∙ sym (same_done words s r.answered) ∙ sym (recover_after words (lent words s) no_buffers);
    }

-- the words that a conversion writes
copy_of : {op : Operation} {s : State} {ws : List ℕ} → Writes op s ws → (perform op s).work.handed.copy ≡ some ws
copy_of (written h c) = c

other_map : {image : List ℕ} {op : Operation} {words : ℕ} → BorrowsMap op words → words ≢ map_words (geometry_of (reads image)) → OtherMap image op
other_map by_recover d = lent-recover d
other_map by_open d = lent-open d
other_map by_claim d = lent-claim d
other_map by_retire d = lent-retire d
other_map by_tidy d = lent-tidy d

pub driver : {on : Module} {lines : Flushed} → Driver on lines
driver {on} {lines} = record {
  stands = stands;
  starts = λ words table slots nodes s b e fit q h w. formats words table slots nodes s b e fit q h w;
  starts_on = λ image map heads e fit q h s r.
      let answered = sym (answer_ends (recover (length map)) (state image map heads) no_buffers) ∙ sym (ap (λ (x : Ends). x.answer) q) ∙ h in
      subst (Driven on lines s) (idle_held image) (finds ((demand2 {on = on}).shown (length map) (state image map heads) fit answered) r);
  converts = λ scratch copy s s' t b e d q h lasting r.
      let op = query (convert scratch copy) in
      let answered = sym (answer_ends op s b) ∙ sym (ap (λ (x : Ends). x.answer) q) ∙ h in
      let w = (conversions {on = on}).answered scratch copy s answered in
      let copied = ap (λ (x : Ends). x.buffers.copy) q ∙ copy_ends op s b ∙ ap (λ o. copy_after o b.copy) (copy_of w.1) in
      finds (conversions.shows s t w.0 (stands s t d).follows (record { by = op; writes = w.1 })) (rw copied at r);
  one_node = one_node;
  small_calls = λ d reel op b e fit c w x l p. (p, l, x);
  small_cuts = λ d reel op b e fit call k c r w x l p. (p, l, x);
  accepted = λ m m' map heads t e v r q.
      ap (λ (x : Ends). x.answer) q ∙ answer_ends (recover (length map)) (state m' map heads) no_buffers
      ∙ demand2.accepted m m' t v (retries_attempts r) (length map) (state m' map heads) refl;
  left_out = λ op s e own i by h made changed out ended. module_laws.left_out _ _ _ own i made changed out (ended by h);
  all_met = record {
    every_cut = λ op s e k itself m buffer es h l o room d c.
        record { unsteady = not_steady h; itself = itself; same_length = l; old_or_new = o; buffer = buffer; room = room; entries = es; decoded = d; cut = c };
    cuts = λ op s b e k m fit q c. interrupted_cut (rw q (performs op s b fit)) c;
    each_line = λ every before after. module_laws.each_line_lasts on before after _ (every before after);
    any_words = λ op s image heads numbers. record { image = image; heads = heads; numbers = numbers };
    its_map = λ op s b e q. with_its_map q;
    other_length = λ op words s b e borrows d map q. with_another map (another_length (other_map borrows d)) q;
    format_lent = λ words slots nodes table s b e map q. with_another map to_format q;
    retries = λ m m' a. attempts_retries a;
    recovers = λ every m s' r. recovered_recovers every r;
  };
}
