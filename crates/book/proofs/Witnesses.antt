-- That the model of histories is not too small.
use mathlib.Core.Path.{◌≡◌, refl, ◌∙◌, ap}
use mathlib.Core.Logic.{◌⊎◌, inl, inr, ◌≢◌}
use mathlib.Core.List.Memᴰ
use mathlib.Core.List.{List, [], ◌∷◌, Memᴰ}
use Prim.Native.Nat.{ℕ, ◌<◌}
use native.Mathlib.Omega.{arith}
use native.Mathlib.Decide.{ℕ_discrete, dec_lt}
use lib.ListN.{length, set, length-set}
use lib.Seq.{get_or-set_same, get_or-set_other, set_out}
use borrow.Author.Tests.{eq-eqb}
use Rattle.tree.specs.Memory.{reads, Store, store, segmented, apply, CrashImage, Torn, passed, plain, Module, Fit}
use Rattle.tree.specs.declared.layout.Geometry.{Geometry}
use Rattle.tree.specs.Layout.{map_words, reel_at, geometry_of}
use Rattle.tree.specs.Slots.{empty_slot}
use Rattle.tree.specs.Lookup.{free_run}
use Rattle.tree.proofs.Memory.{segment_laws, crash_laws}
use Rattle.book.specs.State.{State, Operation, format, recover, open_reel, claim, fill, commit, abandon, remove, retire, tidy, query, has, list, convert, arguments}
use Rattle.book.specs.Perform.{new_node, open_script, granted, perform}
use Rattle.book.specs.Table.{Table, all_idle}
use Rattle.book.specs.Agrees.{Agrees}
use Rattle.book.specs.Histories.{done, replied, Steady, answered_format, Interrupted, Attempts, none_yet, refused, interrupted, Recovered, crashed, Follows, performed, before, after}
use Rattle.book.specs.Demands.{Demand3}
use Rattle.book.specs.Heads.{head_count}
use Rattle.book.specs.Witnesses.{CommitCut, all_claimed, four_open, FourClaims, GoesOn, NumbersFit, Witnesses}
use Rattle.book.proofs.Performed.{work_granted}
use Rattle.book.proofs.StepRead.{query_after}
use Rattle.book.proofs.OldBook.{old_book_lem}
use Rattle.book.proofs.ConvertedBook.{converted_book}
use Rattle.book.proofs.Sample.{words_fit, computed, four_follows, told_apart, other_geometry}

-- ---- power lost within an operation

-- in its script
pub cut_script : {op : Operation} {s : State} {k : ℕ} {m' : List ℕ} → (Steady op (perform op s).answer → ⊥)
    → CrashImage s.image (segmented (perform op s).work.script) k m' → Interrupted plain op s k m'
cut_script {s = s} u c = record { unsteady = u; itself = s.image; same_length = refl; old_or_new = λ i. inl refl; script = c }

-- before the first entry
pub cut_first : {op : Operation} {s : State} → (Steady op (perform op s).answer → ⊥) → Interrupted plain op s 0 s.image
cut_first u = cut_script u ((crash_laws.none_yet _ _ _).1 refl)

-- in one that writes the image itself: any mixture of old and new words
pub cut_itself : {op : Operation} {s : State} (im : List ℕ) → (Steady op (perform op s).answer → ⊥) → length im ≡ length s.image
    → ((i : ℕ) → (reads im i ≡ reads s.image i) ⊎ (reads im i ≡ reads (perform op s).work.after.image i)) → Interrupted plain op s 0 im
cut_itself im u l e = record { unsteady = u; itself = im; same_length = l; old_or_new = e; script = (crash_laws.none_yet im _ im).1 refl }

second_crash : (on : Module) (s s' : State) (m m' : List ℕ) (words k : ℕ) → s.image ≡ m → Interrupted on (recover words) s k m' → Recovered on m' s' → Recovered on m s'
second_crash on s s' m m' words k q c r = record {
  left = r.left;
  attempts = interrupted words s k q c r.attempts;
  words = r.words;
  from = r.from;
  image = r.image;
  answered = r.answered;
  is = r.is;
}

-- ---- Open: the reel number kept, the five stores before it lost

-- one store of a segment kept, the others lost
kept_one : {m : List ℕ} {seg : List Store} {i v : ℕ} → Memᴰ (i, v) seg → Torn m seg (set m i v)
kept_one {m} {i = i} {v = v} x = record {
  same_length = length-set m i v;
  each = λ j. elim (ℕ_discrete j i) [
    | no e ↦ inl (get_or-set_other m i j v 0 e)
    | yes e ↦ elim (dec_lt i (length m)) [
      | no l ↦ inl (ap (λ w. reads w j) (set_out m i v (omega arith)))
      | yes l ↦ inr (rw (e, get_or-set_same m i v 0 l) x)
    ]
  ];
}

reel_kept : (m : List ℕ) (g : Geometry) (slot n reel : ℕ) → CrashImage m (segmented (open_script g slot n reel)) 6 (set m (reel_at slot) reel)
unfolding open_script
reel_kept m g slot n reel = crash_laws.torn_possible m _ _ _ (kept_one (Memᴰ.append_right (new_node g n 0 16) (Memᴰ.head refl)))

open_script_lem : (words script reel : ℕ) (s : State) → (perform (open_reel words script reel) s).answer ≡ 0
    → let m = reads s.image in let g = geometry_of m in
    (perform (open_reel words script reel) s).work.script ≡ open_script g (empty_slot g m) (free_run g (reads s.pool) 1) reel
unfolding granted
open_script_lem words script reel s h = ap (λ w. w.script) (work_granted (open_reel words script reel) s h)

later_kept : (s : State) (words script reel : ℕ) → (perform (open_reel words script reel) s).answer ≡ 0
    → Interrupted plain (open_reel words script reel) s 6 (set s.image (reel_at (empty_slot (geometry_of (reads s.image)) (reads s.image))) reel)
later_kept s words script reel h = cut_script (λ u. elim u [ ]) (rw (open_script_lem words script reel s h) (reel_kept s.image _ _ _ reel))

-- ---- Commit: its one store, and a barrier

commit_store : (s : State) (script h : ℕ) → (perform (commit script h) s).answer ≡ 0
    → (w : Store) × ((perform (commit script h) s).work.script ≡ (w ∷ []) ∷ []) × ((perform (commit script h) s).work.after.image ≡ s.image)
unfolding granted
commit_store s script h e = let w = work_granted (commit script h) s e in (_, ap (λ w. w.script) w, ap (λ w. w.after.image) w)

cut_last : (m : List ℕ) (w : Store) → CrashImage m (segmented ((w ∷ []) ∷ [])) 2 (apply m (segmented ((w ∷ []) ∷ [])))
cut_last m w = rw (segment_laws.fenced_one w) ((crash_laws.all_done m (store w.0 w.1 ∷ []) _).1 refl)

module _ (s : State) (script h : ℕ) (e : (perform (commit script h) s).answer ≡ 0) where
  commit_done : Interrupted plain (commit script h) s 2 (done (commit script h) s).image
  commit_done = let c = commit_store s script h e in cut_script (λ u. elim u [ ]) (rw (c.1, c.2) (cut_last s.image c.0))

  -- its store issued and lost
  commit_lost : Interrupted plain (commit script h) s 1 s.image
  commit_lost =
      let c = commit_store s script h e in
      cut_script (λ u. elim u [ ]) (rw c.1 (crash_laws.torn_possible s.image (c.0 ∷ []) [] s.image (record { same_length = refl; each = λ i. inl refl })))

  commit_left : passed (segmented (perform (commit script h) s).work.script) 1 → ⊥
  commit_left p = let c = commit_store s script h e in crash_laws.left_to_pass 1 (c.0 ∷ []) [] (omega arith) (rw c.1 at p)

-- ---- every history agrees with its table: what follows from demand 3

-- after any crash and any attempts there is a recovery that ends, and a history goes on from it
goes_on : {on : Module} → Demand3 on → (s : State) (t : Table) → Follows on s t → (op : Operation) → Fit (arguments op) → (k : ℕ) (m m' : List ℕ) → Interrupted on op s k m
    → Attempts on m m' → GoesOn on m'
goes_on {on} kept s t f op fit k m m' c a =
    let v = (kept s t f).survives op fit k m in
    let n = map_words (geometry_of (reads m')) in
    let from : State = record { image = m'; pool = []; heads = [] } in
    let h : (perform (recover n) from).answer ≡ 0 = (v m' c a).accepted n from refl ∙ rw (eq-eqb n n refl) in
    let r : Recovered on m (done (recover n) from) = record { left = m'; attempts = a; words = n; from = from; image = refl; answered = h; is = refl } in
    let end : (t' : Table) × Follows on (done (recover n) from) t' = elim ((v m c none_yet).whole _ r) [
      | inl p ↦ (all_idle t, before f op fit k c r p.0 p.1)
      | inr q ↦ (all_idle (replied op s t).work.after, after f op fit k c r q)
    ] in
    record {
      state = done (recover n) from;
      table = end.0;
      recovered = record { left = m'; attempts = none_yet; words = n; from = from; image = refl; answered = h; is = refl };
      follows = end.1;
    }

module _ (kept : Demand3 plain) where
  -- a recovery of the image that a history has come to: the table is as it was, every head idle
  recovery : {s : State} {t : Table} → Follows plain s t → (s' : State) × Recovered plain s.image s' × Agrees s' (all_idle t)
  recovery {s} {t} f =
      let fit = words_fit (0 ∷ 0 ∷ []) (omega arith) in
      let c = cut_first {op = query (has 0 0)} {s = s} (λ u. elim u [ ]) in
      let r = goes_on kept s t f (query (has 0 0)) fit 0 _ _ c none_yet in (
        r.state,
        r.recovered,
        elim (((kept s t f).survives (query (has 0 0)) fit 0 _ _ c none_yet).whole _ r.recovered) [ inl p ↦ p.1 | inr a ↦ rw (query_after (has 0 0) _ t) at a ],
      )

  commit_cut : (s : State) (t : Table) → Follows plain s t → (script h : ℕ) → h < head_count → (perform (commit script h) s).answer ≡ 0
      → CommitCut s t script h
  commit_cut s t f script h l e =
      let b = recovery f in
      let a = recovery (performed f (commit script h) (words_fit (h ∷ []) (omega arith))) in
      record {
        before = (b.0, record { left = s.image; interrupted = commit_lost s script h e; recovered = b.1 }, commit_left s script h e, b.2);
        after = (a.0, record { left = (done (commit script h) s).image; interrupted = commit_done s script h e; recovered = a.1 }, a.2);
      }

  four_claims : FourClaims
  four_claims = record {
    history = four_follows;
    no_fifth = computed.no_fifth;
    answered = computed.answered;
    cut = commit_cut all_claimed four_open four_follows 50 3 (omega arith) computed.answered;
    told_apart = told_apart kept (record { words = omega arith; head = omega arith; absent = computed.absent; present = computed.present });
    recovers = computed.recovers;
    all_old = computed.all_old;
    all_new = computed.all_new;
    all_idle_lem = computed.all_idle_lem;
  }

-- no operation but an answered format is on steady power
pub not_steady : {op : Operation} {n : ℕ} → ((words slots nodes : ℕ) (table : List ℕ) → op ≡ format words table slots nodes → n ≢ 0) → Steady op n → ⊥
not_steady h (answered_format {words} {slots} {nodes} {table}) = h words slots nodes table refl refl

-- an operation's numbers are words
numbers_fit : (op : Operation) → NumbersFit op → Fit (arguments op)
numbers_fit (format map table slots nodes) w = words_fit (slots ∷ nodes ∷ []) (w.0, (w.1, tt))
numbers_fit (recover map) w = words_fit [] tt
numbers_fit (open_reel map script reel) w = words_fit (reel ∷ []) (w, tt)
numbers_fit (claim map script h reel f) w = words_fit (h ∷ reel ∷ f ∷ []) (w.0, (w.1, (w.2, tt)))
numbers_fit (fill script h) w = words_fit (h ∷ []) (w, tt)
numbers_fit (commit script h) w = words_fit (h ∷ []) (w, tt)
numbers_fit (abandon script h) w = words_fit (h ∷ []) (w, tt)
numbers_fit (remove script reel f) w = words_fit (reel ∷ f ∷ []) (w.0, (w.1, tt))
numbers_fit (retire map scratch script reel) w = words_fit (reel ∷ []) (w, tt)
numbers_fit (tidy map scratch script reel) w = words_fit (reel ∷ []) (w, tt)
numbers_fit (query (has reel f)) w = words_fit (reel ∷ f ∷ []) (w.0, (w.1, tt))
numbers_fit (query (list scratch room reel)) w = words_fit (reel ∷ []) (w, tt)
numbers_fit (query (convert scratch copy)) w = words_fit [] tt

-- all of them, where every history agrees with its table through every crash
pub witnesses_from : ((on : Module) → Demand3 on) → Witnesses
witnesses_from demand3 = let kept = demand3 plain in record {
  cuts = λ on op s k itself m h l e c. record { unsteady = not_steady h; itself = itself; same_length = l; old_or_new = e; script = c };
  none_tried = λ on m. none_yet;
  refused_tried = λ on words s m h a. refused words s refl h a;
  cut_tried = λ on words s k m m' c a. interrupted words s k refl c a;
  ends_there = λ on m words s a h. record { left = s.image; attempts = a; words = words; from = s; image = refl; answered = h; is = refl };
  any_numbers = numbers_fit;
  done_next = λ on op s fit. performed op fit;
  crash_next = λ on op s s' k m fit c r. crashed op fit k c r;
  commit_cut = commit_cut kept;
  four_claims = four_claims kept;
  later_kept = later_kept;
  mixed = λ s words image. cut_itself image (λ u. elim u [ ]);
  second_crash = second_crash;
  goes_on = λ on. goes_on (demand3 on);
  old_book_lem = old_book_lem;
  converted_book = converted_book;
  other_geometry = other_geometry;
}
