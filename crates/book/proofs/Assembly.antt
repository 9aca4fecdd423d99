-- Demands 2 and 3 from what each operation does to a book that agrees with a table.
use mathlib.Core.Path.{◌≡◌, refl, sym, ◌∙◌, ap, subst}
use mathlib.Core.Bool.{Bool, cond}
use mathlib.Core.Logic.{◌⊎◌, inl, inr, ◌≢◌}
use mathlib.Core.List.{List}
use Prim.Native.Nat.{ℕ}
use native.Mathlib.Decide.{ℕ_discrete}
use lib.Seq.{ext_get_or}
use lib.Dec.{eqb}
use Rattle.tree.specs.Memory.{reads, segmented, apply, CrashImage, passed, Module, entries_on, ours_on, Fit}
use Rattle.tree.specs.declared.layout.Geometry.{Geometry}
use Rattle.tree.specs.Layout.{map_words, geometry_of}
use Rattle.tree.specs.Fingerprint.{is_given}
use Rattle.tree.proofs.Memory.{crash_laws, crash_none, passed_or, module_laws}
use Rattle.book.specs.State.{State, Operation, format, recover, open_reel, claim, fill, commit, abandon, remove, retire, tidy, query, Query, arguments}
use Rattle.book.specs.Perform.{granted, perform}
use Rattle.book.specs.Table.{Table, Reel, geometry, fed, table_work, empty_table, all_idle}
use Rattle.book.specs.Agrees.{Shows, Agrees}
use Rattle.book.specs.Histories.{carried_out, done, replied, answered_format, Interrupted, Attempts, Recovered, Follows, formatted, found, started, performed, before, after}
use Rattle.book.specs.Demands.{Demand2, Survives, Demand3}
use Rattle.book.proofs.Modules.{our_crash}
use Rattle.book.proofs.Performed.{work_granted, reply_granted, reply_refused}
use Rattle.book.proofs.Demand1.{demand1}
use Rattle.book.proofs.Done.{done_granted, refused_image, done_same}
use Rattle.book.proofs.View.{View}
use Rattle.book.proofs.Step.{Step}
use Rattle.book.proofs.Showing.{shows_view}
use Rattle.book.proofs.Reading.{same_geometry}
use Rattle.book.proofs.Alike.{alike}
use Rattle.book.proofs.Settled.{idle_table_lem}
use Rattle.book.proofs.Formatted.{format_agrees, format_starts}
use Rattle.book.proofs.Held.{held_shown, held_starts}
use Rattle.book.proofs.Recovery.{recover_answers, interrupted_view, recovered_agrees, attempts_view, recovered_view}

-- ---- what is assumed of each operation

-- the operations that do not write the image themselves
pub data Scripted : Operation → Type 0 where
  opens : {words script reel : ℕ} → Scripted (open_reel words script reel)
  claims : {words script h reel f : ℕ} → Scripted (claim words script h reel f)
  fills : {script h : ℕ} → Scripted (fill script h)
  commits : {script h : ℕ} → Scripted (commit script h)
  abandons : {script h : ℕ} → Scripted (abandon script h)
  removes : {script reel f : ℕ} → Scripted (remove script reel f)
  retires : {words scratch script reel : ℕ} → Scripted (retire words scratch script reel)
  tidies : {words scratch script reel : ℕ} → Scripted (tidy words scratch script reel)
  asks : {q : Query} → Scripted (query q)

pub record Steps : Type 0 where
  pub step : {s : State} {t : Table} {op : Operation} → Agrees s t → Scripted op → Fit (arguments op) → (perform op s).answer ≡ 0 → Step op s t

-- ---- the three kinds of operation

pub data Kind : Operation → Type 0 where
  formats : {words slots nodes : ℕ} {table : List ℕ} → Kind (format words table slots nodes)
  recovers : {words : ℕ} → Kind (recover words)
  scripted : {op : Operation} → Scripted op → Kind op

pub kind : (op : Operation) → Kind op
kind (format words table slots nodes) = formats
kind (recover words) = recovers
kind (open_reel words script reel) = scripted opens
kind (claim words script h reel f) = scripted claims
kind (fill script h) = scripted fills
kind (commit script h) = scripted commits
kind (abandon script h) = scripted abandons
kind (remove script reel f) = scripted removes
kind (retire words scratch script reel) = scripted retires
kind (tidy words scratch script reel) = scripted tidies
kind (query q) = scripted asks

pub granted_image : {op : Operation} (s : State) → Scripted op → (granted op s).after.image ≡ s.image
unfolding granted
granted_image s opens = refl
granted_image s claims = refl
granted_image s fills = refl
granted_image s commits = refl
granted_image s abandons = refl
granted_image s removes = refl
granted_image s asks = refl
granted_image s retires = refl
granted_image s tidies = refl

-- what the table becomes by an operation that is no script's
table_format : (words : ℕ) (table : List ℕ) (slots nodes : ℕ) (t : Table) → (table_work (format words table slots nodes) t).after ≡ empty_table (is_given table) slots nodes
unfolding table_work
table_format words table slots nodes t = refl

table_recover : (words : ℕ) (t : Table) → (table_work (recover words) t).after ≡ all_idle t
unfolding table_work
table_recover words t = refl

-- ---- tables shown, as views

-- an image with a table's geometry, with its own table if one was given, and its reels
abbrev Seen : List ℕ → Table → Type 0
Seen m t = View (geometry t) t.own m t.reels

idle_seen : {m : List ℕ} (t : Table) → Seen m t → Seen m (all_idle t)
unfolding all_idle
idle_seen t v = v

-- the state before an interrupted operation that does not write the image
pub itself_same : {op : Operation} {s : State} {k : ℕ} {m : List ℕ} {on : Module} (c : Interrupted on op s k m) → (perform op s).work.after.image ≡ s.image → c.itself ≡ s.image
itself_same {s = s} c q =
    ext_get_or 0 c.itself s.image c.same_length (λ i l. elim (c.old_or_new i) [ inl e ↦ e | inr e ↦ e ∙ ap (λ m. reads m i) q ])

seen : {m : List ℕ} {t : Table} → Shows m t → Seen m t
seen {m} {t} h = subst (λ g. View g t.own m t.reels) (same_geometry h) (shows_view h)

-- what a recovery then answers and leaves
accepted : {g : Geometry} {o : Bool} {m : List ℕ} {rs : List Reel} → View g o m rs → (words : ℕ) (r : State) → r.image ≡ m
    → (perform (recover words) r).answer ≡ cond (eqb words (map_words (geometry_of (reads m)))) 0 3
accepted {g} {o = o} {rs = rs} v words r q = rw v.header.geometry (recover_answers {g = g} {o = o} {rs = rs} r (rw q v) words)

found_accepted : {on : Module} (m m' : List ℕ) (t : Table) → Shows m t → Attempts on m m' → (words : ℕ) (r : State) → r.image ≡ m'
    → (perform (recover words) r).answer ≡ cond (eqb words (map_words (geometry_of (reads m')))) 0 3
found_accepted m m' t v a = accepted (attempts_view a (seen v))

whole : {m : List ℕ} {on : Module} (t : Table) {s' : State} → Seen m t → Recovered on m s' → Agrees s' (all_idle t)
whole t v c = rw (← idle_table_lem {g = geometry t} t refl refl) (recovered_view c v)

module _ {s : State} {t : Table} (a : Agrees s t) (op : Operation) (fit : Fit (arguments op)) where
  -- the table after: of an answered operation its work, of a refused one the table before
  pub after_answered : (perform op s).answer ≡ 0 → (replied op s t).work.after ≡ (table_work op t).after
  after_answered h = ap (λ w. w.after) (reply_granted op (fed (perform op s).answer) t (sym (alike a op fit).answer ∙ h))

  pub after_refused : (perform op s).answer ≢ 0 → (replied op s t).work.after ≡ t
  after_refused h = ap (λ w. w.after) (reply_refused op (fed (perform op s).answer) t (λ q. h ((alike a op fit).answer ∙ q)))

module _ (steps : Steps) where
  -- ---- an operation done

  answered_agrees : {s : State} {t : Table} → Agrees s t → {op : Operation} → Fit (arguments op) → Kind op → (perform op s).answer ≡ 0
      → Agrees (done op s) (table_work op t).after
  answered_agrees {s} {t} a fit (formats {words} {slots} {nodes} {table}) h =
      rw (table_format words table slots nodes t) (format_agrees words table slots nodes s a.shows.fits h)
  answered_agrees {s} {t} a fit (recovers {words}) h =
      rw (table_recover words t, ← idle_table_lem {g = geometry t} t refl refl) (recovered_agrees words s (seen a.shows) h)
  answered_agrees {s} a {op} fit (scripted x) h = rw (done_granted op s h) (steps.step a x fit h).final

  done_agrees : {s : State} {t : Table} → Agrees s t → (op : Operation) → Fit (arguments op) → Agrees (done op s) (replied op s t).work.after
  done_agrees {s} a op fit = elim (ℕ_discrete (perform op s).answer 0) [
    | yes h ↦ rw (after_answered a op fit h) (answered_agrees a fit (kind op) h)
    | no h ↦ rw (after_refused a op fit h, done_same op s h (alike a op fit).not_malformed) a
  ]

  -- ---- an operation interrupted

  -- answered: the table before, while a barrier was left to pass, or the one after
  answered_seen : {s : State} {t : Table} {op : Operation} {k : ℕ} {m : List ℕ} {on : Module} → Agrees s t → Fit (arguments op) → Kind op → (perform op s).answer ≡ 0
      → Interrupted on op s k m → ((passed (entries_on on (segmented (perform op s).work.script)) k → ⊥) × Seen m t) ⊎ Seen m (table_work op t).after
  answered_seen a fit formats h c = absurd (c.unsteady (rw h answered_format))
  answered_seen {s} {t} {k = k} {m = m} a fit (recovers {words}) h c =
      inr (rw (table_recover words t) (idle_seen t (interrupted_view words s k m (seen a.shows) c)))
  answered_seen {s} {t} {op = op} {k = k} {m = m} {on = on} a fit (scripted x) h c =
      let w = work_granted op s h in
      let step = steps.step a x fit h in
      let es = segmented (granted op s).script in
      let q : c.itself ≡ s.image = itself_same c (ap (λ y. y.after.image) w ∙ granted_image s x) in
      let crash : CrashImage s.image es (ours_on on es k) m = rw (q, w) at (our_crash c) in
      let end : (carried_out (granted op s)).image ≡ apply s.image es = ap (λ i. apply i es) (granted_image s x) in
      elim (passed_or (entries_on on (segmented (perform op s).work.script)) k) [
        | inl p ↦ inr (rw (crash_laws.all_passed s.image (granted op s).script _ m (rw w at ((module_laws.passed_alike on (perform op s).work.script k).0 p)) crash ∙ sym end) (seen step.final.shows))
        | inr n ↦ elim (step.crash _ m crash) [ inl u ↦ inl (n, seen u) | inr u ↦ inr (seen u) ]
      ]

  survived : {s : State} {t : Table} {on : Module} → Agrees s t → (op : Operation) → Fit (arguments op) → (k : ℕ) (m : List ℕ) → Interrupted on op s k m
      → ((passed (entries_on on (segmented (perform op s).work.script)) k → ⊥) × Seen m t) ⊎ Seen m (replied op s t).work.after
  survived {s} {t} a op fit k m c = elim (ℕ_discrete (perform op s).answer 0) [
    | yes h ↦ rw (after_answered a op fit h) (answered_seen a fit (kind op) h c)
    | no h ↦
        let e : m ≡ s.image = crash_none c.itself _ m (rw (demand1.refused op s h).no_store at (our_crash c)) ∙ itself_same c (refused_image op s h) in
        inr (rw (after_refused a op fit h, e) (seen a.shows))
  ]

  survives : {s : State} {t : Table} {on : Module} → Agrees s t → (op : Operation) → Fit (arguments op) → (k : ℕ) (m m' : List ℕ) → Interrupted on op s k m
      → Attempts on m m' → Survives on op s t k m'
  survives {s} {t} a op fit k m m' c tried = elim (survived a op fit k m c) [
    | inl p ↦ let v = attempts_view tried p.1 in record { accepted = accepted v; whole = λ s' r. inl (p.0, whole t v r) }
    | inr u ↦ let v = attempts_view tried u in record { accepted = accepted v; whole = λ s' r. inr (whole (replied op s t).work.after v r) }
  ]

  -- ---- histories

  pub agreed : {on : Module} {s : State} {t : Table} → Follows on s t → Agrees s t
  agreed (started (formatted words table slots nodes s fit h)) = format_agrees words table slots nodes s fit h
  agreed (started (found {t = t} v r)) = whole t (seen v) r
  agreed (performed f op fit) = done_agrees (agreed f) op fit
  agreed (before f op fit k c r n a) = a
  agreed (after f op fit k c r a) = a

  pub demand3_from : {on : Module} → Demand3 on
  demand3_from s t f = let a = agreed f in record { agrees = a; survives = survives a }

  pub demand2_from : {on : Module} → Demand2 on
  demand2_from = record { starts = format_starts; shown = held_shown; accepted = found_accepted; starts_on = held_starts; alike = λ s t f op fit. alike (agreed f) op fit }
