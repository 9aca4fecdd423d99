-- How far a lookup goes: the number by the path, and 1 for a reel whose root never got children.
use mathlib.Core.Path.{◌≡◌, refl, sym, ◌∙◌, ap}
use mathlib.Core.Bool.{true, not}
use mathlib.Core.Logic.{◌⊎◌, inl, inr, ◌↔◌, ◌≢◌}
use mathlib.Core.Option.{some}
use mathlib.Core.List.{List, [], ◌∷◌}
use Prim.Native.Nat.{ℕ, zero, suc, ◌≤◌, ◌<◌}
use native.Mathlib.Omega.{arith}
use native.Mathlib.Decide.{ℕ_discrete, dec_lt}
use lib.ListN.{length, get_elem?}
use Rattle.tree.specs.Memory.{reads, Module, Fit}
use Rattle.tree.specs.Slots.{slot_of}
use Rattle.tree.specs.Lookup.{path_from}
use Rattle.tree.proofs.Cases.{true_not_false, none_some, seen, nothing, just}
use Rattle.tree.proofs.Reach.{slot_filled}
use Rattle.tree.proofs.PathNodes.{path_from_nodes}
use Rattle.tree.proofs.Laws.{child_laws, path_laws}
use Rattle.book.specs.State.{State, Operation, format, recover, open_reel, claim, fill, commit, abandon, remove, retire, tidy, query, has, list, convert, arguments, memory, shape}
use Rattle.book.specs.Checks.{refusals}
use Rattle.book.specs.Perform.{granted, perform}
use Rattle.book.specs.Table.{Table, is_present, fed, table_refusals, table_work}
use Rattle.book.specs.Agrees.{Agrees}
use Rattle.book.specs.Ways.{SlotHas, FullPath}
use Rattle.book.specs.Histories.{done, replied, Interrupted, none_yet, Recovered, Follows, started, performed, before, after}
use Rattle.book.specs.Demands.{Demand3}
use Rattle.book.specs.Growth.{shape_in, ReachesIn, reel_in, SameNodes, ClaimGrows, finds_clear, scales_up, branches_out, Grows, Growing, Growth}
use Rattle.book.specs.PathNodes.{CountsPath, has_of, IsHas, is_has, in_use, OpensReel, answered_open, Small, SmallSoFar, PathNodes}
use Rattle.book.proofs.Refusals.{passes, passed_all}
use Rattle.book.proofs.Performed.{answer_is, work_granted, work_refused, reply_is}
use Rattle.book.proofs.Reading.{one_slot}
use Rattle.book.proofs.DueWords.{reel_slot}
use Rattle.book.proofs.Alike.{alike}
use Rattle.book.proofs.Opening.{opening, open_table}
use Rattle.book.proofs.StepClaim.{asked_now}
use Rattle.book.proofs.Assembly.{Steps, after_answered, agreed}
use Rattle.book.proofs.InUse.{once_each, none_yet as none-in-use, more_than_64}

-- ---- over any state

-- below a list's length there is an element, and from there on none
at_number : (ns : List ℕ) (d : ℕ) → (d < length ns) ↔ ((n : ℕ) × (get_elem? ns d ≡ some n))
at_number [] d = (λ l. absurd (omega arith), λ x. none_some x.1)
at_number (n ∷ ns) zero = (λ l. (n, refl), λ x. omega arith)
at_number (n ∷ ns) (suc d) = let u = at_number ns d in (λ l. u.0 (omega arith), λ x. let l = u.1 x in omega arith)

answered : (s : State) (reel f : ℕ) → (has_of reel f s).answer ≡ 0 → CountsPath s reel f (has_of reel f s).work.handed.path_nodes
unfolding refusals granted
answered s reel f e =
    let op = query (has reel f) in
    let slot = slot_of (shape s) (memory s) reel in
    let p = passes (refusals op s) (omega arith) (sym (answer_is op s) ∙ e) in
    let there = reel_slot s reel p.1.1.1.1.0 in
    let malformed = p.1.1.1.1.1.0 in
    elim (seen (path_from (shape s) (memory s) slot f)) [
      | nothing q ↦ absurd (true_not_false refl (rw q at malformed))
      | just ns q ↦
          let nodes = path_from_nodes (shape s) (memory s) slot f ns q in
          rw (work_granted op s e, q) (record {
            slot = slot;
            of_reel = there;
            levels = λ d.
                let u = at_number ns d in
                let v = (path_laws f there.has.open_slot).nodes ns q d in
                (λ l. let x = u.0 l in (x.0, (v x.0).0 x.1), λ x. u.1 (x.0, (v x.0).1 x.1));
            from = nodes.some_node;
            to = nodes.few;
          })
    ]

refused : (s : State) (reel f : ℕ) → (has_of reel f s).answer ≢ 0 → (has_of reel f s).work.handed.path_nodes ≡ 0
refused s reel f h = ap (λ w. w.handed.path_nodes) (work_refused (query (has reel f)) s h)

none_told : (op : Operation) (s : State) → (IsHas op → ⊥) → (granted op s).handed.path_nodes ≡ 0
unfolding granted
none_told (query (has reel f)) s n = absurd (n is_has)
none_told (query (list scratch room reel)) s n = refl
none_told (query (convert scratch copy)) s n = refl
none_told (format words table slots nodes) s n = refl
none_told (recover words) s n = refl
none_told (open_reel words script reel) s n = refl
none_told (claim words script h reel f) s n = refl
none_told (fill script h) s n = refl
none_told (commit script h) s n = refl
none_told (abandon script h) s n = refl
none_told (remove script reel f) s n = refl
none_told (retire words scratch script reel) s n = refl
none_told (tidy words scratch script reel) s n = refl

no_has : (op : Operation) (s : State) → (IsHas op → ⊥) → (perform op s).work.handed.path_nodes ≡ 0
no_has op s n = elim (ℕ_discrete (perform op s).answer 0) [
  | yes h ↦ ap (λ w. w.handed.path_nodes) (work_granted op s h) ∙ none_told op s n
  | no h ↦ ap (λ w. w.handed.path_nodes) (work_refused op s h)
]

-- ---- a root without children

-- in whatever slot the reel is, nothing but the root is reached
record Lone (im : List ℕ) (reel : ℕ) : Type 0 where
  alone : {slot n : ℕ} {w : List ℕ} → SlotHas (shape_in im) (reads im) reel slot → ReachesIn im slot w n → w ≡ []

-- from image to image: what is reached now was reached in a slot of the same reel, or is no child of this reel's
lone_from : {im im' : List ℕ} {reel : ℕ}
    → ((slot n : ℕ) (w : List ℕ) → ReachesIn im' slot w n → (ReachesIn im slot w n × (reel_in im' slot ≡ reel_in im slot)) ⊎ (reel_in im' slot ≡ reel → w ≡ []))
    → Lone im reel → Lone im' reel
lone_from h a = record {
  alone = λ {slot} {n} {w} b x. elim (h slot n w x) [
    | inl y ↦ a.alone (record { open_slot = slot_filled y.0; number = sym y.1 ∙ b.number }) y.0
    | inr e ↦ e b.number
  ];
}

lone_same : {im im' : List ℕ} {reel : ℕ} → SameNodes im im' → Lone im reel → Lone im' reel
lone_same b = lone_from (λ slot n w x. let y = b.ways.0 x in inl (y, b.reels y))

module _ {s : State} {t : Table} (a : Agrees s t) where
  -- a claim that leaves no more than 64 frames in use finds no path that is full to its end
  no_branch : (words script h reel f : ℕ) → Fit (h ∷ reel ∷ f ∷ []) → (perform (claim words script h reel f) s).answer ≡ 0
      → length (in_use (replied (claim words script h reel f) s t).work.after reel) ≤ 64
      → {slot d : ℕ} → SlotHas (shape s) (memory s) reel slot → FullPath (shape s) (memory s) slot f d → ⊥
  unfolding table_work
  no_branch words script h reel f fit e few {slot} b x =
      let asked = asked_now a words script h reel f (fit 2) e in
      let more = more_than_64 a asked (rw (one_slot a.shows b asked.has) at x) in
      omega (arith, more, rw (after_answered a (claim words script h reel f) fit e) at few)

  -- what an answered operation does to the nodes leaves the root alone
  grows_lone : (op : Operation) (reel : ℕ) → Fit (arguments op) → (perform op s).answer ≡ 0 → length (in_use (replied op s t).work.after reel) ≤ 64
      → {im' : List ℕ} → Grows op s.image im' → Lone s.image reel → Lone im' reel
  grows_lone (format words table slots nodes) reel fit e few none = lone_from (λ slot n w x. absurd (none n (record { slot = slot; way = w; there = x })))
  grows_lone (recover words) reel fit e few b = lone_same b
  grows_lone (open_reel words script reel') reel fit e few b = lone_from (λ slot n w x. elim (b.adds.ways.0 x) [
    | inl y ↦ inl (y, b.adds.reels y)
    | inr y ↦ inr (λ q. y.way)
  ])
  grows_lone (claim words script h reel' f) reel fit e few b = claimed_lone b.2
    where
      claimed_lone : {im' : List ℕ} → ClaimGrows s.image im' b.0 f → Lone s.image reel → Lone im' reel
      claimed_lone (finds_clear d x l q c) = lone_same c
      claimed_lone (scales_up x l q full c) = lone_from (λ slot n w x. let y = c.ways.0 x in inl (y, c.reels y))
      claimed_lone {im'} (branches_out p run c) = lone_from (λ slot n w x. elim (c.ways.0 x) [
        | inl y ↦ inl (y, c.reels y)
        | inr y ↦ inr (λ q.
            let same : reel' ≡ reel = sym b.1.number ∙ sym (c.reels p.there) ∙ ap (reel_in im') (sym y.slot) ∙ q in
            absurd (no_branch words script h reel' f fit e (rw (sym same) at few) b.1 p))
      ])
  grows_lone (fill script h) reel fit e few b = lone_same b
  grows_lone (commit script h) reel fit e few b = lone_same b
  grows_lone (abandon script h) reel fit e few b = lone_same b
  grows_lone (remove script reel' f) reel fit e few b = lone_same b
  grows_lone (retire words scratch script reel') reel fit e few b = lone_from (λ slot n w x. inl ((b.2.ways.0 x).0, b.2.reels x))
  grows_lone (tidy words scratch script reel') reel fit e few b = lone_from (λ slot n w x. inl ((b.drops.ways.0 x).0, b.drops.reels x))
  grows_lone (query q) reel fit e few b = lone_same b

  done_lone : {on : Module} → Growing on s → (op : Operation) (reel : ℕ) → Fit (arguments op) → length (in_use (replied op s t).work.after reel) ≤ 64
      → Lone s.image reel → Lone (done op s).image reel
  done_lone grown op reel fit few = elim (ℕ_discrete (perform op s).answer 0) [
    | yes e ↦ grows_lone op reel fit e few (grown.answered op fit e)
    | no e ↦ lone_same (grown.refused op e)
  ]

  -- a reel that is to be opened is in no slot
  opens_lone : {reel : ℕ} {op : Operation} → Fit (arguments op) → OpensReel reel s op → Lone s.image reel
  opens_lone {reel} fit (answered_open {words} {script} e) =
      record { alone = λ {slot} b x. absurd ((opening a words script reel (fit 0) e).new_reel slot b.open_slot b.number) }

-- ---- histories

module _ {on : Module} (steps : Steps) (growth : Growth on) (kept : Demand3 on) where
  -- one step on: cut short or not, with the nodes before it or those after it
  lone_done : {s : State} {t : Table} (h : Follows on s t) (op : Operation) (reel : ℕ) → Fit (arguments op)
      → length (in_use (replied op s t).work.after reel) ≤ 64 → Lone s.image reel → Lone (done op s).image reel
  lone_done {s} {t} h op reel fit few = done_lone (agreed steps h) (growth s t h) op reel fit few

  lone_cut : {s s' : State} {t : Table} {m : List ℕ} (h : Follows on s t) (op : Operation) (reel : ℕ) → Fit (arguments op)
      → length (in_use (replied op s t).work.after reel) ≤ 64 → (k : ℕ) → Interrupted on op s k m → Recovered on m s' → Lone s.image reel → Lone s'.image reel
  lone_cut {s} {t = t} h op reel fit few k c r a = elim ((growth s t h).interrupted op fit k c r) [
    | inl x ↦ lone_same x.1 a
    | inr x ↦ lone_same x (lone_done h op reel fit few a)
  ]

  -- before a step that opens the reel, or goes on with it
  lone_before : {s : State} {t : Table} (h : Follows on s t) (op : Operation) (reel : ℕ) → Fit (arguments op) → OpensReel reel s op ⊎ Lone s.image reel
      → Lone s.image reel
  lone_before h op reel fit (inl o) = opens_lone (agreed steps h) fit o
  lone_before h op reel fit (inr x) = x

  small_lone : {s : State} {t : Table} (h : Follows on s t) (reel : ℕ) → Small reel h → Lone s.image reel
  small_lone (started x) reel p = absurd p
  small_lone (performed h op fit) reel p =
      lone_done h op reel fit p.1 (lone_before h op reel fit (elim p.2 [ inl o ↦ inl o | inr x ↦ inr (small_lone h reel x) ]))
  small_lone (before h op fit k c r n b) reel p =
      lone_cut h op reel fit p.1 k c r (lone_before h op reel fit (elim p.2 [ inl o ↦ inl o | inr x ↦ inr (small_lone h reel x) ]))
  small_lone (after h op fit k c r b) reel p =
      lone_cut h op reel fit p.1 k c r (lone_before h op reel fit (elim p.2 [ inl o ↦ inl o | inr x ↦ inr (small_lone h reel x) ]))

  small_present : {s : State} {t : Table} (h : Follows on s t) (reel : ℕ) → Small reel h → is_present t reel ≡ true
  small_present (started x) reel p = absurd p
  small_present (performed h op fit) reel p = p.0
  small_present (before h op fit k c r n b) reel p = p.0
  small_present (after h op fit k c r b) reel p = p.0

  has_answered : {s : State} {t : Table} (reel f : ℕ) → Agrees s t → Fit (reel ∷ f ∷ []) → is_present t reel ≡ true → (has_of reel f s).answer ≡ 0
  unfolding table_refusals
  has_answered {s} {t} reel f a fit p =
      let op = query (has reel f) in
      let x = fed (perform op s).answer in
      (alike a op fit).answer ∙ reply_is op x t ∙ passed_all (table_refusals op x t) (ap not p, tt)

  one : {s : State} {t : Table} (h : Follows on s t) (reel f : ℕ) → Fit (reel ∷ f ∷ []) → Small reel h → (has_of reel f s).work.handed.path_nodes ≡ 1
  one {s} h reel f fit p =
      let path = answered s reel f (has_answered reel f (agreed steps h) fit (small_present h reel p)) in
      elim (dec_lt 1 (has_of reel f s).work.handed.path_nodes) [
        | yes l ↦
            let x = (path.levels 1).0 l in
            let none = ap length ((small_lone h reel p).alone path.of_reel.has x.1) in
            absurd (omega (arith, none, child_laws.length_way 1 f))
        | no l ↦ omega (arith, path.from)
      ]

  -- ---- what keeps a reel small

  opened : {s : State} {t : Table} → Follows on s t → (reel : ℕ) (op : Operation) → Fit (arguments op) → OpensReel reel s op
      → in_use (replied op s t).work.after reel ≡ []
  opened {s} {t} h reel op fit (answered_open {words} {script} e) =
      let a = agreed steps h in
      let new = (opening a words script reel (fit 0) e).new_reel in
      rw (after_answered a (open_reel words script reel) fit e, open_table t words script reel)
      (none-in-use a reel (λ slot b. new slot b.open_slot b.number))

  through_crashes : {s s' : State} {t : Table} {m : List ℕ} (h : Follows on s t) (reel : ℕ) (op : Operation) → Fit (arguments op) → SmallSoFar reel op h
      → (k : ℕ) → Interrupted on op s k m → Recovered on m s' → (t' : Table) × (h' : Follows on s' t') × (is_present t' reel ≡ true → Small reel h')
  through_crashes {s} {s'} {t} h reel op fit x k c r = elim (((kept s t h).survives op fit k _ _ c none_yet).whole s' r) [
    | inl y ↦ (_, before h op fit k c r y.0 y.1, λ p. (p, x.1, x.0))
    | inr y ↦ (_, after h op fit k c r y, λ p. (p, x.1, x.0))
  ]

  pub path_nodes_from : PathNodes on
  path_nodes_from = record {
    answered = answered;
    refused = refused;
    no_has = no_has;
    one = one;
    small = record {
      opens = λ words script reel s h. answered_open h;
      opened = opened;
      goes_on = λ h reel op fit x p. (p, x.1, x.0);
      through_crashes = through_crashes;
    };
    each_once = λ h. once_each (agreed steps h);
  }
