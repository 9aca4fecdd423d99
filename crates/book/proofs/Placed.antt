-- Where frames sit: a frame that a reel held, and holds still, is where it was, and one that is new is where a head had put it.
use mathlib.Core.Path.{◌≡◌, refl, sym, ◌∙◌, ap}
use mathlib.Core.Bool.{Bool}
use mathlib.Core.List.Memᴰ
use mathlib.Core.List.{List, [], ◌∷◌}
use Prim.Native.Nat.{ℕ}
use native.Mathlib.Omega.{arith}
use native.Mathlib.Decide.{ℕ_discrete}
use lib.ListN.{length}
use lib.Seq.{take-length}
use Rattle.tree.specs.Memory.{reads, segmented, apply, CrashImage, Module, ours_on, Fit}
use Rattle.tree.specs.Layout.{slots_at, nodes_at, geometry_of, reel_at}
use Rattle.tree.specs.Reach.{Reaches, Holds}
use Rattle.tree.proofs.Memory.{crash_laws, apply_none, crash_none}
use Rattle.tree.proofs.Reach.{slot_filled}
use Rattle.tree.proofs.Laws.{same_laws}
use Rattle.tree.specs.Fingerprint.{is_given}
use Rattle.book.specs.State.{State, Operation, recover, claim, arguments}
use Rattle.book.specs.Perform.{granted, perform}
use Rattle.book.specs.Table.{Table, empty_table}
use Rattle.book.specs.Agrees.{Agrees}
use Rattle.book.specs.Histories.{done, answered_format, Interrupted, Attempts, none_yet, refused, interrupted, Recovered, Next, performed, crashed}
use Rattle.book.specs.Demands.{ClaimPlaced, Placed}
use Rattle.book.proofs.Modules.{our_crash}
use Rattle.book.proofs.Performed.{work_granted}
use Rattle.book.proofs.Demand1.{demand1}
use Rattle.book.proofs.Done.{done_granted, refused_image, done_image}
use Rattle.book.proofs.View.{View}
use Rattle.book.proofs.Showing.{shows_view}
use Rattle.book.proofs.Stored.{same_geometry}
use Rattle.book.proofs.Step.{Keeps}
use Rattle.book.proofs.Keeps.{keeps_itself}
use Rattle.book.proofs.Formatted.{format_agrees}
use Rattle.book.proofs.Targets.{next_targets}
use Rattle.book.proofs.Mended.{Mended, kept, mended_same}
use Rattle.book.proofs.Recovery.{recover_writes, interrupted_mended}
use Rattle.book.proofs.Assembly.{Steps, Kind, formats, recovers, scripted, kind, granted_image, itself_same, agreed}

-- ---- images that hold the same as another, at the same places

-- what im' holds, im holds at the same place, in a slot of the same reel, and back
pub record Held (im im' : List ℕ) : Type 0 where
  pub held : {s : ℕ} {w : List ℕ} {n p f : ℕ} → Holds (geometry_of (reads im')) (reads im') s w n p f
      → Holds (geometry_of (reads im)) (reads im) s w n p f × (reads im (reel_at s) ≡ reads im' (reel_at s))
  pub still : {s : ℕ} {w : List ℕ} {n p f : ℕ} → Holds (geometry_of (reads im)) (reads im) s w n p f
      → Holds (geometry_of (reads im')) (reads im') s w n p f

held_same : {im im' : List ℕ} → im' ≡ im → Held im im'
held_same q = rw q (record { held = λ x. (x, refl); still = λ x. x })

held_on : {im im' im'' : List ℕ} → Held im im' → Held im' im'' → Held im im''
held_on a b = record { held = λ x. let y = b.held x in let z = a.held y.0 in (z.0, z.1 ∙ y.1); still = λ x. b.still (a.still x) }

keeps_held : {ws im im' im'' : List ℕ} → Keeps ws im im' → Held im' im'' → Keeps ws im im''
keeps_held a b = record {
  same_place = λ x y q. let z = b.held y in a.same_place x z.0 (q ∙ sym z.1);
  came_from = λ y. a.came_from (b.held y).0;
}

-- ---- recovery, answered, refused or interrupted

held_mended : {im im' : List ℕ} → Mended (geometry_of (reads im)) (reads im) (reads im') → Held im im'
held_mended {im} {im'} a =
    let same = mended_same a in
    let q = same_geometry (reads im) (reads im') (kept a slots_at (λ k. omega arith)) (kept a nodes_at (λ k. omega arith)) in
    record {
      held = rw (← q) (λ x. let y = (same_laws same).holds.1 x in (y, same.reels (slot_filled y.there)));
      still = rw (← q) (λ x. (same_laws same).holds.0 x);
    }

recovered_held : (words : ℕ) (r : State) → Held r.image (done (recover words) r).image
recovered_held words r =
    let w = recover_writes words r in
    held_on (held_mended w.image) (held_same (ap (λ x. apply (perform (recover words) r).work.after.image (segmented x)) w.script ∙ apply_none _))

interrupted_held : {on : Module} (words : ℕ) (r : State) (k : ℕ) (m : List ℕ) → Interrupted on (recover words) r k m → Held r.image m
interrupted_held words r k m c = held_mended (interrupted_mended words r k m c).1

pub attempts_held : {on : Module} {m m' : List ℕ} → Attempts on m m' → Held m m'
attempts_held none_yet = held_same refl
attempts_held (refused words s q h a) = held_on (held_same q) (held_on (recovered_held words s) (attempts_held a))
attempts_held (interrupted words s k q c a) = held_on (held_same q) (held_on (interrupted_held words s k _ c) (attempts_held a))

pub ended_held : {m : List ℕ} {s' : State} {on : Module} → Recovered on m s' → Held m s'.image
ended_held c = rw c.is (held_on (attempts_held c.attempts) (held_on (held_same c.image) (recovered_held c.words c.from)))

-- ---- an operation done or interrupted

-- an image without reels holds nothing
keeps_none : {ws im im' : List ℕ} {o : Bool} → View (geometry_of (reads im')) o im' [] → Keeps ws im im'
keeps_none {im' = im'} v = record { same_place = λ x y q. absurd (none y.there); came_from = λ y. absurd (none y.there) }
  where
    none : {s n : ℕ} {w : List ℕ} → Reaches (geometry_of (reads im')) (reads im') s w n → ⊥
    none r = Memᴰ.not-nil ((v.same.present _).0 (_, record { open_slot = slot_filled r; number = refl })).1

pub no_reels : (own : Bool) (slots nodes : ℕ) → (empty_table own slots nodes).reels ≡ []
unfolding empty_table
no_reels own slots nodes = refl

-- one that leaves the image can be interrupted in its script alone
pub script_alone : {op : Operation} {s : State} {k : ℕ} {m : List ℕ} {on : Module} (c : Interrupted on op s k m) → (perform op s).work.after.image ≡ s.image
    → let es = segmented (perform op s).work.script in CrashImage s.image es (ours_on on es k) m
script_alone c q = rw (itself_same c q) at (our_crash c)

module _ (steps : Steps) where
  answered_keeps : {s : State} {t : Table} {op : Operation} → Agrees s t → Fit (arguments op) → Kind op → (perform op s).answer ≡ 0
      → Keeps s.heads s.image (done op s).image
  answered_keeps {s} a fit (formats {words} {slots} {nodes} {table}) h =
      keeps_none (rw (no_reels (is_given table) slots nodes) at (shows_view (format_agrees words table slots nodes s a.shows.fits h).shows))
  answered_keeps {s} a fit (recovers {words}) h = keeps_held (keeps_itself (shows_view a.shows)) (recovered_held words s)
  answered_keeps {s} {op = op} a fit (scripted x) h =
      let es = segmented (granted op s).script in
      let end : (done op s).image ≡ apply s.image es = ap (λ y. y.image) (done_granted op s h) ∙ ap (λ i. apply i es) (granted_image s x) in
      let whole = crash_laws.as_carried_out s.image es (length es) (omega arith) in
      rw end ((steps.step a x fit h).keeps (length es) (apply s.image es) (rw take-length at whole))

  done_keeps : {s : State} {t : Table} → Agrees s t → (op : Operation) → Fit (arguments op) → Keeps s.heads s.image (done op s).image
  done_keeps {s} a op fit = elim (ℕ_discrete (perform op s).answer 0) [
    | yes h ↦ answered_keeps a fit (kind op) h
    | no h ↦ rw (done_image op s h) (keeps_itself (shows_view a.shows))
  ]

  answered_crash : {s : State} {t : Table} {op : Operation} {k : ℕ} {m : List ℕ} {on : Module} → Agrees s t → Fit (arguments op) → Kind op
      → (perform op s).answer ≡ 0 → Interrupted on op s k m → Keeps s.heads s.image m
  answered_crash a fit formats h c = absurd (c.unsteady (rw h answered_format))
  answered_crash {s} {k = k} {m = m} a fit (recovers {words}) h c = keeps_held (keeps_itself (shows_view a.shows)) (interrupted_held words s k m c)
  answered_crash {s} {op = op} {k = k} {m = m} a fit (scripted x) h c =
      let w = work_granted op s h in
      (steps.step a x fit h).keeps _ m (rw w at (script_alone c (ap (λ y. y.after.image) w ∙ granted_image s x)))

  crash_keeps : {s : State} {t : Table} {k : ℕ} {m : List ℕ} {on : Module} → Agrees s t → (op : Operation) → Fit (arguments op) → Interrupted on op s k m
      → Keeps s.heads s.image m
  crash_keeps {s} {k = k} {m = m} a op fit c = elim (ℕ_discrete (perform op s).answer 0) [
    | yes h ↦ answered_crash a fit (kind op) h c
    | no h ↦ rw (crash_none s.image _ m (rw (demand1.refused op s h).no_store at (script_alone c (refused_image op s h)))) (keeps_itself (shows_view a.shows))
  ]

  next_keeps : {s s' : State} {t : Table} {on : Module} → Agrees s t → Next on s s' → Keeps s.heads s.image s'.image
  next_keeps a (performed op fit) = done_keeps a op fit
  next_keeps a (crashed op fit k c r) = keeps_held (crash_keeps a op fit c) (ended_held r)

-- ---- histories

-- an answered claim's head names the place that its frame takes
pub record ClaimsPlaced : Type 0 where
  pub placed : {s : State} {t : Table} → Agrees s t → (words script h reel f : ℕ) → Fit (h ∷ reel ∷ f ∷ [])
      → (perform (claim words script h reel f) s).answer ≡ 0 → ClaimPlaced (claim words script h reel f) s h reel f

pub placed_from : {on : Module} → Steps → ClaimsPlaced → Placed on
placed_from steps claimed s t f = let a = agreed steps f in record {
  claim = claimed.placed a;
  stays = λ s' n. let k = next_keeps steps a n in record { same_place = k.same_place; came_from = k.came_from; targets = next_targets a n };
}
