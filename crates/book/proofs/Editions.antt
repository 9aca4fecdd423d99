-- The header through histories, proved: no script and no recovery stores to it.
use mathlib.Core.Path.{◌≡◌, refl, sym, ◌∙◌, ap}
use mathlib.Core.Logic.{inl, inr}
use mathlib.Core.List.{List, []}
use Prim.Native.Nat.{ℕ, suc, ◌≤◌, ◌<◌}
use native.Mathlib.Omega.{arith}
use native.Mathlib.Decide.{ℕ_discrete}
use Rattle.tree.specs.Memory.{Memory, reads, Store, stores, segmented, apply, Avoids, FallsIn, after_all, here, later, Module}
use Rattle.tree.specs.declared.layout.Geometry.{Geometry}
use Rattle.tree.specs.Layout.{edition_at, geometry_of}
use Rattle.tree.specs.declared.path.Room.{Room}
use Rattle.tree.specs.declared.path.Room.TheVariants.{Clear, ScaleUp, BranchOut}
use Rattle.tree.proofs.Memory.{apply_laws, segment_laws, crash_laws}
use Rattle.book.specs.State.{State, Operation, format, recover, open_reel, claim, fill, commit, abandon, remove, retire, tidy, query, Work, memory}
use Rattle.book.specs.Perform.{new_node, open_script, room_script, claim_script, fill_script, remove_script, tidy_script, granted, perform}
use Rattle.book.specs.Histories.{done, Steady, answered_format, Interrupted, Attempts, none_yet, refused, interrupted, Recovered}
use Rattle.book.specs.Editions.{SameHeader, Editions}
use Rattle.book.proofs.Modules.{our_crash}
use Rattle.book.proofs.Performed.{work_granted, work_refused}
use Rattle.book.proofs.Done.{refused_image}
use Rattle.book.proofs.Mended.{kept as not_mended}
use Rattle.book.proofs.Recovery.{mended_words}
use Rattle.book.proofs.Entries.{Each, each_at, each_flat_map, each_entry}
use Rattle.book.proofs.Fixed.{fixed}

-- ---- stores past the header

abbrev Past : Store → Type 0
Past p = 64 ≤ p.0

past_claim : (g : Geometry) (m : Memory) (r : Room) (start f : ℕ) → Each (Each Past) (claim_script g m r start f)
unfolding claim_script room_script
past_claim g m (Clear t) start f = omega arith
past_claim g m (ScaleUp n size) start f = omega arith
past_claim g m (BranchOut parent d) start f = (each_flat_map Past _ _ (λ n y. past_new n), omega arith)
  where
    past_new : (n : ℕ) → Each Past (new_node g n (suc d) 64)
    past_new n = omega arith

-- work that keeps the header
record Keeps (s : State) (w : Work) : Type 0 where
  image : SameHeader (memory s) (reads w.after.image)
  script : Each (Each Past) w.script

keeps_granted : (op : Operation) (s : State) → (Steady op 0 → ⊥) → Keeps s (granted op s)
unfolding granted open_script fill_script remove_script tidy_script
keeps_granted (format words table slots nodes) s u = absurd (u answered_format)
keeps_granted (recover words) s u =
    record { image = λ i l. not_mended (mended_words (geometry_of (memory s)) s.image) i (λ n. omega arith); script = tt }
keeps_granted (open_reel words script reel) s u = record { image = λ i l. refl; script = omega arith }
keeps_granted (claim words script h reel f) s u = record { image = λ i l. refl; script = past_claim _ _ _ _ f }
keeps_granted (fill script h) s u = record { image = λ i l. refl; script = omega arith }
keeps_granted (commit script h) s u = record { image = λ i l. refl; script = omega arith }
keeps_granted (abandon script h) s u = record { image = λ i l. refl; script = omega arith }
keeps_granted (remove script reel f) s u = record { image = λ i l. refl; script = omega arith }
keeps_granted (retire words scratch script reel) s u = record { image = λ i l. refl; script = omega arith }
keeps_granted (tidy words scratch script reel) s u = record { image = λ i l. refl; script = omega arith }
keeps_granted (query q) s u = record { image = λ i l. refl; script = tt }

keeps : (op : Operation) (s : State) → (Steady op (perform op s).answer → ⊥) → Keeps s (perform op s).work
keeps op s u = elim (ℕ_discrete (perform op s).answer 0) [
  | yes h ↦ rw (work_granted op s h) (keeps_granted op s (rw h at u))
  | no h ↦ record { image = λ i l. ap (λ im. reads im i) (sym (refused_image op s h)); script = rw (work_refused op s h) tt }
]

-- ---- carried out, or cut short

module _ {i : ℕ} (low : i < 64) where
  avoids : (segs : List (List Store)) → Each (Each Past) segs → Avoids i (segmented segs)
  avoids segs e v x = let t = each_entry Past segs e i v x in omega arith

  segment_avoids : (seg : List Store) → Each Past seg → Avoids i (stores seg)
  segment_avoids seg e v x = let t = each_at Past seg e (segment_laws.stored seg i v x) in omega arith

  falls : {m' m : List ℕ} {segs : List (List Store)} → Each (Each Past) segs → FallsIn m' m segs → reads m' i ≡ reads m i
  falls e (after_all q) = ap (λ im. reads im i) q
  falls e (here {seg = seg} t) = elim (t.each i) [ inl q ↦ q | inr x ↦ let y = each_at Past seg e.0 x in absurd (omega arith) ]
  falls e (later {m = m} {seg = seg} x) = falls e.1 x ∙ apply_laws.avoided m (stores seg) i (segment_avoids seg e.0)

kept : (op : Operation) (s : State) → (Steady op (perform op s).answer → ⊥) → SameHeader (memory s) (memory (done op s))
kept op s u i l = let k = keeps op s u in k.image i l ∙ sym (apply_laws.avoided _ _ i (avoids l _ k.script))

cut : {op : Operation} {s : State} {k : ℕ} {m : List ℕ} {on : Module} → Interrupted on op s k m → SameHeader (memory s) (reads m)
cut {op} {s} c i l =
    let k = keeps op s c.unsteady in
    sym (falls l k.script (crash_laws.falls_in _ _ _ _ (our_crash c))
    ∙ (elim (c.old_or_new i) [ inl q ↦ q | inr q ↦ q ∙ sym (k.image i l) ]))

-- ---- recoveries

recovery_unsteady : {words n : ℕ} → Steady (recover words) n → ⊥
recovery_unsteady u = elim u [ ]

attempted : {on : Module} {m m' : List ℕ} → Attempts on m m' → SameHeader (reads m) (reads m')
attempted none_yet i l = refl
attempted (refused words s q z a) i l = ap (λ im. reads im i) (sym q) ∙ kept (recover words) s recovery_unsteady i l ∙ attempted a i l
attempted (interrupted words s k q c a) i l = ap (λ im. reads im i) (sym q) ∙ cut c i l ∙ attempted a i l

recovered : {m : List ℕ} {s : State} {on : Module} → Recovered on m s → SameHeader (reads m) (memory s)
recovered r i l =
    attempted r.attempts i l ∙ ap (λ im. reads im i) (sym r.image) ∙ kept (recover r.words) r.from recovery_unsteady i l
    ∙ ap (λ (x : State). memory x i) (sym r.is)

-- ---- Format

no_script : (words : ℕ) (table : List ℕ) (slots nodes : ℕ) (s : State) → (granted (format words table slots nodes) s).script ≡ []
unfolding granted
no_script words table slots nodes s = refl

formatted : (words : ℕ) (table : List ℕ) (slots nodes : ℕ) (s : State) → (perform (format words table slots nodes) s).answer ≡ 0
    → memory (done (format words table slots nodes) s) edition_at ≡ 2
formatted words table slots nodes s h =
    let w = (perform (format words table slots nodes) s).work in
    let none : w.script ≡ [] = ap (λ (x : Work). x.script) (work_granted (format words table slots nodes) s h) ∙ no_script words table slots nodes s in
    ap (λ x. reads (apply w.after.image (segmented x)) edition_at) none
    ∙ ap (λ im. reads im edition_at) (segment_laws.apply_none w.after.image)
    ∙ (fixed.formats words table (record { slots = slots; nodes = nodes }) s h).edition

pub editions : {on : Module} → Editions on
editions = record { formatted = formatted; kept = kept; crashed = λ op s s' k m c r i l. cut c i l ∙ recovered r i l }
