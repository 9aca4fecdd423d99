-- Either module, for scripts in segments.
use mathlib.Core.Path.{◌≡◌, refl, sym, ◌∙◌, ap}
use mathlib.Core.List.Memᴰ
use mathlib.Core.Logic.{◌↔◌}
use mathlib.Core.List.{List, [], ◌∷◌, ◌++◌, Memᴰ}
use Prim.Native.Nat.{ℕ, zero, suc, ◌≤◌, ◌<◌}
use native.Mathlib.Omega.{arith}
use lib.ListN.{length, take, set, length-set}
use Rattle.memory.specs.Script.{Entry, store, barrier, flush, Store, stores, segmented}
use Rattle.flushes.specs.Translate.{translated, unflushing, as_far}
use Rattle.flushes.specs.Module.{Module, plain, flushing, CrashOn, Lasting, entries_on, ours_on}
use Rattle.flushes.specs.Laws.{NoFlush, EachLine, ModuleLaws}
use Rattle.flushes.proofs.Translator.{translator_laws}
use Rattle.flushes.proofs.Possible.{flush_crash_laws, own_writes_laws, any_store}
use Rattle.flushes.specs.Crash.{line_of}
use lib.Seq.{ext_get_or, get_or-set_same, get_or-set_other}
use native.Mathlib.Decide.{ℕ_discrete}
use Rattle.memory.specs.Words.{reads}
use Rattle.memory.specs.Crash.{apply, CrashImage, passed}
use Rattle.memory.proofs.Laws.{crash_laws, segment_laws, apply_append, length_apply}

-- among a list's entries that are no flushes, the first k are those of some front of it
front_of : (es : List Entry) (k : ℕ) → k ≤ length (unflushing es) → (k' : ℕ) × (k' ≤ length es) × (length (unflushing (take k' es)) ≡ k)
unfolding unflushing
front_of es zero h = (0, omega arith, refl)
front_of [] (suc k) h = absurd (omega arith)
front_of (store i v ∷ es) (suc k) h = let r = front_of es k (omega arith) in (suc r.0, omega (arith, r.1), ap suc r.2)
front_of (barrier ∷ es) (suc k) h = let r = front_of es k (omega arith) in (suc r.0, omega (arith, r.1), ap suc r.2)
front_of (flush l ∷ es) (suc k) h = let r = front_of es (suc k) h in (suc r.0, omega (arith, r.1), r.2)

as_far_lem : (es : List Entry) (k : ℕ) → NoFlush es → k ≤ length es → (k' : ℕ) × (k' ≤ length (translated es)) × (as_far es k' ≡ k)
unfolding as_far
as_far_lem es k n h = front_of (translated es) k (rw (translator_laws.same_entries es n) h)

-- a barrier stores nothing
own_barrier : (m : List ℕ) (own : List Store) → apply m (stores own ++ barrier ∷ []) ≡ apply m (stores own)
unfolding apply
own_barrier m own = apply_append m (stores own) (barrier ∷ [])

-- a store of another value and one of the value that is to be there, behind all others, make the same image
twice : List Store → ℕ → ℕ → ℕ → List Store
twice own i v u = own ++ (i, v) ∷ (i, u) ∷ []

twice_same : (m after : List ℕ) (own : List Store) (i v : ℕ) → apply m (stores own) ≡ after → apply m (stores (twice own i v (reads after i))) ≡ after
unfolding twice apply stores
twice_same m after own i v q =
    let u = reads after i in
    let s : apply m (stores (twice own i v u)) ≡ set (set after i v) i u =
    ap (apply m) (segment_laws.stores_append own ((i, v) ∷ (i, u) ∷ [])) ∙ apply_append m (stores own) (stores ((i, v) ∷ (i, u) ∷ [])) ∙ ap (λ x. set (set x i v) i u) q in
    s ∙ ext_get_or 0 (set (set after i v) i u) after (length-set (set after i v) i u ∙ length-set after i v) (λ j w. elim (ℕ_discrete j i) [
      | yes p ↦ rw p (get_or-set_same (set after i v) i u 0 (omega (arith, length-set (set after i v) i u, length-set after i v, p, w)))
      | no n ↦ get_or-set_other (set after i v) i j u 0 n ∙ get_or-set_other after i j v 0 n
    ])

in_twice : (own : List Store) (i v u : ℕ) → Memᴰ (store i v) (stores (twice own i v u))
unfolding twice stores
in_twice own i v u = rw (segment_laws.stores_append own ((i, v) ∷ (i, u) ∷ [])) (Memᴰ.append_right (stores own) (Memᴰ.head refl))

no_line_out : (before after lines : List ℕ) (own : List Store) (i : ℕ) → apply before (stores own) ≡ after → i < length before
    → (Memᴰ (line_of i) lines → ⊥) → Lasting flushing before after lines → ⊥
no_line_out before after lines own i q w out l =
    let u = reads after i in
    let own' = twice own i (suc u) u in
    let made = twice_same before after own i (suc u) q in
    let c = any_store before own' lines i (suc u) out w (in_twice own i (suc u) u) in
    let same : set after i (suc u) ≡ after = ap (λ x. set x i (suc u)) (sym made) ∙ l.lasts own' made _ c in
    let len : length after ≡ length before = sym (ap length q) ∙ length_apply before (stores own) in
    let z : suc u ≡ u = sym (get_or-set_same after i (suc u) 0 (omega (arith, len, w))) ∙ ap (λ m. reads m i) same in
    absurd (omega (arith, z))

-- what is said of either module, by its clauses
refines_on : (on : Module) (m : List ℕ) (segs : List (List Store)) (k : ℕ) (m' : List ℕ) → CrashOn on m (entries_on on (segmented segs)) k m'
    → CrashImage m (segmented segs) (ours_on on (segmented segs) k) m'
refines_on plain m segs k m' c = c
refines_on flushing m segs k m' c = translator_laws.refines m (segmented segs) k m' (translator_laws.in_segments segs).0 c

passed_on : (on : Module) (segs : List (List Store)) (k : ℕ)
    → passed (entries_on on (segmented segs)) k ↔ passed (segmented segs) (ours_on on (segmented segs) k)
passed_on plain segs k = (λ p. p, λ p. p)
passed_on flushing segs k = translator_laws.passed_alike (segmented segs) k (translator_laws.in_segments segs).0

as_far_on : (on : Module) (segs : List (List Store)) (k : ℕ) → k ≤ length (segmented segs)
    → (k' : ℕ) × (k' ≤ length (entries_on on (segmented segs))) × (ours_on on (segmented segs) k' ≡ k)
as_far_on plain segs k h = (k, h, refl)
as_far_on flushing segs k h = as_far_lem (segmented segs) k (translator_laws.in_segments segs).0 h

possible_on : (on : Module) (m : List ℕ) (segs : List (List Store)) (k : ℕ) (m' : List ℕ) → k ≤ length (entries_on on (segmented segs))
    → CrashImage m (segmented segs) (ours_on on (segmented segs) k) m' → CrashOn on m (entries_on on (segmented segs)) k m'
possible_on plain m segs k m' h c = c
possible_on flushing m segs k m' h c = translator_laws.as_possible m (segmented segs) k m' (translator_laws.in_segments segs).0 h c

lasting_on : (on : Module) (before after lines : List ℕ) → EachLine before lines → Lasting on before after lines
lasting_on plain before after lines cover =
    record { lasts = λ own q m c. (crash_laws.all_done before (stores own) m).0 c ∙ own_barrier before own ∙ q }
lasting_on flushing before after lines cover = record { lasts = λ own q m c. own_writes_laws.lasting before own lines m cover c ∙ q }

pub module_laws : ModuleLaws
module_laws = record {
  refines = refines_on;
  passed_alike = passed_on;
  as_far_lem = as_far_on;
  as_possible = possible_on;
  each_line_lasts = lasting_on;
  left_out = no_line_out;
  lost_whole = λ m segs k h. flush_crash_laws.untranslated m (segmented segs) k (translator_laws.in_segments segs).0 h;
}
