-- Scripts in segments, each of stores alone with a barrier after it: where a crash falls, and when all is carried out.
use mathlib.Core.Path.{◌≡◌, refl, sym, ◌∙◌, ap}
use mathlib.Core.Bool.{or-true}
use mathlib.Core.Logic.{inl, inr}
use mathlib.Core.List.Memᴰ
use mathlib.Core.List.{List, [], ◌∷◌, Memᴰ, append-eq-nil_iff}
use Prim.Native.Nat.{ℕ, ◌≤◌}
use native.Mathlib.Omega.{arith}
use lib.ListN.{length, take, drop, take-append-drop}
use lib.Seq.{take_all, drop-append-le}
use Rattle.memory.specs.Words.{reads}
use Rattle.memory.specs.Script.{store, barrier, Store, stores, segmented}
use Rattle.memory.specs.Crash.{apply, has_barrier, fenced, unfenced, CrashImage, passed}
use Rattle.memory.specs.Laws.{Torn, FallsIn, after_all, here, later}
use Rattle.memory.proofs.Cases.{clash}
use Rattle.memory.proofs.Lists.{mem_take}
use Rattle.memory.proofs.Fences.{Fenced, barrier_append, no_barrier, barrier_later, none_later}
use Rattle.memory.proofs.StoreLists.{length_stores, store_of, crash_none}
use Rattle.memory.proofs.Crash.{settled, unreached, crash_split}

-- ---- stores alone

-- they have no barrier
pub no_barrier_stores : (seg : List Store) → Memᴰ barrier (stores seg) → ⊥
unfolding stores
no_barrier_stores seg x = let z : ◌≡◌ {A = ℕ} 0 1 = cc (Memᴰ.of_map _ seg x).2 in omega arith

-- a crash among them leaves each word as it was or as one of them has it
pub torn : (m : List ℕ) (seg : List Store) (k : ℕ) (m' : List ℕ) → CrashImage m (stores seg) k m' → Torn m seg m'
unfolding apply fenced unfenced
torn m seg k m' c = let f = none_later [] _ (no_barrier (take k (stores seg)) (λ x. no_barrier_stores seg (mem_take k (stores seg) x))) in record {
  same_length = c.same_length;
  each = λ i. elim (rw (f.up_to, f.after) at (c.each i)) [ inl q ↦ inl q | inr x ↦ inr (store_of seg i (reads m' i) (mem_take k (stores seg) x)) ];
}

-- ---- segments

pub falls_in : (m : List ℕ) (segs : List (List Store)) (k : ℕ) (m' : List ℕ) → CrashImage m (segmented segs) k m' → FallsIn m' m segs
unfolding segmented
falls_in m [] k m' c = after_all (crash_none m k m' c)
falls_in m (seg ∷ segs) k m' c = elim (crash_split m (stores seg) (segmented segs) k m' c) [
  | inl x ↦ here (torn m seg k m' x)
  | inr t ↦ later (falls_in (apply m (stores seg)) segs t.0 m' t.1)
]

-- a script in segments is all up to its last barrier
pub all_fenced : (segs : List (List Store)) → Fenced (segmented segs) (segmented segs) []
unfolding segmented has_barrier fenced unfenced
all_fenced [] = record { up_to = refl; after = refl }
all_fenced (seg ∷ segs) = let f = barrier_later (stores seg) (barrier ∷ segmented segs) refl in let r = all_fenced segs in
    record { up_to = rw (f.up_to, r.up_to); after = rw (f.after, r.after) }

pub all_passed : (m : List ℕ) (segs : List (List Store)) (k : ℕ) (m' : List ℕ)
    → passed (segmented segs) k → CrashImage m (segmented segs) k m' → m' ≡ apply m (segmented segs)
all_passed m segs k m' h c =
    let es = segmented segs in let a = all_fenced segs in
    let f = rw take-append-drop at (none_later (take k es) (drop k es) h) in
    (settled m es k m' (record { up_to = sym f.up_to ∙ a.up_to; after = (append-eq-nil_iff.0 (sym f.after ∙ a.after)).0 }) c.within).0 c

-- ---- the first segment

stored_as : (seg : List Store) (i : ℕ) {v : ℕ} → Memᴰ (i, v) seg → Memᴰ (store i v) (stores seg)
unfolding stores
stored_as seg i x = Memᴰ.map (λ (s : Store). store s.0 s.1) x

-- the converse of the crash lemma there
pub torn_possible : (m : List ℕ) (seg : List Store) (segs : List (List Store)) (m' : List ℕ) → Torn m seg m'
    → CrashImage m (segmented (seg ∷ segs)) (length seg) m'
unfolding segmented apply fenced unfenced
torn_possible m seg segs m' t =
    let n = length_stores seg in
    let f = none_later [] (stores seg) (no_barrier (stores seg) (no_barrier_stores seg)) in
    (unreached m (stores seg) (barrier ∷ segmented segs) (length seg) m' (omega arith)).1 (record {
      within = omega arith;
      same_length = t.same_length;
      each = λ i. rw (take_all (length seg) (stores seg) (omega arith), f.up_to, f.after)
          (elim (t.each i) [ inl q ↦ inl q | inr x ↦ inr (stored_as seg i x) ]);
    })

pub left_to_pass : (k : ℕ) (seg : List Store) (segs : List (List Store)) → k ≤ length seg → passed (segmented (seg ∷ segs)) k → ⊥
unfolding segmented has_barrier
left_to_pass k seg segs l h =
    let n = length_stores seg in
    let rest = barrier ∷ segmented segs in
    let q = drop-append-le k (stores seg) rest (omega arith) in
    clash _ (ap has_barrier q ∙ barrier_append (drop k (stores seg)) rest ∙ or-true (has_barrier (drop k (stores seg)))) h
