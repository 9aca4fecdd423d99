-- The entries up to the last barrier and those since: how the two parts of a script share them out.
use mathlib.Core.Path.{◌≡◌, refl, ◌∙◌, ap}
use mathlib.Core.Bool.{true, false, ◌||◌, or-true, or-false}
use mathlib.Core.Logic.{inl, inr, ◌↔◌, ◌≢◌}
use mathlib.Core.Option.{some}
use mathlib.Core.List.Memᴰ
use mathlib.Core.List.{List, [], ◌∷◌, ◌++◌, Memᴰ}
use Prim.Native.Nat.{ℕ, ◌≤◌}
use native.Mathlib.Nat.{le_refl}
use native.Mathlib.Omega.{arith}
use lib.ListN.{length, drop, get_elem?, drop_of_length-le}
use Rattle.memory.specs.Script.{Entry, store, barrier, flush}
use Rattle.memory.specs.Crash.{has_barrier, fenced, unfenced, passed}
use Rattle.memory.proofs.Cases.{test, clash}
use Rattle.memory.proofs.Lists.{number_from, element_from}

-- ---- whether there is a barrier

pub barrier_append : (es fs : List Entry) → has_barrier (es ++ fs) ≡ has_barrier es || has_barrier fs
unfolding has_barrier
barrier_append [] fs = refl
barrier_append (store i v ∷ es) fs = barrier_append es fs
barrier_append (barrier ∷ es) fs = refl
barrier_append (flush l ∷ es) fs = barrier_append es fs

pub a_barrier : (es : List Entry) → Memᴰ barrier es → has_barrier es ≡ true
unfolding has_barrier
a_barrier [] x = absurd (Memᴰ.not-nil x)
a_barrier (store i v ∷ es) x = elim (Memᴰ.cases_cons x) [
  | inl q ↦ let never : ◌≡◌ {A = ℕ} 0 1 = cc in absurd (omega arith)
  | inr y ↦ a_barrier es y
]
a_barrier (barrier ∷ es) x = refl
a_barrier (flush l ∷ es) x = elim (Memᴰ.cases_cons x) [
  | inl q ↦ let never : ◌≡◌ {A = ℕ} 0 1 = cc in absurd (omega arith)
  | inr y ↦ a_barrier es y
]

pub no_barrier : (es : List Entry) → (Memᴰ barrier es → ⊥) → has_barrier es ≡ false
unfolding has_barrier
no_barrier [] h = refl
no_barrier (store i v ∷ es) h = no_barrier es (λ x. h (Memᴰ.tail x))
no_barrier (barrier ∷ es) h = absurd (h (Memᴰ.head refl))
no_barrier (flush l ∷ es) h = no_barrier es (λ x. h (Memᴰ.tail x))

-- none after k entries, by their numbers
pub passed_means : (es : List Entry) (k : ℕ) → passed es k ↔ ((j : ℕ) → k ≤ j → get_elem? es j ≢ some barrier)
passed_means es k = (
  λ h j l q. clash (has_barrier (drop k es)) (a_barrier (drop k es) (element_from es k j l q)) h,
  λ h. no_barrier (drop k es) (λ x. let r = number_from es k x in h r.0 r.1 r.2),
)

pub passed_at_end : (es : List Entry) → passed es (length es)
unfolding has_barrier
passed_at_end es = rw (drop_of_length-le es (le_refl (length es))) refl

-- ---- two parts

-- `before` and `since` are the entries up to the last barrier of es, and those since
pub record Fenced (es before since : List Entry) : Type 0 where
  pub up_to : fenced es ≡ before
  pub after : unfenced es ≡ since

-- a barrier in the second part is after all of the first
pub barrier_later : (es fs : List Entry) → has_barrier fs ≡ true → Fenced (es ++ fs) (es ++ fenced fs) (unfenced fs)
unfolding fenced unfenced
barrier_later [] fs h = record { up_to = refl; after = refl }
barrier_later (e ∷ es) fs h =
    let q : has_barrier (e ∷ (es ++ fs)) ≡ true = barrier_append (e ∷ es) fs ∙ rw h (or-true (has_barrier (e ∷ es))) in
    let r = barrier_later es fs h in
    record { up_to = rw (q, r.up_to); after = rw (q, r.after) }

-- a second part with none is since the last barrier
pub none_later : (es fs : List Entry) → has_barrier fs ≡ false → Fenced (es ++ fs) (fenced es) (unfenced es ++ fs)
unfolding fenced unfenced
none_later [] [] h = record { up_to = refl; after = refl }
none_later [] (f ∷ fs) h = record { up_to = rw h; after = rw h }
none_later (e ∷ es) fs h =
    let q : has_barrier (e ∷ (es ++ fs)) ≡ has_barrier (e ∷ es) = barrier_append (e ∷ es) fs ∙ rw h (or-false (has_barrier (e ∷ es))) in
    let r = none_later es fs h in
    elim (test (has_barrier (e ∷ es))) [
      | inl t ↦ record { up_to = rw (q, t, r.up_to); after = rw (q, t, r.after) }
      | inr t ↦ record { up_to = rw (q, t); after = rw (q, t) }
    ]

-- ---- what is up to the last barrier, then what is since, is all

pub rejoined : (es : List Entry) → fenced es ++ unfenced es ≡ es
unfolding fenced unfenced
rejoined [] = refl
rejoined (e ∷ es) = elim (test (has_barrier (e ∷ es))) [ inl q ↦ rw q (ap (λ t. e ∷ t) (rejoined es)) | inr q ↦ rw q ]
