-- The first node of a list at which a search ends below its bound.
use mathlib.Core.Path.{◌≡◌, refl, sym, ap}
use mathlib.Core.Bool.{true, false}
use mathlib.Core.Logic.{◌⊎◌, inl, inr}
use mathlib.Core.Option.{none, some}
use mathlib.Core.List.Memᴰ
use mathlib.Core.List.{List, [], ◌∷◌, ◌++◌, Memᴰ}
use Prim.Native.Nat.{ℕ, ◌≤◌, ◌<◌}
use lib.Dec.{ltb}
use borrow.Author.Tests.{ltb-true, ltb-false, lt-ltb, le-ltb}
use Rattle.tree.specs.Lookup.{spot, first_spot}
use Rattle.tree.specs.Laws.{FirstAt, SpotLaws}
use Rattle.tree.proofs.Cases.{test, some_inj, none_some}

module _ (search bound : ℕ → ℕ) where
  found : (ns : List ℕ) (n p : ℕ) → first_spot search bound ns ≡ some (spot n p) → FirstAt search bound ns n p
  unfolding first_spot
  found [] n p h = none_some h
  found (x ∷ ns) n p h = go (test (ltb (search x) (bound x))) (λ h'. found ns n p h')
    where
      go : (ltb (search x) (bound x) ≡ true) ⊎ (ltb (search x) (bound x) ≡ false) → (first_spot search bound ns ≡ some (spot n p) → FirstAt search bound ns n p)
          → FirstAt search bound (x ∷ ns) n p
      go (inl e) ih =
          let q = some_inj (rw e at h) in
          let qn : x ≡ n = ap (λ t. t.node) q in
          let qp : search x ≡ p = ap (λ t. t.place) q in
          let l : p < bound x = rw (← qp) (ltb-true (search x) (bound x) e) in
          rw (← qn) (record { above = []; below = ns; split = refl; is = qp; within = l; none_above = λ y z. absurd (Memᴰ.not-nil z) })
      go (inr e) ih = let t = ih (rw e at h) in record {
        above = x ∷ t.above;
        below = t.below;
        split = ap (λ l. x ∷ l) t.split;
        is = t.is;
        within = t.within;
        none_above = λ y z. elim (Memᴰ.cases_cons z) [ inl q ↦ rw q (ltb-false (search x) (bound x) e) | inr z' ↦ t.none_above y z' ];
      }

  was_first : (above below : List ℕ) (n : ℕ) → search n < bound n → ((x : ℕ) → Memᴰ x above → bound x ≤ search x)
      → first_spot search bound (above ++ n ∷ below) ≡ some (spot n (search n))
  unfolding first_spot
  was_first [] below n h k = rw (lt-ltb (search n) (bound n) h)
  was_first (x ∷ above) below n h k = rw (le-ltb (search x) (bound x) (k x (Memᴰ.head refl))) (was_first above below n h (λ y z. k y (Memᴰ.tail z)))

  nowhere : (ns : List ℕ) → first_spot search bound ns ≡ none → (n : ℕ) → Memᴰ n ns → bound n ≤ search n
  unfolding first_spot
  nowhere [] h n z = absurd (Memᴰ.not-nil z)
  nowhere (x ∷ ns) h n z = elim (test (ltb (search x) (bound x))) [
    | inl e ↦ none_some (sym (rw e at h))
    | inr e ↦ elim (Memᴰ.cases_cons z) [ inl q ↦ rw q (ltb-false (search x) (bound x) e) | inr z' ↦ nowhere ns (rw e at h) n z' ]
  ]

  was_nowhere : (ns : List ℕ) → ((n : ℕ) → Memᴰ n ns → bound n ≤ search n) → first_spot search bound ns ≡ none
  unfolding first_spot
  was_nowhere [] h = refl
  was_nowhere (x ∷ ns) h = rw (le-ltb (search x) (bound x) (h x (Memᴰ.head refl))) (was_nowhere ns (λ n z. h n (Memᴰ.tail z)))

  pub spot_laws : (ns : List ℕ) → SpotLaws search bound ns
  spot_laws ns = record {
    found = λ n p. (found ns n p, λ t. rw (t.split, ← t.is) (was_first t.above t.below n (rw t.is t.within) t.none_above));
    nowhere = (nowhere ns, was_nowhere ns);
  }
