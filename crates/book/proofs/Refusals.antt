-- Laws of refusal lists: what the answer says of the tests.
use mathlib.Core.Path.{◌≡◌, refl}
use mathlib.Core.Bool.{Bool, true, false, ◌&&◌, ◌||◌, and-false}
use mathlib.Core.Logic.{◌⊎◌, inl, inr, ◌↔◌, ◌≢◌}
use mathlib.Core.List.{List, [], ◌∷◌, map, Memᴰ}
use Prim.Native.Nat.{ℕ, ◌≤◌, ◌<◌}
use native.Mathlib.Omega.{arith}
use lib.Dec.{eqb}
use borrow.Author.Tests.{ltb-false, leb-false, eqb-true, eqb-false, le-ltb, lt-leb, eq-eqb, ne_eqb, not-false}
use Rattle.tree.specs.Test.{Test, lt, le, eq, ne, is, ◌and◌, ◌or◌, holds, Says}
use Rattle.book.specs.Refusals.{Refusal, refusal}
use Rattle.tree.proofs.Cases.{test}
use Rattle.tree.proofs.Tests.{says, said}

-- what a test says where it does not hold
abbrev pub Denies : Test → Type 0
Denies (lt a b) = b ≤ a
Denies (le a b) = b < a
Denies (eq a b) = a ≢ b
Denies (ne a b) = a ≡ b
Denies (is b) = b ≡ false
Denies (t and u) = Denies t ⊎ Denies u
Denies (t or u) = Denies t × Denies u

both_false : (a b : Bool) → a && b ≡ false → (a ≡ false) ⊎ (b ≡ false)
both_false true b h = inr h
both_false false b h = inl refl

neither : (a b : Bool) → a || b ≡ false → (a ≡ false) × (b ≡ false)
neither true b h = let z : ◌≡◌ {A = ℕ} 0 1 = cc in absurd (omega arith)
neither false b h = (refl, h)

false_and : (a b : Bool) → (a ≡ false) ⊎ (b ≡ false) → a && b ≡ false
false_and a b (inl e) = rw e
false_and a b (inr e) = rw e (and-false a)

pub denies : (t : Test) → holds t ≡ false → Denies t
denies (lt a b) h = ltb-false a b h
denies (le a b) h = leb-false a b h
denies (eq a b) h = eqb-false a b h
denies (ne a b) h = eqb-true a b (not-false (eqb a b) h)
denies (is b) h = h
denies (t and u) h = elim (both_false (holds t) (holds u) h) [ inl x ↦ inl (denies t x) | inr x ↦ inr (denies u x) ]
denies (t or u) h = let p = neither (holds t) (holds u) h in (denies t p.0, denies u p.1)

pub denied : (t : Test) → Denies t → holds t ≡ false
denied (lt a b) h = le-ltb a b h
denied (le a b) h = lt-leb a b h
denied (eq a b) h = ne_eqb a b h
denied (ne a b) h = rw (eq-eqb a b h)
denied (is b) h = h
denied (t and u) h = false_and (holds t) (holds u) (elim h [ inl x ↦ inl (denied t x) | inr x ↦ inr (denied u x) ])
denied (t or u) h = rw (denied t h.0) (denied u h.1)

-- what a test says, as a fact that decides it
pub decided : (t : Test) {P : Type 0} → Says t ↔ P → (holds t ≡ true) ↔ P
decided t h = (λ e. h.0 (says t e), λ p. said t (h.1 p))

-- ---- an answer of 0

-- no test of a list holds
abbrev pub Passes : List Refusal → Type 0
Passes [] = Unit {0}
Passes (r ∷ rs) = Denies r.test × Passes rs

-- every number of a list is that of a refusal
abbrev pub Named : List Refusal → Type 0
Named [] = Unit {0}
Named (r ∷ rs) = (r.number ≢ 0) × Named rs

pub passes : (rs : List Refusal) → Named rs → refusal rs ≡ 0 → Passes rs
unfolding refusal
passes [] n h = tt
passes (r ∷ rs) n h = go (test (holds r.test)) (passes rs n.1)
  where
    go : (holds r.test ≡ true) ⊎ (holds r.test ≡ false) → (refusal rs ≡ 0 → Passes rs) → Denies r.test × Passes rs
    go (inl e) ih = absurd (n.0 (rw e at h))
    go (inr e) ih = (denies r.test e, ih (rw e at h))

-- the first test alone
pub first_passed : (r : Refusal) (rs : List Refusal) → r.number ≢ 0 → refusal (r ∷ rs) ≡ 0 → Denies r.test
unfolding refusal
first_passed r rs n h = elim (test (holds r.test)) [ inl e ↦ absurd (n (rw e at h)) | inr e ↦ denies r.test e ]

pub passed_all : (rs : List Refusal) → Passes rs → refusal rs ≡ 0
unfolding refusal
passed_all [] p = refl
passed_all (r ∷ rs) p = rw (denied r.test p.0) (passed_all rs p.1)

-- ---- a refusal

-- it is the number of one of the list
pub refusal_listed : (rs : List Refusal) → refusal rs ≢ 0 → Memᴰ (refusal rs) (map (λ r. r.number) rs)
unfolding refusal
refusal_listed [] h = absurd (h refl)
refusal_listed (r ∷ rs) h = go (test (holds r.test)) (refusal_listed rs)
  where
    go : (holds r.test ≡ true) ⊎ (holds r.test ≡ false) → (refusal rs ≢ 0 → Memᴰ (refusal rs) (map (λ x. x.number) rs))
        → Memᴰ (refusal (r ∷ rs)) (map (λ x. x.number) (r ∷ rs))
    go (inl e) ih = rw e (Memᴰ.head refl)
    go (inr e) ih = rw e (Memᴰ.tail (ih (λ q. h (rw e q))))

-- ---- one test after the other

pub refused_here : (r : Refusal) (rs : List Refusal) → holds r.test ≡ true → refusal (r ∷ rs) ≡ r.number
unfolding refusal
refused_here r rs e = rw e

pub refused_later : (r : Refusal) (rs : List Refusal) → holds r.test ≡ false → refusal (r ∷ rs) ≡ refusal rs
unfolding refusal
refused_later r rs e = rw e
