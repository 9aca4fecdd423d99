-- Stretches and floors.
use mathlib.Core.Path.{◌≡◌, refl, sym, ap}
use mathlib.Core.Bool.{true}
use mathlib.Core.Logic.{inl, inr, ◌↔◌}
use mathlib.Core.Option.{Option, none, some}
use mathlib.Core.List.Memᴰ
use mathlib.Core.List.{List, [], ◌∷◌, ◌++◌, append-nil, Memᴰ}
use Prim.Native.Nat.{ℕ, ◌+◌, ◌≤◌, ◌<◌}
use native.Mathlib.Omega.{arith}
use native.Mathlib.Decide.{dec_le}
use lib.Dec.{leb}
use borrow.Author.Tests.{leb-true, leb-false, le-leb}
use Rattle.tree.specs.Lists.{keep, Distinct, empty, onto}
use Rattle.tree.proofs.Cases.{test, and-true, true_and}
use Rattle.tree.proofs.Lists.{kept, keeps}
use Rattle.sorting.specs.Sorted.{between, stretch, at_least, floor_step, floor_in, floor_from}
use Rattle.sorting.specs.Laws as order
use Rattle.sorting.specs.Laws.{Rises, SameNumbers}
use Rattle.sorting.specs.Stretches.{StretchLaws, IsFloor, FloorLaws}
use Rattle.sorting.proofs.Rising.{rises_only, order_laws}

-- ---- stretches

pub is_between : (a b x : ℕ) → (between a b x ≡ true) ↔ ((a ≤ x) × (x ≤ b))
is_between a b x = (
  λ e. let t = and-true (leb a x) (leb x b) e in (leb-true a x t.0, leb-true x b t.1),
  λ h. true_and (le-leb a x h.0) (le-leb x b h.1),
)

rises : (a b : ℕ) (xs : List ℕ) → Rises (stretch a b xs)
unfolding stretch
rises a b xs = order_laws.rises (keep (between a b) xs)

pub in_stretch : (a b : ℕ) (xs : List ℕ) (x : ℕ) → Memᴰ x (stretch a b xs) ↔ (Memᴰ x xs × (a ≤ x) × (x ≤ b))
unfolding stretch
in_stretch a b xs x = (
  λ m.
      let t = kept (between a b) xs (((order_laws.same (keep (between a b) xs)).members x).0 m) in
      let h = (is_between a b x).0 t.1 in
      (t.0, h.0, h.1),
  λ t. ((order_laws.same (keep (between a b) xs)).members x).1 (keeps (between a b) t.0 ((is_between a b x).1 (t.1, t.2))),
)

-- a list that rises and has exactly these numbers is the stretch
pub is_stretch : (a b : ℕ) (xs ys : List ℕ) → Rises ys → ((x : ℕ) → Memᴰ x ys ↔ (Memᴰ x xs × (a ≤ x) × (x ≤ b))) → ys ≡ stretch a b xs
is_stretch a b xs ys r h = rises_only r (rises a b xs) (λ z m. (in_stretch a b xs z).1 ((h z).0 m)) (λ z m. (h z).1 ((in_stretch a b xs z).0 m))

alike : (a b : ℕ) (xs ys : List ℕ) → SameNumbers xs ys → stretch a b xs ≡ stretch a b ys
alike a b xs ys s = is_stretch a b ys (stretch a b xs) (rises a b xs) (λ x. (
  λ m. let t = (in_stretch a b xs x).0 m in ((s.members x).0 t.0, t.1, t.2),
  λ t. (in_stretch a b xs x).1 ((s.members x).1 t.0, t.1, t.2),
))

append_rises : {xs ys : List ℕ} → Rises xs → Rises ys → ((x y : ℕ) → Memᴰ x xs → Memᴰ y ys → x < y) → Rises (xs ++ ys)
append_rises order.none s h = s
append_rises {ys = ys} (order.more {x = x} {xs = xs} a r) s h =
    order.more {x = x} (λ y m. elim (Memᴰ.append_cases xs {t = ys} m) [ inl n ↦ a y n | inr n ↦ h x y (Memᴰ.head refl) n ])
    (append_rises r s (λ z y m n. h z y (Memᴰ.tail m) n))

parts : (a c b : ℕ) (xs : List ℕ) → a ≤ c + 1 → c ≤ b → stretch a b xs ≡ stretch a c xs ++ stretch (c + 1) b xs
parts a c b xs l h = sym (is_stretch a b xs (stretch a c xs ++ stretch (c + 1) b xs)
    (append_rises (rises a c xs) (rises (c + 1) b xs) (λ x y m n. omega (arith, ((in_stretch a c xs x).0 m).2, ((in_stretch (c + 1) b xs y).0 n).1)))
    (λ x. (
      λ m. elim (Memᴰ.append_cases (stretch a c xs) m) [
        | inl n ↦ let t = (in_stretch a c xs x).0 n in (t.0, t.1, omega (arith, t.2))
        | inr n ↦ let t = (in_stretch (c + 1) b xs x).0 n in (t.0, omega (arith, t.1), t.2)
      ],
      λ t. elim (dec_le x c) [
        | yes k ↦ Memᴰ.append_left (stretch (c + 1) b xs) ((in_stretch a c xs x).1 (t.0, t.1, k))
        | no k ↦ Memᴰ.append_right (stretch a c xs) ((in_stretch (c + 1) b xs x).1 (t.0, omega arith, t.2))
      ],
    )))

-- a list that rises has each number once
once_each : {xs : List ℕ} → Rises xs → Distinct (λ x. x) xs
once_each order.none = empty
once_each (order.more {x = x} {xs = xs} a r) = onto {x = x} {xs = xs} (λ y m q. let h = a y m in omega arith) (once_each r)

pub stretch_laws : StretchLaws
stretch_laws = record { rises = rises; members = in_stretch; once = λ a b xs. once_each (rises a b xs); alike = alike; parts = parts }

-- ---- floors

-- what a floor is of a list
pub data Floor (b : ℕ) (xs : List ℕ) : Option ℕ → Type 0 where
  here : {x : ℕ} → IsFloor b xs x → Floor b xs (some x)
  nowhere : ((y : ℕ) → Memᴰ y xs → y ≤ b → ⊥) → Floor b xs none

pub floor_none : (b : ℕ) → Floor b [] none
floor_none b = nowhere (λ y m l. Memᴰ.not-nil m)

-- one number more
pub floor_past : {b x : ℕ} {xs : List ℕ} {o : Option ℕ} → (x ≤ b → ⊥) → Floor b xs o → Floor b (x ∷ xs) o
floor_past {b} {x} n (here i) = here (record {
  member = Memᴰ.tail i.member;
  low = i.low;
  greatest = λ y m l. elim (Memᴰ.cases_cons m) [ inl q ↦ absurd (n (omega arith)) | inr k ↦ i.greatest y k l ];
})
floor_past {b} {x} n (nowhere h) = nowhere (λ y m l. elim (Memᴰ.cases_cons m) [ inl q ↦ absurd (n (omega arith)) | inr k ↦ h y k l ])

floor_on : {b x : ℕ} {xs : List ℕ} {o : Option ℕ} → x ≤ b → Floor b xs o → Floor b (x ∷ xs) (some (at_least x o))
floor_on {b} {x} l (here {x = y} i) = elim (test (leb x y)) [
  | inl e ↦ rw e (here (record {
    member = Memᴰ.tail i.member;
    low = i.low;
    greatest = λ z m k. elim (Memᴰ.cases_cons m) [ inl q ↦ omega (arith, leb-true x y e) | inr n ↦ i.greatest z n k ];
  }))
  | inr e ↦ rw e (here (record {
    member = Memᴰ.head refl;
    low = l;
    greatest = λ z m k. elim (Memᴰ.cases_cons m) [ inl q ↦ omega arith | inr n ↦ omega (arith, i.greatest z n k, leb-false x y e) ];
  }))
]
floor_on {b} {x} l (nowhere h) = here (record {
  member = Memᴰ.head refl;
  low = l;
  greatest = λ z m k. elim (Memᴰ.cases_cons m) [ inl q ↦ omega arith | inr n ↦ absurd (h z n k) ];
})

floor_step_lem : {b : ℕ} {xs : List ℕ} {o : Option ℕ} (x : ℕ) → Floor b xs o → Floor b (x ∷ xs) (floor_step b x o)
floor_step_lem {b} x f = elim (test (leb x b)) [
  | inl e ↦ rw e (floor_on (leb-true x b e) f)
  | inr e ↦ rw e (floor_past (λ l. omega (arith, leb-false x b e)) f)
]

pub floor_is : (b : ℕ) (xs : List ℕ) → Floor b xs (floor_in b xs)
unfolding floor_in
floor_is b [] = floor_none b
floor_is b (x ∷ xs) = floor_step_lem x (floor_is b xs)

-- and it is the only one
pub floor_only : {b : ℕ} {xs : List ℕ} {o o' : Option ℕ} → Floor b xs o → Floor b xs o' → o ≡ o'
floor_only (here {x = x} i) (here {x = y} j) = let q : x ≡ y = omega (arith, i.greatest y j.member j.low, j.greatest x i.member i.low) in ap (λ z. some z) q
floor_only (here {x = x} i) (nowhere h) = absurd (h x i.member i.low)
floor_only (nowhere h) (here {x = x} i) = absurd (h x i.member i.low)
floor_only (nowhere h) (nowhere h') = refl

-- of lists with the same numbers
pub floor_same : {b : ℕ} {xs ys : List ℕ} {o : Option ℕ} → SameNumbers xs ys → Floor b xs o → Floor b ys o
floor_same s (here {x = x} i) = here (record {
  member = (s.members x).0 i.member;
  low = i.low;
  greatest = λ y m l. i.greatest y ((s.members y).1 m) l;
})
floor_same s (nowhere h) = nowhere (λ y m l. h y ((s.members y).1 m) l)

-- from the first number on
moved : (x : ℕ) (xs ys : List ℕ) → SameNumbers (xs ++ x ∷ ys) (x ∷ (xs ++ ys))
moved x xs ys = record {
  members = λ z. (
    λ m. elim (Memᴰ.append_cases xs {t = x ∷ ys} m) [
      | inl n ↦ Memᴰ.tail (Memᴰ.append_left ys n)
      | inr n ↦ elim (Memᴰ.cases_cons n) [ inl q ↦ Memᴰ.head q | inr k ↦ Memᴰ.tail (Memᴰ.append_right xs k) ]
    ],
    λ m. elim (Memᴰ.cases_cons m) [
      | inl q ↦ Memᴰ.append_right xs (Memᴰ.head q)
      | inr n ↦ elim (Memᴰ.append_cases xs {t = ys} n) [
        | inl k ↦ Memᴰ.append_left (x ∷ ys) k
        | inr k ↦ Memᴰ.append_right xs (Memᴰ.tail k)
      ]
    ],
  );
}

floor_from_lem : {b : ℕ} {ys : List ℕ} {o : Option ℕ} (xs : List ℕ) → Floor b ys o → Floor b (xs ++ ys) (floor_from b o xs)
unfolding floor_from
floor_from_lem [] f = f
floor_from_lem {b} {ys} {o} (x ∷ xs) f = floor_same (moved x xs ys) (floor_from_lem {o = floor_step b x o} xs (floor_step_lem x f))

from : (b : ℕ) (xs : List ℕ) → floor_from b none xs ≡ floor_in b xs
from b xs = floor_only (rw append-nil at (floor_from_lem xs (floor_none b))) (floor_is b xs)

from_parts : (b : ℕ) (o : Option ℕ) (xs ys : List ℕ) → floor_from b o (xs ++ ys) ≡ floor_from b (floor_from b o xs) ys
unfolding floor_from
from_parts b o [] ys = refl
from_parts b o (x ∷ xs) ys = from_parts b (floor_step b x o) xs ys

is_here : {b x : ℕ} {xs : List ℕ} {o : Option ℕ} → Floor b xs o → o ≡ some x → IsFloor b xs x
is_here {x = x} (here {x = y} i) e = let q : y ≡ x = cc in rw (← q) i
is_here (nowhere h) e = let z : ◌≡◌ {A = ℕ} 0 1 = cc in absurd (omega arith)

is_nowhere : {b : ℕ} {xs : List ℕ} {o : Option ℕ} → Floor b xs o → o ≡ none → (y : ℕ) → Memᴰ y xs → y ≤ b → ⊥
is_nowhere (here i) e = let z : ◌≡◌ {A = ℕ} 0 1 = cc in absurd (omega arith)
is_nowhere (nowhere h) e = h

pub floor_laws : FloorLaws
floor_laws = record {
  found = λ b xs x. (λ e. is_here (floor_is b xs) e, λ i. floor_only (floor_is b xs) (here i));
  none_below = λ b xs. (λ e. is_nowhere (floor_is b xs) e, λ h. floor_only (floor_is b xs) (nowhere h));
  alike = λ b xs ys s. floor_only (floor_same s (floor_is b xs)) (floor_is b ys);
  from = from;
  from_parts = from_parts;
}
