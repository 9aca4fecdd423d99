-- Laws of the lists in specs/Lists.antt, and of lists put together or made from others.
use mathlib.Core.Path.{◌≡◌, refl, sym, ◌∙◌, ap, ap₂, subst}
use mathlib.Core.Bool.{Bool, true, false, ◌&&◌, and_assoc}
use mathlib.Core.Logic.{◌⊎◌, inl, inr, ◌↔◌, ◌≢◌}
use mathlib.Core.List.Memᴰ
use mathlib.Core.List.{List, [], ◌∷◌, ◌++◌, append_assoc, map, map-append, flat_map}
use mathlib.Core.List.{Memᴰ}
use Prim.Native.Nat.{ℕ, zero, suc, ◌+◌, ◌-◌, ◌≤◌, ◌<◌}
use native.Mathlib.Omega.{arith}
use native.Mathlib.Numerals.{add-one}
use native.Mathlib.Decide.{ℕ_discrete}
use lib.ListN.{length, get_or}
use Rattle.tree.specs.Lists.{range, up_to, keep, every}
use Rattle.tree.proofs.Cases.{test, and-true, true_and, and_swap}

-- ---- membership

-- by an element's index
module _ {A : Type 0} (d : A) where
  pub at_index : (xs : List A) (i : ℕ) → i < length xs → Memᴰ (get_or xs i d) xs
  at_index [] i h = absurd (omega arith)
  at_index (x ∷ xs) zero h = Memᴰ.head refl
  at_index (x ∷ xs) (suc i) h = Memᴰ.tail (at_index xs i (omega arith))

  pub index_of : {x : A} {xs : List A} → Memᴰ x xs → (i : ℕ) × (i < length xs) × (get_or xs i d ≡ x)
  index_of (Memᴰ.head {x} {xs} q) = (0, omega arith, sym q)
  index_of (Memᴰ.tail {x} {xs} y) = let a = index_of y in (suc a.0, omega (arith, a.1), a.2)

-- an element of some of the lists that are put together
pub record Within {A B : Type 0} (f : A → List B) (xs : List A) (b : B) : Type 0 where
  pub from : A
  pub member : Memᴰ from xs
  pub inside : Memᴰ b (f from)

module _ {A B : Type 0} (f : A → List B) where
  pub within : (xs : List A) {b : B} → Memᴰ b (flat_map f xs) → Within f xs b
  unfolding flat_map
  within [] x = absurd (Memᴰ.not-nil x)
  within (a ∷ xs) {b} x = go (Memᴰ.append_cases (f a) x) (λ y. within xs y)
    where
      go : Memᴰ b (f a) ⊎ Memᴰ b (flat_map f xs) → (Memᴰ b (flat_map f xs) → Within f xs b) → Within f (a ∷ xs) b
      go (inl y) ih = record { from = a; member = Memᴰ.head refl; inside = y }
      go (inr y) ih = let t = ih y in record { from = t.from; member = Memᴰ.tail t.member; inside = t.inside }

  pub together : {a : A} {xs : List A} {b : B} → Memᴰ a xs → Memᴰ b (f a) → Memᴰ b (flat_map f xs)
  unfolding flat_map
  together {b = b} (Memᴰ.head {x} {xs} q) y = Memᴰ.append_left (flat_map f xs) (subst (λ t. Memᴰ b (f t)) q y)
  together (Memᴰ.tail {x} x') y = Memᴰ.append_right (f x) (together x' y)

-- ---- lists put together, and lists made from others

-- lists that agree at every element are put together alike
pub flat_map_cong : {A B : Type 0} (f f' : A → List B) (xs : List A) → ((a : A) → Memᴰ a xs → f a ≡ f' a) → flat_map f xs ≡ flat_map f' xs
unfolding flat_map
flat_map_cong f f' [] h = refl
flat_map_cong f f' (x ∷ xs) h = ap₂ ◌++◌ (h x (Memᴰ.head refl)) (flat_map_cong f f' xs (λ a y. h a (Memᴰ.tail y)))

pub map_cong : {A B : Type 0} (f f' : A → B) (xs : List A) → ((a : A) → Memᴰ a xs → f a ≡ f' a) → map f xs ≡ map f' xs
map_cong f f' [] h = refl
map_cong f f' (x ∷ xs) h = ap₂ ◌∷◌ (h x (Memᴰ.head refl)) (map_cong f f' xs (λ a y. h a (Memᴰ.tail y)))

pub flat_map_append : {A B : Type 0} (f : A → List B) (xs ys : List A) → flat_map f (xs ++ ys) ≡ flat_map f xs ++ flat_map f ys
unfolding flat_map
flat_map_append f [] ys = refl
flat_map_append f (x ∷ xs) ys = ap (λ zs. f x ++ zs) (flat_map_append f xs ys) ∙ sym (append_assoc (f x) (flat_map f xs) (flat_map f ys))

pub flat_map_map : {A B C : Type 0} (h : A → B) (f : B → List C) (xs : List A) → flat_map f (map h xs) ≡ flat_map (λ x. f (h x)) xs
unfolding flat_map
flat_map_map h f [] = refl
flat_map_map h f (x ∷ xs) = ap (λ zs. f (h x) ++ zs) (flat_map_map h f xs)

pub map_flat_map : {A B C : Type 0} (h : B → C) (f : A → List B) (xs : List A) → map h (flat_map f xs) ≡ flat_map (λ x. map h (f x)) xs
unfolding flat_map
map_flat_map h f [] = refl
map_flat_map h f (x ∷ xs) = map-append h (f x) (flat_map f xs) ∙ ap (λ zs. map h (f x) ++ zs) (map_flat_map h f xs)

-- ---- the numbers below a bound

pub in_range_lem : (from n : ℕ) {c : ℕ} → Memᴰ c (range from n) → (from ≤ c) × (c < from + n)
unfolding range
in_range_lem from zero x = absurd (Memᴰ.not-nil x)
in_range_lem from (suc n) x = elim (Memᴰ.cases_cons x) [ inl q ↦ omega arith | inr y ↦ let t = in_range_lem (suc from) n y in omega arith ]

pub range_has : (from n : ℕ) {c : ℕ} → from ≤ c → c < from + n → Memᴰ c (range from n)
unfolding range
range_has from zero l h = absurd (omega arith)
range_has from (suc n) {c} l h = elim (ℕ_discrete c from) [
  | yes q ↦ Memᴰ.head q
  | no q ↦ Memᴰ.tail (range_has (suc from) n (omega arith) (omega arith))
]

-- those from one up to a bound: it, then those after it
pub range_next : (from to : ℕ) → from < to → range from (to - from) ≡ from ∷ range (from + 1) (to - (from + 1))
unfolding range
range_next from to h = let e : to - from ≡ suc (to - suc from) = omega arith in rw (e, add-one from) refl

pub up_to_members : (n : ℕ) {c : ℕ} → Memᴰ c (up_to n) ↔ (c < n)
unfolding up_to
up_to_members n {c} = (λ x. omega (arith, in_range_lem 0 n x), λ h. range_has 0 n (omega arith) (omega arith))

-- ---- what a test keeps

module _ {A : Type 0} where
  pub kept : (p : A → Bool) (xs : List A) {a : A} → Memᴰ a (keep p xs) → Memᴰ a xs × (p a ≡ true)
  unfolding keep
  kept p [] x = absurd (Memᴰ.not-nil x)
  kept p (y ∷ xs) {a} x = go (test (p y)) (λ z. kept p xs z)
    where
      go : (p y ≡ true) ⊎ (p y ≡ false) → (Memᴰ a (keep p xs) → Memᴰ a xs × (p a ≡ true)) → Memᴰ a (y ∷ xs) × (p a ≡ true)
      go (inl e) ih = elim (Memᴰ.cases_cons (rw e at x)) [ inl q ↦ (Memᴰ.head q, ap p q ∙ e) | inr z ↦ let t = ih z in (Memᴰ.tail t.0, t.1) ]
      go (inr e) ih = let t = ih (rw e at x) in (Memᴰ.tail t.0, t.1)

  pub keeps : (p : A → Bool) {a : A} {xs : List A} → Memᴰ a xs → p a ≡ true → Memᴰ a (keep p xs)
  unfolding keep
  keeps p (Memᴰ.head {x} {xs} q) e = rw (sym (ap p q) ∙ e) (Memᴰ.head q)
  keeps p (Memᴰ.tail {x} {xs} y) e = elim (test (p x)) [ inl t ↦ rw t (Memᴰ.tail (keeps p y e)) | inr t ↦ rw t (keeps p y e) ]

  pub keep_same : (p q : A → Bool) (xs : List A) → ((x : A) → Memᴰ x xs → p x ≡ q x) → keep p xs ≡ keep q xs
  unfolding keep
  keep_same p q [] h = refl
  keep_same p q (x ∷ xs) h = rw (h x (Memᴰ.head refl), keep_same p q xs (λ y z. h y (Memᴰ.tail z))) refl

  pub keep_all : (p : A → Bool) (xs : List A) → ((x : A) → Memᴰ x xs → p x ≡ true) → keep p xs ≡ xs
  unfolding keep
  keep_all p [] h = refl
  keep_all p (x ∷ xs) h = rw (h x (Memᴰ.head refl)) (ap (λ l. x ∷ l) (keep_all p xs (λ y z. h y (Memᴰ.tail z))))

  pub keep_none : (p : A → Bool) (xs : List A) → ((x : A) → Memᴰ x xs → p x ≡ false) → keep p xs ≡ []
  unfolding keep
  keep_none p [] h = refl
  keep_none p (x ∷ xs) h = rw (h x (Memᴰ.head refl)) (keep_none p xs (λ y z. h y (Memᴰ.tail z)))

-- the first number that a test keeps, and the others
pub keep_first : (p q : ℕ → Bool) (from n t : ℕ) → from ≤ t → t < from + n → ((k : ℕ) → from ≤ k → k < t → p k ≡ false) → p t ≡ true → q t ≡ false
    → ((k : ℕ) → k ≢ t → q k ≡ p k) → keep p (range from n) ≡ t ∷ keep q (range from n)
unfolding keep range
keep_first p q from zero t l h below e f other = absurd (omega arith)
keep_first p q from (suc n) t l h below e f other = elim (ℕ_discrete from t) [
  | yes s ↦
      let others = keep_same p q (range (suc from) n) (λ k x. sym (other k (λ z. omega (arith, in_range_lem (suc from) n x)))) in
      rw (s, e, f, ← s, others) refl
  | no s ↦
      let off = below from (omega arith) (omega arith) in
      rw (off, other from s, off) (keep_first p q (suc from) n t (omega arith) (omega arith) (λ k a b. below k (omega arith) b) e f other)
]

-- ---- a test of every element

module _ {A : Type 0} where
  pub every_at : (p : A → Bool) {a : A} {xs : List A} → every p xs ≡ true → Memᴰ a xs → p a ≡ true
  unfolding every
  every_at p h (Memᴰ.head {x} {xs} q) = ap p q ∙ (and-true (p x) (every p xs) h).0
  every_at p h (Memᴰ.tail {x} {xs} y) = every_at p (and-true (p x) (every p xs) h).1 y

  pub at_every : (p : A → Bool) (xs : List A) → ((a : A) → Memᴰ a xs → p a ≡ true) → every p xs ≡ true
  unfolding every
  at_every p [] h = refl
  at_every p (x ∷ xs) h = true_and (h x (Memᴰ.head refl)) (at_every p xs (λ a y. h a (Memᴰ.tail y)))

  pub every_cong : (p q : A → Bool) (xs : List A) → ((a : A) → p a ≡ q a) → every p xs ≡ every q xs
  unfolding every
  every_cong p q [] h = refl
  every_cong p q (x ∷ xs) h = ap₂ ◌&&◌ (h x) (every_cong p q xs h)

  -- two tests at once
  pub every_and : (p q : A → Bool) (xs : List A) → every (λ x. p x && q x) xs ≡ every p xs && every q xs
  unfolding every
  every_and p q [] = refl
  every_and p q (x ∷ xs) =
      rw (every_and p q xs) (and_assoc (p x) (q x) _ ∙ ap (λ t. p x && t) (and_swap (q x) (every p xs) (every q xs)) ∙ sym (and_assoc (p x) (every p xs) _))

  pub every_append : (p : A → Bool) (xs ys : List A) → every p (xs ++ ys) ≡ every p xs && every p ys
  unfolding every
  every_append p [] ys = refl
  every_append p (x ∷ xs) ys = rw (every_append p xs ys) (sym (and_assoc (p x) (every p xs) (every p ys)))

module _ {A B : Type 0} where
  pub every_flat_map : (p : B → Bool) (f : A → List B) (xs : List A) → every p (flat_map f xs) ≡ every (λ x. every p (f x)) xs
  unfolding every flat_map
  every_flat_map p f [] = refl
  every_flat_map p f (x ∷ xs) = every_append p (f x) (flat_map f xs) ∙ ap (λ t. every p (f x) && t) (every_flat_map p f xs)

  pub every_map : (p : B → Bool) (f : A → B) (xs : List A) → every p (map f xs) ≡ every (λ x. p (f x)) xs
  unfolding every
  every_map p f [] = refl
  every_map p f (x ∷ xs) = ap (λ t. p (f x) && t) (every_map p f xs)
