-- Lists in which no key occurs twice: what the test says, and lists put together.
use mathlib.Core.Path.{◌≡◌, refl, sym, ◌∙◌, ap, ap₂, subst}
use mathlib.Core.Bool.{Bool, true, false, not, ◌&&◌, ◌||◌}
use mathlib.Core.Logic.{◌⊎◌, inl, inr, ◌≢◌}
use mathlib.Core.List.Memᴰ
use mathlib.Core.List.{List, [], ◌∷◌, ◌++◌, map, flat_map}
use mathlib.Core.List.{Memᴰ}
use Prim.Native.Nat.{ℕ, zero, suc, ◌<◌}
use native.Mathlib.Omega.{arith}
use lib.ListN.{length, get_or}
use lib.Dec.{eqb}
use borrow.Author.Tests.{eqb-true, eq-eqb, not-true}
use Rattle.tree.specs.Lists.{range, up_to, keep, has_key, distinct, Distinct, empty, onto}
use Rattle.tree.proofs.Cases.{test, true_not_false, not-false, and-true, or-true, or_left, or_right}
use Rattle.tree.proofs.Lists.{index_of, within, together, in_range_lem, kept}

module _ {A : Type 0} (key : A → ℕ) where
  -- ---- the test

  pub has_key_lem : {y : A} {xs : List A} → Memᴰ y xs → has_key key (key y) xs ≡ true
  unfolding has_key
  has_key_lem {y = y} (Memᴰ.head {x} {xs} q) = or_left (has_key key (key y) xs) (eq-eqb (key x) (key y) (ap key (sym q)))
  has_key_lem {y = y} (Memᴰ.tail {x} {xs} z) = or_right (eqb (key x) (key y)) (has_key_lem z)

  pub key_has : (k : ℕ) (xs : List A) → has_key key k xs ≡ true → (y : A) × Memᴰ y xs × (key y ≡ k)
  unfolding has_key
  key_has k [] h = absurd (true_not_false h refl)
  key_has k (x ∷ xs) h = go (or-true (eqb (key x) k) (has_key key k xs) h) (λ t. key_has k xs t)
    where
      go : (eqb (key x) k ≡ true) ⊎ (has_key key k xs ≡ true) → (has_key key k xs ≡ true → (y : A) × Memᴰ y xs × (key y ≡ k))
          → (y : A) × Memᴰ y (x ∷ xs) × (key y ≡ k)
      go (inl e) ih = (x, Memᴰ.head refl, eqb-true (key x) k e)
      go (inr e) ih = let t = ih e in (t.0, Memᴰ.tail t.1, t.2)

  pub distinct_says : (xs : List A) → distinct key xs ≡ true → Distinct key xs
  unfolding distinct
  distinct_says [] h = empty
  distinct_says (x ∷ xs) h =
      let t = and-true (not (has_key key (key x) xs)) (distinct key xs) h in
      onto {xs = xs} (λ y z q. true_not_false (rw q at (has_key_lem z)) (not-true (has_key key (key x) xs) t.0)) (distinct_says xs t.1)

  pub distinct_said : {xs : List A} → Distinct key xs → distinct key xs ≡ true
  unfolding distinct
  distinct_said empty = refl
  distinct_said (onto {x} {xs} a d) =
      let n : has_key key (key x) xs ≡ false = not-false (λ e. let t = key_has (key x) xs e in a t.0 t.1 t.2) in
      rw n (distinct_said d)

module _ {A : Type 0} {key : A → ℕ} where
  -- ---- its elements

  pub same_element : {xs : List A} {x y : A} → Distinct key xs → Memᴰ x xs → Memᴰ y xs → key x ≡ key y → x ≡ y
  same_element empty x y e = elim x [ ]
  same_element (onto a d) (Memᴰ.head q) (Memᴰ.head q') e = q ∙ sym q'
  same_element (onto a d) (Memᴰ.head q) (Memᴰ.tail z) e = absurd (a _ z (sym e ∙ ap key q))
  same_element (onto a d) (Memᴰ.tail z) (Memᴰ.head q) e = absurd (a _ z (e ∙ ap key q))
  same_element (onto a d) (Memᴰ.tail z) (Memᴰ.tail z') e = same_element d z z' e

  pub distinct_keep : (p : A → Bool) {xs : List A} → Distinct key xs → Distinct key (keep p xs)
  unfolding keep
  distinct_keep p empty = empty
  distinct_keep p (onto {x} {xs} a d) = elim (test (p x)) [
    | inl e ↦ rw e (onto (λ y z. a y (kept p xs z).0) (distinct_keep p d))
    | inr e ↦ rw e (distinct_keep p d)
  ]

  -- ---- lists put together

  distinct_left : (xs ys : List A) → Distinct key (xs ++ ys) → Distinct key xs
  distinct_left [] ys d = empty
  distinct_left (x ∷ xs) ys (onto a d) = onto (λ y z. a y (Memᴰ.append_left ys z)) (distinct_left xs ys d)

  distinct_right : (xs : List A) {ys : List A} → Distinct key (xs ++ ys) → Distinct key ys
  distinct_right [] d = d
  distinct_right (x ∷ xs) (onto a d) = distinct_right xs d

  distinct_apart : (xs : List A) {ys : List A} {x y : A} → Distinct key (xs ++ ys) → Memᴰ x xs → Memᴰ y ys → key x ≢ key y
  distinct_apart [] d z t e = Memᴰ.not-nil z
  distinct_apart (x ∷ xs) {y = y} (onto a d) z t e = elim (Memᴰ.cases_cons z) [
    | inl q ↦ a y (Memᴰ.append_right xs t) (sym e ∙ ap key q)
    | inr z' ↦ distinct_apart xs d z' t e
  ]

  pub distinct_append : {xs ys : List A} → Distinct key xs → Distinct key ys → ((x y : A) → Memᴰ x xs → Memᴰ y ys → key x ≢ key y)
      → Distinct key (xs ++ ys)
  distinct_append empty e h = e
  distinct_append {ys = ys} (onto {x} {xs} a d) e h =
      onto (λ y z q. elim (Memᴰ.append_cases xs {t = ys} z) [ inl t ↦ a y t q | inr t ↦ h x y (Memᴰ.head refl) t (sym q) ])
      (distinct_append d e (λ v y z t. h v y (Memᴰ.tail z) t))

module _ {A B : Type 0} {key : B → ℕ} (f : A → List B) where
  -- each of the lists is distinct
  pub distinct_part : {s : A} {ss : List A} → Distinct key (flat_map f ss) → Memᴰ s ss → Distinct key (f s)
  unfolding flat_map
  distinct_part d (Memᴰ.head {x} {xs} q) = subst (λ t. Distinct key (f t)) (sym q) (distinct_left (f x) (flat_map f xs) d)
  distinct_part d (Memᴰ.tail {x} {xs} y) = distinct_part (distinct_right (f x) d) y

  -- and no key is in two of them
  pub same_part : {s : A} {ss : List A} {s' : A} {b b' : B} → Distinct key (flat_map f ss) → Memᴰ s ss → Memᴰ b (f s) → Memᴰ s' ss → Memᴰ b' (f s')
      → key b ≡ key b' → s ≡ s'
  unfolding flat_map
  same_part d (Memᴰ.head q) x (Memᴰ.head q') x' e = q ∙ sym q'
  same_part {b = b} d (Memᴰ.head {x = z} q) x (Memᴰ.tail y') x' e =
      absurd (distinct_apart (f z) d (subst (λ t. Memᴰ b (f t)) q x) (together f y' x') e)
  same_part {b' = b'} d (Memᴰ.tail y) x (Memᴰ.head {x = z} q) x' e =
      absurd (distinct_apart (f z) d (subst (λ t. Memᴰ b' (f t)) q x') (together f y x) (sym e))
  same_part d (Memᴰ.tail {x = z} y) x (Memᴰ.tail y') x' e = same_part (distinct_right (f z) d) y x y' x' e

  -- lists that are distinct, with keys that tell their indices, are distinct together
  pub distinct_parts : {index : A → ℕ} {ss : List A} → Distinct index ss → ((s : A) → Memᴰ s ss → Distinct key (f s))
      → ((s s' : A) (b b' : B) → Memᴰ s ss → Memᴰ s' ss → Memᴰ b (f s) → Memᴰ b' (f s') → key b ≡ key b' → index s ≡ index s')
      → Distinct key (flat_map f ss)
  unfolding flat_map
  distinct_parts empty h k = empty
  distinct_parts (onto {x} {xs} a d) h k =
      distinct_append (h x (Memᴰ.head refl))
      (distinct_parts d (λ s y. h s (Memᴰ.tail y)) (λ s s' b b' y y'. k s s' b b' (Memᴰ.tail y) (Memᴰ.tail y')))
      (λ b b' y z e.
      let t = within f xs z in
      a t.from t.member (sym (k x t.from b b' (Memᴰ.head refl) (Memᴰ.tail t.member) y t.inside e)))

distinct_range : (from n : ℕ) → Distinct (λ c. c) (range from n)
unfolding range
distinct_range from zero = empty
distinct_range from (suc n) = onto {x = from} (λ y z q. let t = in_range_lem (suc from) n z in omega arith) (distinct_range (suc from) n)

pub distinct_up_to : (n : ℕ) → Distinct (λ c. c) (up_to n)
unfolding up_to
distinct_up_to n = distinct_range 0 n

-- keys that tell the elements of a distinct list
pub distinct_by : {A : Type 0} {index : A → ℕ} (key : A → ℕ) {xs : List A} → Distinct index xs
    → ((x y : A) → Memᴰ x xs → Memᴰ y xs → key x ≡ key y → index x ≡ index y) → Distinct key xs
distinct_by key empty h = empty
distinct_by key (onto {x} {xs} a d) h =
    onto (λ y z q. a y z (h y x (Memᴰ.tail z) (Memᴰ.head refl) q))
    (distinct_by key d (λ v y z z'. h v y (Memᴰ.tail z) (Memᴰ.tail z')))

-- what is kept of a list, by keys that tell the indices of what is kept
pub distinct_at : {A : Type 0} (d : A) (key : A → ℕ) (p : A → Bool) (xs : List A)
    → ((i j : ℕ) → i < length xs → j < length xs → p (get_or xs i d) ≡ true → p (get_or xs j d) ≡ true → key (get_or xs i d) ≡ key (get_or xs j d) → i ≡ j)
    → Distinct key (keep p xs)
unfolding keep
distinct_at d key p [] h = empty
distinct_at d key p (x ∷ xs) h =
    let below = distinct_at d key p xs (λ i j l l' e e' q. let z = h (suc i) (suc j) (omega arith) (omega arith) e e' q in omega arith) in
    elim (test (p x)) [
      | inl e ↦ rw e (onto (λ y z q.
          let k = kept p xs z in
          let i = index_of d k.0 in
          let n = h (suc i.0) 0 (omega (arith, i.1)) (omega arith) (ap p i.2 ∙ k.1) e (ap key i.2 ∙ q) in
          omega arith) below)
      | inr e ↦ rw e below
    ]

-- a list made from another, by the keys of what is made
pub distinct_made : {A B : Type 0} (f : A → B) (key : B → ℕ) {xs : List A} → Distinct (λ x. key (f x)) xs → Distinct key (map f xs)
distinct_made f key empty = empty
distinct_made f key (onto {x} {xs} a d) = onto (λ y z q. let t = Memᴰ.of_map f xs z in a t.0 t.1 (ap key t.2 ∙ q)) (distinct_made f key d)

pub distinct_map : {A : Type 0} {f : A → ℕ} {xs : List A} → Distinct f xs → Distinct (λ k. k) (map f xs)
distinct_map {f = f} d = distinct_made f (λ k. k) d

-- the test of such a list
module _ {A B : Type 0} (key : B → ℕ) (f : A → B) where
  has_made : (k : ℕ) (xs : List A) → has_key key k (map f xs) ≡ has_key (λ x. key (f x)) k xs
  unfolding has_key
  has_made k [] = refl
  has_made k (x ∷ xs) = ap (λ t. eqb (key (f x)) k || t) (has_made k xs)

  pub made_distinct : (xs : List A) → distinct key (map f xs) ≡ distinct (λ x. key (f x)) xs
  unfolding distinct
  made_distinct [] = refl
  made_distinct (x ∷ xs) = ap₂ (λ a b. not a && b) (has_made (key (f x)) xs) (made_distinct xs)
