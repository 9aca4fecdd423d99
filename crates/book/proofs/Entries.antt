-- What holds of every element of a list, and of each store of a script in segments.
use mathlib.Core.Path.{refl, sym, subst}
use mathlib.Core.Logic.{inl, inr}
use mathlib.Core.List.{List, [], ◌∷◌, ◌++◌, flat_map}
use mathlib.Core.List.Memᴰ
use mathlib.Core.List.{Memᴰ}
use Prim.Native.Nat.{ℕ}
use Rattle.tree.specs.Memory.{store, Store, segmented}
use Rattle.tree.proofs.Memory.{segment_laws}

-- ---- every element of a list

abbrev pub Each : {A : Type 0} → (A → Type 0) → List A → Type 0
Each P [] = Unit {0}
Each P (x ∷ xs) = P x × Each P xs

module _ {A : Type 0} (P : A → Type 0) where
  pub each_at : (xs : List A) {a : A} → Each P xs → Memᴰ a xs → P a
  each_at [] e x = absurd (Memᴰ.not-nil x)
  each_at (y ∷ xs) e x = elim (Memᴰ.cases_cons x) [ inl q ↦ subst P (sym q) e.0 | inr z ↦ each_at xs e.1 z ]

  pub each_append : (xs ys : List A) → Each P xs → Each P ys → Each P (xs ++ ys)
  each_append [] ys e h = h
  each_append (x ∷ xs) ys e h = (e.0, each_append xs ys e.1 h)

  pub each_flat_map : {B : Type 0} (f : B → List A) (xs : List B) → ((b : B) → Memᴰ b xs → Each P (f b)) → Each P (flat_map f xs)
  unfolding flat_map
  each_flat_map f [] h = tt
  each_flat_map f (x ∷ xs) h = each_append (f x) (flat_map f xs) (h x (Memᴰ.head refl)) (each_flat_map f xs (λ b y. h b (Memᴰ.tail y)))

-- a store of a script in segments is a store of one of them
pub each_entry : (P : Store → Type 0) (segs : List (List Store)) → Each (Each P) segs → (i v : ℕ) → Memᴰ (store i v) (segmented segs) → P (i, v)
each_entry P segs e i v x = let t = segment_laws.stored_in segs i v x in each_at P t.0 (each_at (Each P) segs e t.1) t.2
