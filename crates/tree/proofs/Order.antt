-- The nodes of a slot's tree come in the order of List, as `Before` says it by ways.
use mathlib.Core.Path.{◌≡◌, refl, sym, ◌∙◌}
use mathlib.Core.Logic.{◌⊎◌, inl, inr}
use mathlib.Core.List.Memᴰ
use mathlib.Core.List.{List, [], ◌∷◌, ◌++◌, flat_map, Memᴰ}
use Prim.Native.Nat.{ℕ, zero, suc, ◌+◌, ◌-◌, ◌<◌}
use native.Mathlib.Omega.{arith}
use lib.ListN.{length, get_or, length-append}
use Rattle.memory.specs.Words.{Memory}
use Rattle.tree.specs.Lists.{range, up_to}
use Rattle.tree.specs.declared.layout.Geometry.{Geometry}
use Rattle.tree.specs.Path.{levels}
use Rattle.tree.specs.Node.{child_of}
use Rattle.tree.specs.Slots.{Filled}
use Rattle.tree.specs.Reach.{Reaches, root, down}
use Rattle.tree.specs.Subtree.{Visit, Before, above, aside, children, subtree, tree}
use Rattle.tree.specs.Laws.{OrderLaws}
use Rattle.tree.proofs.Cases.{compared, less, same, more}
use Rattle.tree.proofs.Lists.{within, in_range_lem}
use Rattle.tree.proofs.Subtree.{children_lt, subtree_below}

-- each before all that come after it
abbrev Ordered : List Visit → Type 0
Ordered [] = Unit {0}
Ordered (v ∷ vs) = ((u : Visit) → Memᴰ u vs → Before v.way u.way) × Ordered vs

joined : (xs ys : List Visit) → Ordered xs → Ordered ys → ((u v : Visit) → Memᴰ u xs → Memᴰ v ys → Before u.way v.way)
    → Ordered (xs ++ ys)
joined [] ys a b h = b
joined (x ∷ xs) ys a b h = (
  λ u y. elim (Memᴰ.append_cases xs y) [ inl z ↦ a.0 u z | inr z ↦ h x u (Memᴰ.head refl) z ],
  joined xs ys a.1 b (λ u v y z. h u v (Memᴰ.tail y) z),
)

in_turn : (f : ℕ → List Visit) (from n : ℕ) → ((c : ℕ) → c < from + n → Ordered (f c))
    → ((c c' : ℕ) (u v : Visit) → c < c' → c' < from + n → Memᴰ u (f c) → Memᴰ v (f c') → Before u.way v.way)
    → Ordered (flat_map f (range from n))
unfolding range flat_map
in_turn f from zero o h = tt
in_turn f from (suc n) o h =
    joined (f from) (flat_map f (range (suc from) n)) (o from (omega arith))
    (in_turn f (suc from) n (λ c l. o c (omega arith)) (λ c c' u v l k. h c c' u v l (omega arith)))
    (λ u v y z.
    let t = within f (range (suc from) n) z in
    let r = in_range_lem (suc from) n t.member in
    h from t.from u v (omega arith) (omega arith) y t.inside)

after : (xs ys : List Visit) (v : Visit) → Ordered (xs ++ v ∷ ys) → (u : Visit) → Memᴰ u ys → Before v.way u.way
after [] ys v o = o.0
after (x ∷ xs) ys v o = after xs ys v o.1

module _ (g : Geometry) (m : Memory) {s : ℕ} where
  ordered : (left : ℕ) {w : List ℕ} {n : ℕ} → Reaches g m s w n → Ordered (subtree g m left w n)
  unfolding subtree up_to
  ordered zero r = tt
  ordered (suc left) {w} {n} r = (
    λ u x.
        let t = within below (range 0 (children g m (length w) n)) x in
        let i = in_range_lem 0 (children g m (length w) n) t.member in
        let b = subtree_below g m s left (step t.from (omega arith)) u t.inside in
        rw b.is (above w b.more t.from),
    in_turn below 0 (children g m (length w) n) (λ c l. ordered left (step c (omega arith)))
        (λ c c' u v l k y z.
        let b = subtree_below g m s left (step c (omega arith)) u y in
        let b' = subtree_below g m s left (step c' (omega arith)) v z in
        rw (b.is, b'.is) (aside w b.more b'.more c c' l)),
  )
    where
      below : ℕ → List Visit
      below c = subtree g m left (c ∷ w) (child_of g m n c)

      step : (c : ℕ) → c < children g m (length w) n → Reaches g m s (c ∷ w) (child_of g m n c)
      step c l = let k = (children_lt g m (length w) n c).0 l in down r k.0 k.1 refl

  pub in_order : Filled g m s → (earlier later : List Visit) (v : Visit) → tree g m s ≡ earlier ++ v ∷ later
      → (u : Visit) → Memᴰ u later → Before v.way u.way
  unfolding tree
  in_order b earlier later v q = after earlier later v (rw q at (ordered levels (root b refl)))

-- ---- it is an order

-- the child number of a way at a level: the last is that of level 0
at : List ℕ → ℕ → ℕ
at w k = get_or w (length w - suc k) 0

at_here : (below w : List ℕ) (c : ℕ) → at (below ++ c ∷ w) (length w) ≡ c
unfolding at
at_here [] w c = let e : suc (length w) - suc (length w) ≡ 0 = omega arith in rw e refl
at_here (b ∷ below) w c =
    let l = length-append below (c ∷ w) in
    let e : suc (length (below ++ c ∷ w)) - suc (length w) ≡ suc (length (below ++ c ∷ w) - suc (length w)) = omega (arith, l) in
    rw e (at_here below w c)

at_below : (below w : List ℕ) (k : ℕ) → k < length w → at (below ++ w) k ≡ at w k
unfolding at
at_below [] w k h = refl
at_below (b ∷ below) w k h =
    let l = length-append below w in
    let e : suc (length (below ++ w)) - suc k ≡ suc (length (below ++ w) - suc k) = omega (arith, l) in
    rw e (at_below below w k h)

at_child : (below w : List ℕ) (c k : ℕ) → k < length w → at (below ++ c ∷ w) k ≡ at w k
at_child below w c k h = at_below below (c ∷ w) k (omega arith) ∙ at_below (c ∷ []) w k h

-- two ways of which one comes before the other: the first is the other's start, or they part at a level
record Parts (w w' : List ℕ) : Type 0 where
  level : ℕ
  second_long : level < length w'
  same_above : (k : ℕ) → k < level → at w k ≡ at w' k
  lower : at w level < at w' level

record Above (w w' : List ℕ) : Type 0 where
  shorter : length w < length w'
  same : (k : ℕ) → k < length w → at w k ≡ at w' k

before_cases : {w w' : List ℕ} → Before w w' → Above w w' ⊎ Parts w w'
before_cases (above w below c) = inl (record {
  shorter = omega (arith, length-append below (c ∷ w));
  same = λ k h. sym (at_child below w c k h);
})
before_cases (aside w below below' c c' l) = inr (record {
  level = length w;
  second_long = omega (arith, length-append below' (c' ∷ w));
  same_above = λ k h. at_child below w c k h ∙ sym (at_child below' w c' k h);
  lower = omega (arith, at_here below w c, at_here below' w c');
})

asymmetric : (w w' : List ℕ) → Before w w' → Before w' w → ⊥
asymmetric w w' x y = go (before_cases x) (before_cases y)
  where
    go : Above w w' ⊎ Parts w w' → Above w' w ⊎ Parts w' w → ⊥
    go (inl a) (inl b) = omega (arith, a.shorter, b.shorter)
    go (inl a) (inr b) = omega (arith, b.lower, a.same b.level b.second_long)
    go (inr a) (inl b) = omega (arith, a.lower, b.same a.level a.second_long)
    go (inr a) (inr b) = elim (compared a.level b.level) [
      | less l ↦ omega (arith, a.lower, b.same_above a.level l)
      | same q ↦ omega (arith, rw q at a.lower, b.lower)
      | more l ↦ omega (arith, b.lower, a.same_above b.level l)
    ]

pub order_laws : OrderLaws
order_laws = record { asymmetric = asymmetric }
