-- A walk over stops: what it tests of each apart from what it meets, the nodes it meets, and the map it leaves.
use mathlib.Core.Path.{◌≡◌, refl, sym, ◌∙◌, ap}
use mathlib.Core.Bool.{Bool, true, false, cond, not, ◌&&◌, ◌||◌, and_assoc, and-true}
use mathlib.Core.Logic.{inl, inr}
use mathlib.Core.Option.{Option, none, some}
use mathlib.Core.List.{List, [], ◌∷◌, ◌++◌, map, Memᴰ}
use Prim.Native.Nat.{ℕ, ◌*◌, ◌<◌}
use lib.ListN.{length}
use lib.Dec.{eqb}
use borrow.Author.Tests.{eqb-true, eq-eqb}
use Rattle.tree.specs.Lists.{every, has_key, distinct}
use Rattle.tree.specs.declared.layout.Geometry.{Geometry}
use Rattle.tree.specs.Layout.{map_words}
use Rattle.tree.specs.Pool.{used, mark, mark_all, clear_map, map_of}
use Rattle.tree.proofs.Cases.{test, same_test, none_some, and_swap, or-true, or_left, or_right}
use Rattle.tree.proofs.Lists.{at_every}
use Rattle.tree.proofs.Laws.{pool_laws}
use Rattle.visits.specs.Walk.{Stop, walked, kept, then_walk}

-- ---- tests of a walk

module _ {A : Type 0} where
  tested_none : (r : Bool) → cond {A = Option A} r none none ≡ none
  tested_none true = refl
  tested_none false = refl

  tested_both : (a b : Bool) (o : Option A) → cond a (cond b o none) none ≡ cond (a && b) o none
  tested_both true b o = refl
  tested_both false b o = refl

  sift : (a b e : Bool) (o : Option A) → cond (a && b) (cond e o none) none ≡ cond (a && e) (cond b o none) none
  sift true true e o = refl
  sift true false e o = sym (tested_none e)
  sift false b e o = refl

-- the walk that asks nothing of a node but that it is not marked
abbrev pub met : List Stop → List ℕ → Option (List ℕ)
met xs pool = walked (λ x. true) xs pool

-- a walk is that one, if every node passes
pub walked_tests : (good : Stop → Bool) (xs : List Stop) (pool : List ℕ) → walked good xs pool ≡ cond (every good xs) (met xs pool) none
unfolding walked every
walked_tests good [] pool = refl
walked_tests good (x ∷ xs) pool =
    rw (walked_tests good xs (mark pool x.node)) (sift (good x) (not (used pool x.node)) (every good xs) (met xs (mark pool x.node)))

pub walked_append : (good : Stop → Bool) (xs ys : List Stop) (pool : List ℕ) → walked good (xs ++ ys) pool ≡ then_walk (walked good ys) (walked good xs pool)
unfolding walked
walked_append good [] ys pool = refl
walked_append good (x ∷ xs) ys pool = elim (test (good x && not (used pool x.node))) [
  | inl e ↦ rw e (walked_append good xs ys (mark pool x.node))
  | inr e ↦ rw e
]

-- a tested walk between two tests: the tests all come first
pub walked_between : (a p q : Bool) (o : Option (List ℕ)) → cond a (then_walk (kept q) (cond p o none)) none ≡ cond (a && (p && q)) o none
walked_between true true true none = refl
walked_between true true true (some pool) = refl
walked_between true true false none = refl
walked_between true true false (some pool) = refl
walked_between true false q o = refl
walked_between false p q o = refl

-- a tested walk, then one with a test r
pub walked_then : (p r : Bool) (o : Option (List ℕ)) (more more' : List ℕ → Option (List ℕ)) → ((pool : List ℕ) → more pool ≡ cond r (more' pool) none)
    → then_walk more (cond p o none) ≡ cond (p && r) (then_walk more' o) none
walked_then true r none more more' h = sym (tested_none r)
walked_then true r (some pool) more more' h = h pool
walked_then false r o more more' h = refl

-- ---- what it meets

used_mark : (pool : List ℕ) (n k : ℕ) → n < 64 * length pool → used (mark pool n) k ≡ eqb k n || used pool k
used_mark pool n k h =
    let l = pool_laws.marks pool n k h in
    same_test (
      λ u. elim (l.0 u) [ inl q ↦ or_left (used pool k) (eq-eqb k n q) | inr v ↦ or_right (eqb k n) v ],
      λ u. l.1 (elim (or-true (eqb k n) (used pool k) u) [ inl e ↦ inl (eqb-true k n e) | inr v ↦ inr v ]),
    )

-- no node of a list is marked
abbrev unmet : List ℕ → List Stop → Bool
unmet pool xs = every (λ x. not (used pool x.node)) xs

unmet_mark : (pool : List ℕ) (n : ℕ) (xs : List Stop) → n < 64 * length pool → unmet (mark pool n) xs ≡ not (has_key (λ x. x.node) n xs) && unmet pool xs
unfolding every has_key
unmet_mark pool n [] h = refl
unmet_mark pool n (x ∷ xs) h =
    rw (unmet_mark pool n xs h, used_mark pool n x.node h) (apart (eqb x.node n) (used pool x.node) (has_key (λ y. y.node) n xs) (unmet pool xs))
  where
    apart : (a u k e : Bool) → not (a || u) && (not k && e) ≡ not (a || k) && (not u && e)
    apart true u k e = refl
    apart false u k e = and_swap (not u) (not k) e

-- nodes that have bits in the map are all marked, if none was marked or is met twice
met_marks : (xs : List Stop) (pool : List ℕ) → ((x : Stop) → Memᴰ x xs → x.node < 64 * length pool)
    → met xs pool ≡ kept (distinct (λ x. x.node) xs && unmet pool xs) (mark_all pool (map (λ x. x.node) xs))
unfolding walked every distinct mark_all
met_marks [] pool h = refl
met_marks (x ∷ xs) pool h =
    let n = x.node in
    let all = mark_all (mark pool n) (map (λ y. y.node) xs) in
    let met-rest = met_marks xs (mark pool n) (λ y z. rw (pool_laws.length_mark pool n) (h y (Memᴰ.tail z))) in
    rw (met-rest, unmet_mark pool n xs (h x (Memᴰ.head refl)))
    (tested_both (not (used pool n)) _ (some all)
    ∙ ap (λ t. kept t all) (regroup (not (used pool n)) (distinct (λ y. y.node) xs) (not (has_key (λ y. y.node) n xs)) (unmet pool xs)))
  where
    regroup : (v d k e : Bool) → v && (d && (k && e)) ≡ (k && d) && (v && e)
    regroup v d k e = ap (λ t. v && t) (and_swap d k e) ∙ and_swap v k (d && e) ∙ ap (λ t. k && t) (and_swap v d e) ∙ sym (and_assoc k d (v && e))

-- none of nodes that are all marked in turn is met twice
pub met_once : (xs : List Stop) (pool : List ℕ) {pool' : List ℕ} → ((x : Stop) → Memᴰ x xs → x.node < 64 * length pool)
    → some pool' ≡ met xs pool → distinct (λ x. x.node) xs ≡ true
met_once xs pool h q =
    let e = q ∙ met_marks xs pool h in
    elim (test (distinct (λ x. x.node) xs)) [ inl d ↦ d | inr d ↦ none_some (sym (rw d at e)) ]

-- from a clear map on
pub met_clear : (g : Geometry) (xs : List Stop) → ((x : Stop) → Memᴰ x xs → x.node < g.nodes)
    → met xs (clear_map (map_words g)) ≡ kept (distinct (λ x. x.node) xs) (map_of g (map (λ x. x.node) xs))
unfolding map_of
met_clear g xs h =
    let clear = clear_map (map_words g) in
    let unmarked : unmet clear xs ≡ true = at_every _ xs (λ x z. ap not (pool_laws.clear (map_words g) x.node)) in
    met_marks xs clear (λ x z. rw (pool_laws.length_clear (map_words g)) (pool_laws.inside g x.node (h x z)))
    ∙ ap (λ t. kept t (mark_all clear (map (λ x. x.node) xs))) (ap (λ t. distinct (λ x. x.node) xs && t) unmarked ∙ and-true (distinct (λ x. x.node) xs))
