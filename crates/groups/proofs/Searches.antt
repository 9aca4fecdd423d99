-- The search for an empty group, a step at a time, in the terms of the code that makes it.
use mathlib.Core.Path.{◌≡◌, refl, sym, ◌∙◌, ap}
use mathlib.Core.Bool.{Bool, true, false, ◌&&◌}
use mathlib.Core.Logic.{inl, inr, ◌≢◌}
use mathlib.Core.Option.{Option as MathOption}
use mathlib.Core.List.{List, [], ◌∷◌, ◌++◌, map}
use native.Mathlib.Numerals.{add-one}
use Prim.Native.Nat.{ℕ, zero, suc, ◌+◌, ◌-◌, ◌≤◌, ◌<◌}
use native.Mathlib.Omega.{arith}
use lib.ListN.{length}
use borrow.Author.Tests.{eq-eqb, ne_eqb}
use Rattle.memory.specs.Words.{Memory}
use Rattle.tree.specs.Lists.{range, up_to, every, first_that}
use Rattle.tree.specs.declared.layout.Geometry.{Geometry}
use Rattle.tree.specs.Layout.{next_at}
use Rattle.tree.specs.Path.{levels, fanout}
use Rattle.tree.specs.Subtree.{Visit, tree}
use Rattle.tree.specs.Groups.{is_empty, all_empty, has_empty_group, first_group}
use Rattle.tree.proofs.Cases.{test}
use Rattle.visits.specs.Walk.{Stop, stops, group_stops, formed_at}
use Rattle.visits.proofs.Stops.{stop_of, slot_stops, slot_stops_lem, group_empty, group_first, leaf, linked}
use Rattle.visits.proofs.StopFacts.{node_next, group_formed}
use Rattle.std.specs.List.{list_all, range_with_len}
use Rattle.std.specs.Prelude.{Option, Some, None}
use Rattle.groups.specs.declared.search.FoundGroup.{FoundGroup}
use Rattle.groups.specs.Search.{empty_group_at, search_at, search_of}

-- ---- adjacent nodes, all empty

ranged : (from n : ℕ) → range_with_len from n ≡ range from n
unfolding range
ranged from zero = refl
ranged from (suc n) = rw (add-one from, ranged (suc from) n) refl

all_every : {A : Type 0} (p : A → Bool) (xs : List A) → list_all p xs ≡ every p xs
unfolding every
all_every p [] = refl
all_every p (x ∷ xs) = ap (λ t. p x && t) (all_every p xs)

pub all_tested : (g : Geometry) (m : Memory) (start count : ℕ) {r : Bool}
    → r ≡ list_all (λ c. is_empty g m (start + c)) (range_with_len 0 count) → r ≡ all_empty g m start count
unfolding all_empty up_to
all_tested g m start count h = h ∙ all_every _ _ ∙ ap (every (λ c. is_empty g m (start + c))) (ranged 0 count)

-- ---- what is found in two parts

module _ (p : Stop → Bool) where
  -- in the first, where one is there; else in the second
  pub found_first : (xs ys : List Stop) {f : FoundGroup} → Some f ≡ search_at (first_that p xs) → Some f ≡ search_at (first_that p (xs ++ ys))
  unfolding first_that
  found_first [] ys q = absurd (cc)
  found_first (x ∷ xs) ys q = elim (test (p x)) [ inl e ↦ rw e (rw e at q) | inr e ↦ rw e (found_first xs ys (rw e at q)) ]

  pub found_second : (xs ys : List Stop) → None ≡ search_at (first_that p xs) → first_that p (xs ++ ys) ≡ first_that p ys
  unfolding first_that
  found_second [] ys q = refl
  found_second (x ∷ xs) ys q = elim (test (p x)) [ inl e ↦ let z = rw e at q in absurd (cc) | inr e ↦ rw e (found_second xs ys (rw e at q)) ]

-- ---- a group of children

module _ (g : Geometry) (m : Memory) (left start count : ℕ) where
  -- what is found in the children from the c-th on, and in one of them
  abbrev from : ℕ → MathOption Stop
  from c = first_that (empty_group_at g m) (group_stops g m left (levels - left) (start + c) (count - c))

  abbrev in_child : ℕ → MathOption Stop
  in_child c = first_that (empty_group_at g m) (stops g m left (levels - left) (start + c))

  abbrev whole : MathOption Stop
  whole = first_that (empty_group_at g m) (group_stops g m left (levels - left) start count)

  -- nothing is found in the first c children: the others, well formed too, decide
  pub record Searched (c : ℕ) : Type 0 where
    pub within : c ≤ count
    pub formed : every (formed_at g m) (group_stops g m left (levels - left) (start + c) (count - c)) ≡ true
    pub others : from c ≡ whole

  pub searched_none : every (formed_at g m) (group_stops g m left (levels - left) start count) ≡ true → Searched 0
  searched_none h =
      let e : count - 0 ≡ count = omega arith in
      let f : start + 0 ≡ start = omega arith in
      record { within = omega arith; formed = rw (e, f) h; others = rw (e, f) refl }

  module _ {c : ℕ} (a : Searched c) where
    pub searched_all : count ≤ c → None ≡ search_at whole
    unfolding first_that
    searched_all l =
        let e : count - c ≡ 0 = omega arith in
        ap search_at (rw (e, group_empty g m left (levels - left) (start + c)) at a.others)

    module _ (l : c < count) where
      both_formed : (every (formed_at g m) (stops g m left (levels - left) (start + c)) ≡ true)
          × (every (formed_at g m) (group_stops g m left (levels - left) (start + (c + 1)) (count - (c + 1))) ≡ true)
      both_formed =
          group_formed g m left (levels - left) (start + c) (count - c) (start + (c + 1)) (count - (c + 1)) (omega arith) (omega arith) (omega arith) a.formed

      pub child_formed : every (formed_at g m) (stops g m left (levels - left) (start + c)) ≡ true
      child_formed = both_formed.0

      parts : group_stops g m left (levels - left) (start + c) (count - c)
          ≡ stops g m left (levels - left) (start + c) ++ group_stops g m left (levels - left) (start + (c + 1)) (count - (c + 1))
      parts =
          let p : start + (c + 1) ≡ start + c + 1 = omega arith in
          let q : count - (c + 1) ≡ count - c - 1 = omega arith in
          rw (p, q) (group_first g m left (levels - left) (start + c) (count - c) (λ z. omega arith))

      module _ {r : Option FoundGroup} (e : r ≡ search_at (in_child c)) where
        pub found_here : (f : FoundGroup) → r ≡ Some f → Some f ≡ search_at whole
        found_here f q =
            found_first (empty_group_at g m) _ _ (sym q ∙ e) ∙ ap (λ xs. search_at (first_that (empty_group_at g m) xs)) (sym parts) ∙ ap search_at a.others

        pub not_here : r ≡ None → Searched (c + 1)
        not_here q = record {
          within = omega arith;
          formed = both_formed.1;
          others = sym (found_second (empty_group_at g m) _ _ (sym q ∙ e)) ∙ ap (first_that (empty_group_at g m)) (sym parts) ∙ a.others;
        }

-- ---- a node

module _ (g : Geometry) (m : Memory) (left n : ℕ) (l : 1 ≤ left) (h : left ≤ 32) {next : ℕ} (is : next ≡ m (next_at g n)) where
  abbrev below : MathOption Stop
  below = first_that (empty_group_at g m) (stops g m left (levels - left) n)

  pub leaf_nothing : next ≡ 0 → None ≡ search_at below
  unfolding first_that empty_group_at has_empty_group
  leaf_nothing z =
      let none = sym is ∙ z in
      rw (node_next g m left n l h, leaf g m (levels - left) n none, group_empty g m (left - 1) (levels - (left - 1)) (m (next_at g n) - 1), eq-eqb (m (next_at g n)) 0 none) refl

  module _ (o : next ≢ 0) {count : ℕ} (q : count ≡ fanout (levels - left)) {r : Bool} (e : r ≡ all_empty g m (next - 1) count) where
    some_children : m (next_at g n) ≢ 0
    some_children z = o (is ∙ z)

    pub node_found : (d : ℕ) → d ≡ levels - left → r ≡ true → Some (record { node = n; depth = d }) ≡ search_at below
    unfolding first_that empty_group_at has_empty_group
    node_found d p t = rw (node_next g m left n l h, ne_eqb (m (next_at g n)) 0 some_children, ← q, ← is, ← e, t, p) refl

    pub node_below : r ≡ false → {s : Option FoundGroup}
        → s ≡ search_at (first_that (empty_group_at g m) (group_stops g m (left - 1) (levels - (left - 1)) (next - 1) count)) → s ≡ search_at below
    unfolding first_that empty_group_at has_empty_group
    node_below t b =
        b ∙ rw (node_next g m left n l h, ne_eqb (m (next_at g n)) 0 some_children, linked g m (levels - left) n some_children, ← q, ← is, ← e, t) refl

-- ---- a slot's tree

visits : (g : Geometry) (m : Memory) (vs : List Visit)
    → search_at (first_that (empty_group_at g m) (map stop_of vs)) ≡ search_of (first_that (λ v. has_empty_group g m (length v.way) v.node) vs)
unfolding first_that empty_group_at
visits g m [] = refl
visits g m (v ∷ vs) = elim (test (has_empty_group g m (length v.way) v.node)) [ inl e ↦ rw e refl | inr e ↦ rw e (visits g m vs) ]

pub slot_search : (g : Geometry) (m : Memory) (s : ℕ) → search_at (first_that (empty_group_at g m) (slot_stops g m s)) ≡ search_of (first_group g m s)
unfolding first_group
slot_search g m s = rw (slot_stops_lem g m s) (visits g m (tree g m s))
