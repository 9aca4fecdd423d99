-- A frame's path a node at a time, in the terms of the code that goes along it.
use mathlib.Core.Path.{◌≡◌, refl, sym, ◌∙◌, ap}
use mathlib.Core.Bool.{Bool, true, false, cond}
use mathlib.Core.Logic.{inl, inr}
use mathlib.Core.Option.{Option, none, some}
use mathlib.Core.List.{List, [], ◌∷◌, ◌++◌, append_assoc}
use Prim.Native.Nat.{ℕ, zero, suc, ◌+◌, ◌-◌, ◌*◌, ◌/◌, ◌%◌, ◌≤◌, ◌<◌}
use native.Mathlib.Numerals.{add-one}
use native.Mathlib.Omega.{arith}
use borrow.Author.Tests.{eq-eqb, ne_eqb, eqb-false, lt-ltb, le-ltb}
use lib.Dec.{eqb, ltb}
use lib.ListN.{length-append}
use Rattle.memory.specs.Words.{Memory}
use Rattle.tree.specs.declared.layout.Geometry.{Geometry}
use Rattle.tree.specs.Layout.{next_at, size_at}
use Rattle.tree.specs.Path.{child}
use Rattle.tree.specs.Node.{well_formed}
use Rattle.tree.specs.declared.path.Spot.{Spot}
use Rattle.tree.specs.Fingerprint.{rule_of}
use Rattle.tree.specs.Lookup.{spot, before, path, first_spot, clear_at, clear_spot, found_at, lookup}
use Rattle.tree.proofs.Cases.{test}
use Rattle.tree.proofs.Nodes.{children_inside}
use Rattle.tree.proofs.Laws.{child_laws, node_laws}
use Rattle.std.specs.Prelude.{Option as Optional, Some, None}
use Rattle.paths.specs.Descent.{step_from, numbered, or_else, passed, Along, clear_if}

-- a well-formed node is inside the pool, and so is the child to which a frame goes
module _ (g : Geometry) (m : Memory) (d n : ℕ) (h : well_formed g m d n ≡ true) where
  pub node_inside : n < g.nodes
  node_inside = (((node_laws g m).facts d n).0 h).inside

  pub child_inside : {next : ℕ} (f : ℕ) → next ≡ m (next_at g n) → (next ≡ 0 → ⊥) → (d < 31) × (next - 1 + child d f < g.nodes)
  child_inside f e z =
      let t = children_inside (((node_laws g m).facts d n).0 h) (λ q. z (e ∙ q)) in
      (t.0, omega (arith, e, child_laws.below d f t.0, t.1))

-- a path's nodes from a node on, by the step from it
abbrev follow : ℕ → Optional ℕ → (ℕ → Option (List ℕ)) → Option (List ℕ)
follow n None below = some (n ∷ [])
follow n (Some c) below = before n (below c)

module _ (g : Geometry) (m : Memory) (f d n : ℕ) where
  -- the two steps, by next
  pub step_end : {next : ℕ} → next ≡ m (next_at g n) → next ≡ 0 → None ≡ step_from g m d n f
  unfolding step_from
  step_end {next} e z = rw (← e, eq-eqb next 0 z) refl

  pub step_down : {next c : ℕ} → next ≡ m (next_at g n) → (next ≡ 0 → ⊥) → c ≡ child d f → Some (next - 1 + c) ≡ step_from g m d n f
  unfolding step_from
  step_down {next} e z q = rw (← e, ne_eqb next 0 z, q) refl

  -- where levels are left, the path from a node: malformed, or by the step
  path_malformed : (left : ℕ) → 1 ≤ left → well_formed g m d n ≡ false → path g m left d n f ≡ none
  unfolding path
  path_malformed zero l h = absurd (omega arith)
  path_malformed (suc left) l h = rw h

  path_step : (left : ℕ) → 1 ≤ left → well_formed g m d n ≡ true → path g m left d n f ≡ follow n (step_from g m d n f) (λ c. path g m (left - 1) (d + 1) c f)
  unfolding path step_from
  path_step zero l h = absurd (omega arith)
  path_step (suc left) l h =
      let e : suc left - 1 ≡ left = omega arith in
      elim (test (eqb (m (next_at g n)) 0)) [ inl q ↦ rw (h, q) refl | inr q ↦ rw (e, add-one, h, q) refl ]

  -- a step down is from a level above 31
  down_level : {x : Optional ℕ} {c : ℕ} → well_formed g m d n ≡ true → x ≡ step_from g m d n f → x ≡ Some c → d < 31
  unfolding step_from
  down_level {c = c} h e z = elim (test (eqb (m (next_at g n)) 0)) [
    | inl q ↦
        let y : None ≡ Some c = rw q at (sym e ∙ z) in
        let x : ◌≡◌ {A = ℕ} 0 1 = cc in
        absurd (omega arith)
    | inr q ↦ (child_inside g m d n h f refl (eqb-false (m (next_at g n)) 0 q)).0
  ]

-- ---- a walk along a path, node by node

passed_none : (o : Option (List ℕ)) → o ≡ passed [] o
passed_none none = refl
passed_none (some ns) = refl

passed_before : (ns : List ℕ) (n : ℕ) (o : Option (List ℕ)) → passed ns (before n o) ≡ passed (ns ++ n ∷ []) o
passed_before ns n none = refl
passed_before ns n (some below) = ap some (sym (append_assoc ns (n ∷ []) below))

pub along_start : (g : Geometry) (m : Memory) (e s f : ℕ) → e ≤ 31 → Along g m e s f [] e s
along_start g m e s f l = record { low = l; count = omega arith; rest = passed_none (path g m (32 - e) e s f) }

-- from a node on: it is malformed, the path ends, or it goes down
module _ {g : Geometry} {m : Memory} {e₀ s f : ℕ} {ns : List ℕ} {d n : ℕ} (a : Along g m e₀ s f ns d n) where
  pub along_malformed : {ok : Bool} → ok ≡ well_formed g m d n → ok ≡ false → path g m (32 - e₀) e₀ s f ≡ none
  along_malformed e z = a.rest ∙ ap (passed ns) (path_malformed g m f d n (32 - d) (omega (arith, a.low)) (sym e ∙ z))

  module _ {x : Optional ℕ} (h : well_formed g m d n ≡ true) (e : x ≡ step_from g m d n f) where
    along_step : {y : Optional ℕ} → x ≡ y → path g m (32 - e₀) e₀ s f ≡ passed ns (follow n y (λ c. path g m (32 - d - 1) (d + 1) c f))
    along_step z =
        a.rest
        ∙ ap (passed ns) (path_step g m f d n (32 - d) (omega (arith, a.low)) h ∙ ap (λ y. follow n y (λ c. path g m (32 - d - 1) (d + 1) c f)) (sym e ∙ z))

    pub along_end : x ≡ None → path g m (32 - e₀) e₀ s f ≡ some (ns ++ n ∷ [])
    along_end z = along_step z

    pub along_down : {c : ℕ} → x ≡ Some c → Along g m e₀ s f (ns ++ n ∷ []) (d + 1) c
    along_down {c = c} z =
        let l = down_level g m f d n h e z in
        let k : 32 - d - 1 ≡ 32 - (d + 1) = omega arith in
        record {
          low = omega arith;
          count = simp length-append (omega (arith, a.count));
          rest = rw k at (along_step z) ∙ passed_before ns n (path g m (32 - (d + 1)) (d + 1) c f);
        }

-- ---- what was seen, as a number

pub number_none : numbered 0 ≡ none
unfolding numbered
number_none = refl

pub number_spot : (n p : ℕ) → p < 64 → numbered (64 * n + p + 1) ≡ some (spot n p)
unfolding numbered
number_spot n p h =
    let node : (64 * n + p + 1 - 1) / 64 ≡ n = omega arith in
    let place : (64 * n + p + 1 - 1) % 64 ≡ p = omega arith in
    rw (ne_eqb (64 * n + p + 1) 0 (λ q. omega arith), node, place) refl

pub number_read : (k : ℕ) → (k ≡ 0 → ⊥) → some (spot ((k - 1) / 64) ((k - 1) % 64)) ≡ numbered k
unfolding numbered
number_read k h = rw (ne_eqb k 0 h) refl

pub none_read : {k : ℕ} → k ≡ 0 → none ≡ numbered k
none_read q = sym (ap numbered q ∙ number_none)

-- what was seen before stays
pub number_kept : (k : ℕ) (o : Option Spot) → (k ≡ 0 → ⊥) → numbered k ≡ or_else (numbered k) o
number_kept k o h = rw (← number_read k h) refl

-- ---- a search of a path's nodes, with what was found so far

-- what is found in nodes is the first spot of a search: the lookup and the clear place are both so
pub record Searches (found : List ℕ → Option Spot) (search bound : ℕ → ℕ) : Type 0 where
  pub is : (ns : List ℕ) → found ns ≡ first_spot search bound ns

module _ (g : Geometry) (m : Memory) where
  pub lookups : (f : ℕ) → Searches (lookup (rule_of m) g m f) (found_at (rule_of m) g m f) (λ n. 64)
  unfolding lookup
  lookups f = record { is = λ ns. refl }

  -- a walk that seeks no clear place has no bound for it
  abbrev pub bound_if : Bool → ℕ → ℕ
  bound_if seek n = cond seek (m (size_at g n)) 0

  pub clears : (seek : Bool) → Searches (clear_if g m seek) (clear_at g m) (bound_if seek)
  unfolding clear_if clear_spot first_spot
  clears true = record { is = λ ns. refl }
  clears false = record { is = nowhere }
    where
      nowhere : (ns : List ℕ) → none ≡ first_spot (clear_at g m) (bound_if false) ns
      nowhere [] = refl
      nowhere (n ∷ ns) = rw (le-ltb (clear_at g m n) 0 (omega arith)) (nowhere ns)

module _ {found : List ℕ → Option Spot} {search bound : ℕ → ℕ} (w : Searches found search bound) where
  -- the node's own place, or none, unless one was found before it
  module _ {so_far : ℕ} (k : so_far ≡ 0) (n p : ℕ) (e : p ≡ search n) where
    at_node : or_else (numbered so_far) (found (n ∷ [])) ≡ cond (ltb p (bound n)) (some (spot n p)) none
    unfolding first_spot
    at_node = rw (k, number_none, w.is (n ∷ []), e) refl

    pub found_here : p < 64 → p < bound n → numbered (64 * n + p + 1) ≡ or_else (numbered so_far) (found (n ∷ []))
    found_here h l = number_spot n p h ∙ sym (at_node ∙ rw (lt-ltb p (bound n) l) refl)

    pub found_nowhere : bound n ≤ p → numbered 0 ≡ or_else (numbered so_far) (found (n ∷ []))
    found_nowhere l = number_none ∙ sym (at_node ∙ rw (le-ltb p (bound n) l) refl)

  pub found_none : numbered 0 ≡ found []
  unfolding first_spot
  found_none = rw (number_none, w.is []) refl

  -- what was found down to a node is what is found in all nodes down to it
  pub found_more : (ns : List ℕ) (n : ℕ) {so_far r : Option Spot} → so_far ≡ found ns → r ≡ or_else so_far (found (n ∷ [])) → r ≡ found (ns ++ n ∷ [])
  unfolding first_spot
  found_more ns n e q = q ∙ rw (e, w.is ns, w.is (n ∷ []), w.is (ns ++ n ∷ [])) (go ns)
    where
      go : (ns : List ℕ) → or_else (first_spot search bound ns) (first_spot search bound (n ∷ [])) ≡ first_spot search bound (ns ++ n ∷ [])
      go [] = refl
      go (k ∷ ns) = elim (test (ltb (search k) (bound k))) [ inl h ↦ rw h refl | inr h ↦ rw h (go ns) ]
