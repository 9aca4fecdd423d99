-- How a walk along a frame's path ends, and what its end says of the path.
use mathlib.Core.Path.{◌≡◌, refl, sym, ◌∙◌, subst}
use mathlib.Core.Bool.{Bool}
use mathlib.Core.Option.{Option, none, some}
use mathlib.Core.List.{List, [], ◌∷◌, ◌++◌}
use Prim.Native.Nat.{ℕ, ◌+◌, ◌-◌}
use native.Mathlib.Omega.{arith}
use lib.ListN.{length, length-append}
use Rattle.memory.specs.Words.{Memory}
use Rattle.tree.specs.declared.layout.Geometry.{Geometry}
use Rattle.tree.specs.declared.path.Spot.{Spot}
use Rattle.tree.specs.Fingerprint.{rule_of}
use Rattle.tree.specs.Path.{levels}
use Rattle.tree.specs.Slots.{root_of}
use Rattle.tree.specs.Lookup.{path, path_from, lookup, lookup_on, find}
use Rattle.tree.specs.Room.{last_of}
use Rattle.tree.proofs.PathNodes.{Formed, PathNodes, path_from_nodes, last_formed}
use Rattle.std.specs.Prelude.{Option as Optional, Some, None, Result, Ok, Err}
use Rattle.paths.specs.declared.descent.Malformed.{Malformed}
use Rattle.paths.specs.declared.descent.Trail.{Trail}
use Rattle.paths.specs.declared.descent.Found.{Found}
use Rattle.paths.specs.Answers.{on_path, seen_as, found_on, found_from}
use Rattle.paths.specs.Descent.{Along, spot_of, left_of, clear_if, trail_on, trail_from}

seen_spot : (x : Optional Spot) → x ≡ seen_as (spot_of x)
seen_spot None = refl
seen_spot (Some t) = refl

pub spot_seen : (o : Option Spot) → spot_of (seen_as o) ≡ o
spot_seen none = refl
spot_seen (some t) = refl

last_appended : (ns : List ℕ) (n : ℕ) → last_of (ns ++ n ∷ []) ≡ n
unfolding last_of
last_appended [] n = refl
last_appended (k ∷ []) n = refl
last_appended (k ∷ k' ∷ ns) n = last_appended (k' ∷ ns) n

-- the walk ends where a node is malformed, or at the end of the path
pub trail_malformed : (g : Geometry) (m : Memory) (seek : Bool) (e s f : ℕ) → path g m (32 - e) e s f ≡ none → Err (record {}) ≡ trail_from g m seek e s f
unfolding trail_from
trail_malformed g m seek e s f h = rw h refl

pub trail_end : {g : Geometry} {m : Memory} (seek : Bool) {e s f : ℕ} {ns : List ℕ} {d n : ℕ} {found clear : Optional Spot} {left : ℕ} → Along g m e s f ns d n
    → path g m (32 - e) e s f ≡ some (ns ++ n ∷ [])
    → spot_of found ≡ lookup (rule_of m) g m f (ns ++ n ∷ [])
    → spot_of clear ≡ clear_if g m seek (ns ++ n ∷ [])
    → left ≡ left_of g m (spot_of clear)
    → Ok (record { node = n; level = d; found = found; clear = clear; left = left }) ≡ trail_from g m seek e s f
unfolding trail_from trail_on
trail_end seek {e = e} {ns = ns} {d = d} {n = n} {found = found} {clear = clear} a h x y z =
    let level : e + length (ns ++ n ∷ []) - 1 ≡ d = simp length-append (omega (arith, a.count)) in
    rw (h, last_appended ns n, level, ← x, ← y, ← seen_spot found, ← seen_spot clear, z) refl

-- ---- from a slot

-- the path from a slot is there, and the walk ended at its end
pub record EndsAt (g : Geometry) (m : Memory) (seek : Bool) (s f : ℕ) (t : Trail) : Type 0 where
  pub nodes : List ℕ
  pub path : path_from g m s f ≡ some nodes
  pub on_path_lem : PathNodes g m levels nodes
  pub last : t.node ≡ last_of nodes
  pub formed : Formed g m t.node
  pub level : t.level ≡ length nodes - 1
  pub found : spot_of t.found ≡ lookup (rule_of m) g m f nodes
  pub clear : spot_of t.clear ≡ clear_if g m seek nodes
  pub left : t.left ≡ left_of g m (clear_if g m seek nodes)

module _ (g : Geometry) (m : Memory) (seek : Bool) (s f : ℕ) where
  abbrev Says : Result Trail Malformed → Type 0
  Says (Err e) = path_from g m s f ≡ none
  Says (Ok t) = EndsAt g m seek s f t

  says : (o : Option (List ℕ)) → path_from g m s f ≡ o → Says (on_path (Err (record {})) (trail_on g m seek 0 f) o)
  unfolding trail_on path_from
  says none q = q
  says (some ns) q = record {
    nodes = ns;
    path = q;
    on_path_lem = path_from_nodes g m s f ns q;
    last = refl;
    formed = last_formed g m (path_from_nodes g m s f ns q);
    level = omega arith;
    found = spot_seen (lookup (rule_of m) g m f ns);
    clear = spot_seen (clear_if g m seek ns);
    left = refl;
  }

  pub trail_says : {x y : Result Trail Malformed} → x ≡ trail_from g m seek 0 (root_of m s) f → x ≡ y → Says y
  unfolding trail_from path_from
  trail_says {y = y} e q = subst Says (sym e ∙ q) (says (path_from g m s f) refl)

-- ---- the lookup's answer

module _ (g : Geometry) (m : Memory) (s f : ℕ) where
  pub found_malformed : path_from g m s f ≡ none → Err (record {}) ≡ found_from g m s f
  unfolding found_from
  found_malformed e = rw e refl

  -- the path has a node, so the level of the last is one less than their number
  pub found_end : {seek : Bool} {t : Trail} → EndsAt g m seek s f t → Ok (record { found = t.found; nodes = t.level + 1 }) ≡ found_from g m s f
  unfolding found_from
  found_end {t = t} a =
      let k : t.level + 1 ≡ length a.nodes = omega (arith, a.level, a.on_path_lem.some_node) in
      rw (a.path, k, ← a.found, ← seen_spot t.found) refl

-- what the answer says of the path

abbrev pub spot_in : Result Found Malformed → Option Spot
spot_in (Err e) = none
spot_in (Ok a) = spot_of a.found

pub find_spot : (g : Geometry) (m : Memory) (s f : ℕ) → find (rule_of m) g m s f ≡ spot_in (found_from g m s f)
unfolding find found_from
find_spot g m s f = on_path_lem (path_from g m s f)
  where
    on_path_lem : (o : Option (List ℕ)) → lookup_on (rule_of m) g m f o ≡ spot_in (on_path (Err (record {})) (found_on g m f) o)
    on_path_lem none = refl
    on_path_lem (some ns) = sym (spot_seen (lookup (rule_of m) g m f ns))
