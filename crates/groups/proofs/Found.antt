-- What a search found: a node of the tree, with children inside the pool.
use mathlib.Core.Path.{◌≡◌, refl, sym, ◌∙◌}
use mathlib.Core.Bool.{true}
use mathlib.Core.Option.{Option as MathOption, none, some}
use Prim.Native.Nat.{ℕ, ◌+◌, ◌-◌, ◌≤◌, ◌<◌}
use native.Mathlib.Omega.{arith}
use lib.ListN.{length}
use Rattle.memory.specs.Words.{Memory}
use Rattle.tree.specs.declared.layout.Geometry.{Geometry}
use Rattle.tree.specs.Layout.{next_at}
use Rattle.tree.specs.Path.{fanout}
use Rattle.tree.specs.Fingerprint.{rule_of}
use Rattle.tree.specs.Slots.{Filled}
use Rattle.tree.specs.Subtree.{Visit}
use Rattle.tree.specs.Check.{is_sound_tree}
use Rattle.tree.specs.Groups.{first_group}
use Rattle.tree.proofs.Nodes.{children_inside}
use Rattle.tree.proofs.Laws.{node_laws, group_laws, sound_laws}
use Rattle.std.specs.Prelude.{Option, Some, None}
use Rattle.groups.specs.declared.search.FoundGroup.{FoundGroup}
use Rattle.groups.specs.Search.{search_of}

-- nothing, or a node at its depth
pub no_visit : (o : MathOption Visit) → None ≡ search_of o → o ≡ none
no_visit none q = refl
no_visit (some v) q = absurd (cc)

pub record Seen (o : MathOption Visit) (f : FoundGroup) : Type 0 where
  pub visit : Visit
  pub is : o ≡ some visit
  pub node : visit.node ≡ f.node
  pub depth : length visit.way ≡ f.depth

pub seen_visit : (o : MathOption Visit) (f : FoundGroup) → Some f ≡ search_of o → Seen o f
seen_visit none f q = absurd (cc)
seen_visit (some v) f q = record { visit = v; is = refl; node = cc; depth = cc }

-- a node of the pool with children, all of them inside it
pub record Parent (g : Geometry) (m : Memory) (f : FoundGroup) : Type 0 where
  pub inside : f.node < g.nodes
  pub linked : 0 < m (next_at g f.node)
  pub children : m (next_at g f.node) - 1 + fanout f.depth ≤ g.nodes

parent_of : {g : Geometry} {m : Memory} {s : ℕ} {f : FoundGroup} → Filled g m s → is_sound_tree g m s ≡ true → Seen (first_group g m s) f → Parent g m f
parent_of {g} {m} b t v =
    let x = ((group_laws b).found v.visit v.is).is in
    let w = ((node_laws g m).facts (length v.visit.way) v.visit.node).0 ((((sound_laws (rule_of m) g m).tree b).0 t).well_formed_lem x.there) in
    record {
      inside = rw (← v.node) w.inside;
      linked = rw (← v.node) x.linked;
      children = rw (← v.node, ← v.depth) (children_inside w (λ z. omega (arith, x.linked))).1;
    }

pub parent_found : {g : Geometry} {m : Memory} {s : ℕ} {f : FoundGroup} {o : Option FoundGroup} → Filled g m s → is_sound_tree g m s ≡ true
    → o ≡ search_of (first_group g m s) → o ≡ Some f → Parent g m f
parent_found {g} {m} {s} b t e q = parent_of b t (seen_visit (first_group g m s) _ (sym q ∙ e))
