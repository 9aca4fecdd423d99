-- The frames of a node and of a group, as the listing's walk comes to them.
use mathlib.Core.Path.{◌≡◌, refl, sym, ◌∙◌, ap}
use mathlib.Core.Logic.{◌≢◌}
use mathlib.Core.List.{List, [], ◌∷◌, ◌++◌, flat_map, append-nil}
use Prim.Native.Nat.{ℕ, ◌+◌, ◌-◌, ◌≤◌, ◌<◌}
use native.Mathlib.Omega.{arith}
use lib.ListN.{length, length-append}
use Rattle.memory.specs.Words.{Memory}
use Rattle.tree.specs.declared.layout.Geometry.{Geometry}
use Rattle.tree.specs.Layout.{next_at}
use Rattle.tree.specs.Path.{levels, fanout}
use Rattle.tree.specs.Subtree.{children, tree, frames_in, listing}
use Rattle.tree.proofs.Lists.{flat_map_append, flat_map_map}
use Rattle.visits.specs.Walk.{Stop, stops, group_stops, frames_at}
use Rattle.visits.proofs.Stops.{stop_of, slot_stops, slot_stops_lem, group_empty, group_first, leaf, linked}
use Rattle.visits.proofs.StopFacts.{node_next}

module _ (g : Geometry) (m : Memory) where
  frames_none : frames_at g m [] ≡ []
  unfolding frames_at flat_map
  frames_none = refl

  frames_onto : (x : Stop) (xs : List Stop) → frames_at g m (x ∷ xs) ≡ frames_in g m x.node ++ frames_at g m xs
  unfolding frames_at flat_map
  frames_onto x xs = refl

  frames_append : (xs ys : List Stop) → frames_at g m (xs ++ ys) ≡ frames_at g m xs ++ frames_at g m ys
  unfolding frames_at
  frames_append xs ys = flat_map_append (λ x. frames_in g m x.node) xs ys

  -- of a group: those of its first node, then those of the others
  pub group_frames : (left d start count start' count' : ℕ) → 0 < count → start' ≡ start + 1 → count' ≡ count - 1
      → frames_at g m (group_stops g m left d start count) ≡ frames_at g m (stops g m left d start) ++ frames_at g m (group_stops g m left d start' count')
  group_frames left d start count start' count' h p q = rw (p, q, group_first g m left d start count (λ z. omega arith)) (frames_append _ _)

  pub group_end : (left d start count : ℕ) → count ≡ 0 → frames_at g m (group_stops g m left d start count) ≡ []
  group_end left d start count z = rw (z, group_empty g m left d start) frames_none

  -- of a node: its own, then those of its children
  node_frames : (left n : ℕ) → 1 ≤ left → left ≤ 32
      → frames_at g m (stops g m left (levels - left) n)
      ≡ frames_in g m n ++ frames_at g m (group_stops g m (left - 1) (levels - (left - 1)) (m (next_at g n) - 1) (children g m (levels - left) n))
  node_frames left n l h = rw (node_next g m left n l h) (frames_onto _ _)

  pub own_room : (left n : ℕ) → 1 ≤ left → left ≤ 32 → length (frames_in g m n) ≤ length (frames_at g m (stops g m left (levels - left) n))
  own_room left n l h = rw (node_frames left n l h, length-append (frames_in g m n) _) (omega arith)

  pub leaf_frames : {next : ℕ} (left n : ℕ) → 1 ≤ left → left ≤ 32 → next ≡ m (next_at g n) → next ≡ 0 → frames_at g m (stops g m left (levels - left) n) ≡ frames_in g m n
  leaf_frames left n l h q z = node_frames left n l h ∙ ap (λ fs. frames_in g m n ++ fs) (group_end _ _ _ _ (leaf g m (levels - left) n (sym q ∙ z))) ∙ append-nil _

  pub linked_frames : {next : ℕ} (left n : ℕ) → 1 ≤ left → left ≤ 32 → next ≡ m (next_at g n) → next ≢ 0
      → frames_at g m (stops g m left (levels - left) n)
      ≡ frames_in g m n ++ frames_at g m (group_stops g m (left - 1) (levels - (left - 1)) (next - 1) (fanout (levels - left)))
  linked_frames left n l h q o = rw (q, ← linked g m (levels - left) n (rw q at o)) (node_frames left n l h)

  -- of a slot's tree
  pub listing_stops : (s : ℕ) → listing g m s ≡ frames_at g m (slot_stops g m s)
  unfolding listing frames_at
  listing_stops s = rw (slot_stops_lem g m s) (sym (flat_map_map stop_of (λ x. frames_in g m x.node) (tree g m s)))
