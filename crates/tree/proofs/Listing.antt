-- A slot's tree and what it lists: what is there, and that nothing is there twice.
use mathlib.Core.Path.{◌≡◌, refl, sym, ◌∙◌, subst}
use mathlib.Core.List.Memᴰ
use mathlib.Core.List.{Memᴰ}
use Prim.Native.Nat.{ℕ}
use Rattle.memory.specs.Words.{Memory}
use Rattle.tree.specs.Lists.{Distinct}
use Rattle.tree.specs.declared.layout.Geometry.{Geometry}
use Rattle.tree.specs.Fingerprint.{Rule}
use Rattle.tree.specs.Node.{held, frame}
use Rattle.tree.specs.Slots.{Filled}
use Rattle.tree.specs.Reach.{Reaches, Holds}
use Rattle.tree.specs.Sound.{Sound}
use Rattle.tree.specs.Subtree.{Visit, tree, held_places, frames_in, listing}
use Rattle.tree.specs.Laws.{TreeLaws}
use Rattle.tree.proofs.Distinct.{distinct_by, distinct_keep, distinct_map, distinct_parts, distinct_up_to}
use Rattle.tree.proofs.Reach.{one_node}
use Rattle.tree.proofs.Subtree.{visited, held_places_lem, listed}
use Rattle.tree.proofs.Lookup.{sound_tree}
use Rattle.tree.proofs.Order.{in_order}
use Rattle.tree.proofs.Trees.{distinct_tree}

module _ {g : Geometry} {m : Memory} {s : ℕ} (b : Filled g m s) where
  -- a place of a listed node
  at_place : (v : Visit) → Memᴰ v (tree g m s) → (p : ℕ) → Memᴰ p (held_places g m v.node)
      → Holds g m s v.way v.node p (frame g m v.node p)
  at_place v x p z = let h = (held_places_lem g m v.node p).0 z in record { there = (visited g m b v.way v.node).0 x; place = h.0; set = h.1; is = refl }

  distinct_places : (n : ℕ) → Distinct (λ p. p) (held_places g m n)
  unfolding held_places
  distinct_places n = distinct_keep (held g m n) (distinct_up_to 64)

  listed_once : {r : Rule} → Sound r g m → Distinct (λ f. f) (listing g m s)
  unfolding listing frames_in
  listed_once {r} d = distinct_parts (λ v. frames_in g m v.node) (distinct_tree g m (sound_tree r g m d) b)
      (λ v x. distinct_map (distinct_by (frame g m v.node) (distinct_places v.node) (λ p q y z e. (once v v p q x x y z e).1)))
      (λ v v' f f' x x' y y' e.
      let t = Memᴰ.of_map (frame g m v.node) (held_places g m v.node) y in
      let t' = Memᴰ.of_map (frame g m v'.node) (held_places g m v'.node) y' in
      let o = once v v' t.0 t'.0 x x' t.1 t'.1 (t.2 ∙ e ∙ sym t'.2) in
      one_node (subst (λ w. Reaches g m s w v.node) o.0 ((visited g m b v.way v.node).0 x)) ((visited g m b v'.way v'.node).0 x'))
    where
      once : (v v' : Visit) (p q : ℕ) → Memᴰ v (tree g m s) → Memᴰ v' (tree g m s)
          → Memᴰ p (held_places g m v.node) → Memᴰ q (held_places g m v'.node)
          → frame g m v.node p ≡ frame g m v'.node q → (v.way ≡ v'.way) × (p ≡ q)
      once v v' p q x x' y z e = d.frame_once (at_place v x p y) (subst (λ f. Holds g m s v'.way v'.node q f) (sym e) (at_place v' x' q z))

  pub tree_laws : TreeLaws g m s b
  tree_laws = record {
    visited = visited g m b;
    listed = listed g m b;
    in_order = in_order g m b;
    visited_once = λ a. distinct_tree g m a b;
    listed_once = λ r d. listed_once d;
  }
