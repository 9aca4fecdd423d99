-- Memories that agree where it matters reach and hold the same, list the same, and are sound together.
use mathlib.Core.Path.{◌≡◌, refl, sym, ◌∙◌, ap}
use mathlib.Core.Bool.{true, cond}
use mathlib.Core.List.{List, [], ◌∷◌, map, flat_map}
use Prim.Native.Nat.{ℕ, zero, suc, ◌+◌, ◌-◌, ◌<◌}
use native.Mathlib.Omega.{arith}
use lib.ListN.{length}
use lib.Dec.{eqb}
use Rattle.memory.specs.Words.{Memory, is_set}
use Rattle.tree.specs.Lists.{up_to, keep}
use Rattle.tree.specs.declared.layout.Geometry.{Geometry}
use Rattle.tree.specs.Layout.{reel_at, set_at}
use Rattle.tree.specs.Path.{levels, fanout}
use Rattle.tree.specs.Fingerprint.{Rule, fingerprint}
use Rattle.tree.specs.Node.{child_of, well_formed, held, frame, stored_fingerprint}
use Rattle.tree.specs.Slots.{Filled}
use Rattle.tree.specs.Reach.{Reaches, root, down, Holds}
use Rattle.tree.specs.Sound.{Sound}
use Rattle.tree.specs.Subtree.{visit, children, subtree, tree, held_places, frames_in, listing}
use Rattle.tree.specs.Same.{SameLinks, SameFrames, Same}
use Rattle.tree.specs.Laws.{SameLaws}
use Rattle.tree.proofs.Lists.{flat_map_cong, map_cong, up_to_members}
use Rattle.tree.proofs.Subtree.{children_lt, visited, held_places_lem}

-- ---- what is reached

module _ {g : Geometry} {m m' : Memory} (a : SameLinks g m m') where
  pub filled_on : {s : ℕ} → Filled g m s → Filled g m' s
  filled_on {s} b = record { inside = b.inside; linked = omega (arith, a.roots s b.inside, b.linked) }

  pub filled_back : {s : ℕ} → Filled g m' s → Filled g m s
  filled_back {s} b = record { inside = b.inside; linked = omega (arith, a.roots s b.inside, b.linked) }

  pub reaches_on : {s : ℕ} {w : List ℕ} {n : ℕ} → Reaches g m s w n → Reaches g m' s w n
  reaches_on {s} (root b e) = root (filled_on b) (e ∙ ap (λ x. x - 1) (a.roots s b.inside))
  reaches_on (down {c = c} r k l e) = let q = a.next r in down (reaches_on r) (omega arith) l (e ∙ ap (λ x. x - 1 + c) q)

  pub reaches_back : {s : ℕ} {w : List ℕ} {n : ℕ} → Reaches g m' s w n → Reaches g m s w n
  reaches_back {s} (root b e) = root (filled_back b) (e ∙ ap (λ x. x - 1) (sym (a.roots s b.inside)))
  reaches_back (down {c = c} r k l e) = let q = a.next (reaches_back r) in down (reaches_back r) (omega arith) l (e ∙ ap (λ x. x - 1 + c) (sym q))

  -- ---- trees and listings, order included

  subtree_links : {s : ℕ} (left : ℕ) {w : List ℕ} {n : ℕ} → Reaches g m s w n → subtree g m left w n ≡ subtree g m' left w n
  unfolding subtree children
  subtree_links zero r = refl
  subtree_links (suc left) {w} {n} r =
      let q = a.next r in
      let k : children g m (length w) n ≡ children g m' (length w) n = ap (λ x. cond (eqb x 0) 0 (fanout (length w))) q in
      ap (λ vs. visit w n ∷ vs) (flat_map_cong _ (λ c. subtree g m' left (c ∷ w) (child_of g m' n c)) (up_to (children g m (length w) n)) (λ c x.
      let t = (children_lt g m (length w) n c).0 ((up_to_members _).0 x) in
      subtree_links left (down r t.0 t.1 refl) ∙ ap (λ x. subtree g m' left (c ∷ w) (x - 1 + c)) q)
      ∙ ap (λ j. flat_map (λ c. subtree g m' left (c ∷ w) (child_of g m' n c)) (up_to j)) k)

  pub tree_links : {s : ℕ} → Filled g m s → tree g m s ≡ tree g m' s
  unfolding tree
  tree_links {s} b = subtree_links levels (root b refl) ∙ ap (λ x. subtree g m' levels [] (x - 1)) (a.roots s b.inside)

  pub listing_links : ((s : ℕ) (w : List ℕ) (n : ℕ) → Reaches g m s w n → frames_in g m n ≡ frames_in g m' n)
      → {s : ℕ} → Filled g m s → listing g m s ≡ listing g m' s
  unfolding listing
  listing_links same {s} b =
      flat_map_cong _ (λ v. frames_in g m' v.node) (tree g m s) (λ v x. same s v.way v.node ((visited g m b v.way v.node).0 x))
      ∙ ap (flat_map (λ v. frames_in g m' v.node)) (tree_links b)

-- ---- what is held

pub frames_same : (g : Geometry) (m m' : Memory) (n : ℕ) → m (set_at g n) ≡ m' (set_at g n)
    → ((p : ℕ) → p < 64 → held g m n p ≡ true → frame g m n p ≡ frame g m' n p) → frames_in g m n ≡ frames_in g m' n
unfolding frames_in held_places
frames_same g m m' n set frames =
    map_cong (frame g m n) (frame g m' n) (held_places g m n) (λ p x. let h = (held_places_lem g m n p).0 x in frames p h.0 h.1)
    ∙ ap (λ w. map (frame g m' n) (keep (is_set w) (up_to 64))) set

module _ {g : Geometry} {m m' : Memory} {n : ℕ} (q : SameFrames g m m' n) where
  -- a node that both memories reach by a way holds the same
  pub holds_to : {s : ℕ} {w : List ℕ} {p f : ℕ} → Reaches g m' s w n → Holds g m s w n p f → Holds g m' s w n p f
  holds_to {p = p} r x = record { there = r; place = x.place; set = rw (← q.set) x.set; is = sym (q.frames p x.place x.set) ∙ x.is }

  pub holds_from : {s : ℕ} {w : List ℕ} {p f : ℕ} → Reaches g m s w n → Holds g m' s w n p f → Holds g m s w n p f
  holds_from {p = p} r x =
      let h : held g m n p ≡ true = rw q.set x.set in
      record { there = r; place = x.place; set = h; is = q.frames p x.place h ∙ x.is }

-- ---- soundness of a part

-- a memory that reaches and holds nothing that another does not; its fingerprints may be by another rule
pub record PartOf (r r' : Rule) (g : Geometry) (m m' : Memory) : Type 0 where
  pub filled : {s : ℕ} → Filled g m' s → Filled g m s
  pub reels : {s : ℕ} → Filled g m' s → m (reel_at s) ≡ m' (reel_at s)
  pub reaches : {s : ℕ} {w : List ℕ} {n : ℕ} → Reaches g m' s w n → Reaches g m s w n
  pub formed : {s : ℕ} {w : List ℕ} {n : ℕ} → Reaches g m' s w n → well_formed g m' (length w) n ≡ true
  pub holds : {s : ℕ} {w : List ℕ} {n p f : ℕ} → Holds g m' s w n p f → Holds g m s w n p f
  pub fingerprints : {s : ℕ} {w : List ℕ} {n p f : ℕ} → Holds g m' s w n p f → stored_fingerprint g m n p ≡ fingerprint r f
      → stored_fingerprint g m' n p ≡ fingerprint r' f

pub sound_part : {r r' : Rule} {g : Geometry} {m m' : Memory} → Sound r g m → PartOf r r' g m m' → Sound r' g m'
sound_part d a = record {
  well_formed_lem = λ x. a.formed x;
  once = λ x y. d.once (a.reaches x) (a.reaches y);
  reels = λ b b' q. d.reels (a.filled b) (a.filled b') (a.reels b ∙ q ∙ sym (a.reels b'));
  on_path_lem = λ x. d.on_path_lem (a.holds x);
  frame_once = λ x y. d.frame_once (a.holds x) (a.holds y);
  fingerprints = λ x. a.fingerprints x (d.fingerprints (a.holds x));
}

-- ---- the same throughout

module _ {g : Geometry} {m m' : Memory} (a : Same g m m') where
  holds_on : {s : ℕ} {w : List ℕ} {n p f : ℕ} → Holds g m s w n p f → Holds g m' s w n p f
  holds_on x = holds_to (a.holds x.there) (reaches_on a.links x.there) x

  holds_back : {s : ℕ} {w : List ℕ} {n p f : ℕ} → Holds g m' s w n p f → Holds g m s w n p f
  holds_back x = let r = reaches_back a.links x.there in holds_from (a.holds r) r x

  -- ---- the listing

  listing_same : {s : ℕ} → Filled g m s → listing g m s ≡ listing g m' s
  listing_same = listing_links a.links (λ s w n r. frames_same g m m' n (a.holds r).set (a.holds r).frames)

  -- ---- soundness

  sound_same : {r : Rule} → Sound r g m → ((s : ℕ) (w : List ℕ) (n : ℕ) → Reaches g m s w n → well_formed g m' (length w) n ≡ true) → Sound r g m'
  sound_same d formed = sound_part d (record {
    filled = filled_back a.links;
    reels = λ b. a.reels (filled_back a.links b);
    reaches = reaches_back a.links;
    formed = λ {s} {w} {n} x. formed s w n (reaches_back a.links x);
    holds = holds_back;
    fingerprints = λ {s} {w} {n} {p} x e. let y = holds_back x in sym ((a.holds y.there).fingerprints p y.place y.set) ∙ e;
  })

  reversed : Same g m' m
  reversed = record {
    links = record { roots = λ s h. sym (a.links.roots s h); next = λ x. sym (a.links.next (reaches_back a.links x)) };
    reels = λ b. sym (a.reels (filled_back a.links b));
    holds = λ x. back (a.holds (reaches_back a.links x));
  }
    where
      back : {n : ℕ} → SameFrames g m m' n → SameFrames g m' m n
      back q = record {
        set = sym q.set;
        frames = λ p h t. sym (q.frames p h (rw q.set t));
        fingerprints = λ p h t. sym (q.fingerprints p h (rw q.set t));
      }

  pub same_laws : SameLaws g m m' a
  same_laws = record {
    reversed = reversed;
    reaches = (reaches_on a.links, reaches_back a.links);
    holds = (holds_on, holds_back);
    trees = tree_links a.links;
    listings = listing_same;
    sound = sound_same;
  }
