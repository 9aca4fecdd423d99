-- Nodes that come in: a root filled, and a group of children linked.
use mathlib.Core.Path.{◌≡◌, refl, sym, ◌∙◌, ap}
use mathlib.Core.Bool.{true}
use mathlib.Core.Logic.{◌⊎◌, inl, inr, ◌≢◌}
use mathlib.Core.List.{List}
use Prim.Native.Nat.{ℕ, suc, ◌+◌, ◌-◌}
use native.Mathlib.Omega.{arith}
use native.Mathlib.Decide.{ℕ_discrete}
use lib.ListN.{length}
use Rattle.memory.specs.Words.{Memory}
use Rattle.tree.specs.declared.layout.Geometry.{Geometry}
use Rattle.tree.specs.Layout.{reel_at, root_at, next_at, set_at}
use Rattle.tree.specs.Fingerprint.{Rule}
use Rattle.tree.specs.Node.{well_formed}
use Rattle.tree.specs.Slots.{Filled}
use Rattle.tree.specs.Reach.{Reaches, root, down, Holds}
use Rattle.tree.specs.Sound.{Sound}
use Rattle.tree.specs.Same.{SameFrames, SameWords, Stores}
use Rattle.tree.specs.Changes.{Opens, NewRoot, Grown}
use Rattle.memory.proofs.Laws.{no_bit}
use Rattle.tree.proofs.Cases.{true_not_false}
use Rattle.tree.proofs.Same.{holds_to, holds_from}
use Rattle.tree.proofs.Words.{same_next, same_formed, same_frames, beside_nodes}

-- what both changes come to: new ways besides the old, to bare nodes that nothing reached
pub record Grows (g : Geometry) (m m' : Memory) (New : ℕ → List ℕ → ℕ → Type 0) : Type 0 where
  pub kept : {s : ℕ} {w : List ℕ} {n : ℕ} → Reaches g m s w n → Reaches g m' s w n
  pub made : {s : ℕ} {w : List ℕ} {n : ℕ} → New s w n → Reaches g m' s w n
  pub only : {s : ℕ} {w : List ℕ} {n : ℕ} → Reaches g m' s w n → Reaches g m s w n ⊎ New s w n
  pub formed : {s : ℕ} {w : List ℕ} {n : ℕ} → Reaches g m s w n → well_formed g m' (length w) n ≡ true
  pub new_formed : {s : ℕ} {w : List ℕ} {n : ℕ} → New s w n → well_formed g m' (length w) n ≡ true
  pub frames : (n : ℕ) → SameFrames g m m' n
  pub bare : {s : ℕ} {w : List ℕ} {n : ℕ} → New s w n → m' (set_at g n) ≡ 0
  pub unreached : {s s' : ℕ} {w w' : List ℕ} {n : ℕ} → New s' w' n → Reaches g m s w n → ⊥
  pub one_way : {s s' : ℕ} {w w' : List ℕ} {n : ℕ} → New s w n → New s' w' n → (s ≡ s') × (w ≡ w')
  pub reels : {s s' : ℕ} → Filled g m' s → Filled g m' s' → m' (reel_at s) ≡ m' (reel_at s') → s ≡ s'

module _ {r : Rule} {g : Geometry} {m m' : Memory} {New : ℕ → List ℕ → ℕ → Type 0} (d : Sound r g m) (a : Grows g m m' New) where
  holds_back : {s : ℕ} {w : List ℕ} {n p f : ℕ} → Holds g m' s w n p f → Holds g m s w n p f
  holds_back {n = n} {p = p} x = elim (a.only x.there) [
    | inl t ↦ holds_from (a.frames n) t x
    | inr t ↦ absurd (true_not_false (rw (a.bare t) at x.set) (no_bit p))
  ]

  once_after : {s s' : ℕ} {w w' : List ℕ} {n : ℕ} → Reaches g m s w n ⊎ New s w n → Reaches g m s' w' n ⊎ New s' w' n → (s ≡ s') × (w ≡ w')
  once_after (inl x) (inl y) = d.once x y
  once_after (inl x) (inr y) = absurd (a.unreached y x)
  once_after (inr x) (inl y) = absurd (a.unreached x y)
  once_after (inr x) (inr y) = a.one_way x y

  pub grown : Grown r g m m' New
  grown = record {
    reaches = (λ x. a.only x, λ t. elim t [ inl x ↦ a.kept x | inr x ↦ a.made x ]);
    holds = λ {s} {w} {n}. (holds_back, λ x. holds_to (a.frames n) (a.kept x.there) x);
    sound = record {
      well_formed_lem = λ x. elim (a.only x) [ inl t ↦ a.formed t | inr t ↦ a.new_formed t ];
      once = λ x y. once_after (a.only x) (a.only y);
      reels = λ b b' q. a.reels b b' q;
      on_path_lem = λ x. d.on_path_lem (holds_back x);
      frame_once = λ x y. d.frame_once (holds_back x) (holds_back y);
      fingerprints = λ {s} {w} {n} {p} x. let y = holds_back x in sym ((a.frames n).fingerprints p y.place y.set) ∙ d.fingerprints y;
    };
  }

-- ---- a root filled

module _ {r : Rule} {g : Geometry} {m m' : Memory} {s n : ℕ} (d : Sound r g m) (o : Opens g m s n) (t : Stores m (root_at s) (suc n) m') where
  node : (k : ℕ) → SameWords g m m' k
  node k = beside_nodes g t s k o.inside refl

  slot : (s' : ℕ) → s' ≢ s → m (root_at s') ≡ m' (root_at s')
  slot s' h = t.old (root_at s') (λ q. h (omega arith))

  reel : (s' : ℕ) → m (reel_at s') ≡ m' (reel_at s')
  reel s' = t.old (reel_at s') (λ q. omega arith)

  other : {s' : ℕ} → Filled g m s' → s' ≢ s
  other b q = omega (arith, b.linked, ap (λ x. m (root_at x)) q, o.empty)

  -- a filled slot is the new one, or was filled before
  was_filled : {s' : ℕ} → Filled g m' s' → (s' ≡ s) ⊎ Filled g m s'
  was_filled {s'} b = elim (ℕ_discrete s' s) [ yes q ↦ inl q | no q ↦ inr (record { inside = b.inside; linked = rw (slot s' q) b.linked }) ]

  kept : {s' : ℕ} {w : List ℕ} {k : ℕ} → Reaches g m s' w k → Reaches g m' s' w k
  kept {s'} (root b e) = let q = slot s' (other b) in root (record { inside = b.inside; linked = rw (← q) b.linked }) (e ∙ ap (λ x. x - 1) q)
  kept (down {c = c} {p = p} x k l e) = let q = same_next (node p) in down (kept x) (omega arith) l (e ∙ ap (λ y. y - 1 + c) q)

  only : {s' : ℕ} {w : List ℕ} {k : ℕ} → Reaches g m' s' w k → Reaches g m s' w k ⊎ NewRoot s n s' w k
  only {s'} (root b e) = elim (was_filled b) [
    | inl q ↦ inr (record { slot = q; way = refl; is = omega (arith, ap (λ x. m' (root_at x)) q, t.new) })
    | inr b' ↦ inl (root b' (e ∙ ap (λ x. x - 1) (sym (slot s' (other b')))))
  ]
  only (down {c = c} {p = p} x k l e) = let q = same_next (node p) in elim (only x) [
    | inl y ↦ inl (down y (omega arith) l (e ∙ ap (λ z. z - 1 + c) (sym q)))
    | inr y ↦ absurd (omega (arith, ap (λ z. m (next_at g z)) y.is, o.fresh.childless))
  ]

  new_root : {s' : ℕ} {w : List ℕ} {k : ℕ} → NewRoot s n s' w k → Reaches g m' s' w k
  new_root y = rw (y.slot, y.way, y.is) (root {n = n} (record { inside = o.inside; linked = omega (arith, t.new) }) (omega (arith, t.new)))

  reels : {s' s'' : ℕ} → (s' ≡ s) ⊎ Filled g m s' → (s'' ≡ s) ⊎ Filled g m s'' → m' (reel_at s') ≡ m' (reel_at s'') → s' ≡ s''
  reels (inl x) (inl y) q = x ∙ sym y
  reels (inl x) (inr y) q = absurd (o.new_reel y (reel _ ∙ sym q ∙ ap (λ k. m' (reel_at k)) x ∙ sym (reel s)))
  reels (inr x) (inl y) q = absurd (o.new_reel x (reel _ ∙ q ∙ ap (λ k. m' (reel_at k)) y ∙ sym (reel s)))
  reels (inr x) (inr y) q = d.reels x y (reel _ ∙ q ∙ sym (reel _))

  pub opened : Grown r g m m' (NewRoot s n)
  opened = grown {New = NewRoot s n} d (record {
    kept = kept;
    made = new_root;
    only = only;
    formed = λ {w = w} {n = k} x. sym (same_formed (node k) (length w)) ∙ d.well_formed_lem x;
    new_formed = λ y. rw (y.way, y.is) (sym (same_formed (node n) 0) ∙ o.fresh.formed);
    frames = λ k. same_frames (node k);
    bare = λ y. rw y.is (sym (same_frames (node n)).set ∙ o.fresh.bare);
    unreached = λ y x. o.fresh.unreached (rw y.is at x);
    one_way = λ x y. (x.slot ∙ sym y.slot, x.way ∙ sym y.way);
    reels = λ b b' q. reels (was_filled b) (was_filled b') q;
  })
