-- A group of children linked to a node that has none.
use mathlib.Core.Path.{◌≡◌, sym, ◌∙◌, ap}
use mathlib.Core.Logic.{inr, ◌≢◌}
use mathlib.Core.List.{List, ◌∷◌}
use Prim.Native.Nat.{ℕ, suc, ◌+◌, ◌<◌}
use native.Mathlib.Omega.{arith}
use lib.ListN.{length}
use Rattle.memory.specs.Words.{Memory}
use Rattle.tree.specs.declared.layout.Geometry.{Geometry}
use Rattle.tree.specs.Layout.{reel_at, next_at}
use Rattle.tree.specs.Path.{fanout}
use Rattle.tree.specs.Fingerprint.{Rule}
use Rattle.tree.specs.Sound.{Sound}
use Rattle.tree.specs.Same.{Stores}
use Rattle.tree.specs.Changes.{Links, InGroup, Grown}
use Rattle.tree.proofs.Words.{same_formed}
use Rattle.tree.proofs.NextWord.{node, slot, frames, was_filled, formed, kept, only, new_child}
use Rattle.tree.proofs.Grows.{grown}

module _ {r : Rule} {g : Geometry} {m m' : Memory} {s : ℕ} {w : List ℕ} {n start : ℕ}
    (d : Sound r g m) (l : Links g m s w n start) (t : Stores m (next_at g n) (suc start) m') where
  -- a node that is new is not the one linked to
  new_other : (c : ℕ) → c < fanout (length w) → start + c ≢ n
  new_other c h q = (l.fresh c h).unreached (rw (← q) at l.there)

  leaf : (c : ℕ) → c < fanout (length w) → (start + c ≢ n) × (m (next_at g (start + c)) ≡ 0)
  leaf c h = (new_other c h, (l.fresh c h).childless)

  pub linked : Grown r g m m' (InGroup s w start)
  linked = grown {New = InGroup s w start} d (record {
    kept = kept g n l.childless t;
    made = λ y. new_child g n l.childless t (λ s' u x. d.once x l.there) leaf l.there y;
    only = λ x. only g n l.childless t (λ s' u x. d.once x l.there) leaf x;
    formed = λ x. formed g n t d l.there (inr (l.large, (l.depth, rw t.new (omega (arith, l.inside))))) x;
    new_formed = λ y. let f = l.fresh y.child y.low in
        rw (y.way, y.is) (sym (same_formed (node g n t (start + y.child) (new_other y.child y.low)) (suc (length w))) ∙ f.formed);
    frames = frames g n t;
    bare = λ y. rw y.is (sym (frames g n t (start + y.child)).set ∙ (l.fresh y.child y.low).bare);
    unreached = λ y x. (l.fresh y.child y.low).unreached (rw y.is at x);
    one_way = λ x y. let q : x.child ≡ y.child = omega (arith, x.is, y.is) in (x.slot ∙ sym y.slot, x.way ∙ ap (λ c. c ∷ w) q ∙ sym y.way);
    reels = λ {s = s'} {s' = s''} b b' q.
        d.reels (was_filled g n t b) (was_filled g n t b')
        (slot g n t (reel_at s') (omega (arith, b.inside)) ∙ q ∙ sym (slot g n t (reel_at s'') (omega (arith, b'.inside))));
  })
