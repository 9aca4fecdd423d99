-- An empty group unlinked from its node: the ways to its children go, and nothing else.
use mathlib.Core.Path.{◌≡◌, sym, ◌∙◌, ap}
use mathlib.Core.Logic.{◌⊎◌, inl, inr, ◌≢◌}
use mathlib.Core.List.{List, ◌∷◌}
use Prim.Native.Nat.{ℕ, suc, ◌+◌, ◌-◌, ◌<◌}
use native.Mathlib.Omega.{arith}
use lib.ListN.{length}
use Rattle.memory.specs.Words.{Memory, is_set}
use Rattle.memory.proofs.Laws.{no_bit}
use Rattle.tree.specs.declared.layout.Geometry.{Geometry}
use Rattle.tree.specs.Layout.{reel_at, next_at, set_at}
use Rattle.tree.specs.Path.{fanout}
use Rattle.tree.specs.Fingerprint.{Rule}
use Rattle.tree.specs.Reach.{Reaches, down, Holds}
use Rattle.tree.specs.Sound.{Sound}
use Rattle.tree.specs.Same.{Stores}
use Rattle.tree.specs.Groups.{EmptyGroup}
use Rattle.tree.specs.Changes.{InGroup, Pruned}
use Rattle.tree.proofs.Cases.{true_not_false}
use Rattle.tree.proofs.Reach.{one_node}
use Rattle.tree.proofs.Same.{holds_to, holds_from, sound_part}
use Rattle.tree.proofs.NextWord.{frames, was_filled, formed, kept, only}

module _ {r : Rule} {g : Geometry} {m m' : Memory} {s : ℕ} {w : List ℕ} {n : ℕ}
    (d : Sound r g m) (l : EmptyGroup g m s w n) (t : Stores m (next_at g n) 0 m') where
  abbrev start : ℕ
  start = m (next_at g n) - 1

  abbrev Gone : ℕ → List ℕ → ℕ → Type 0
  Gone = InGroup s w start

  -- the other way round: before it the node has children
  linked_back : Stores m' (next_at g n) (suc start) m
  linked_back = record { new = omega (arith, l.linked); old = λ j h. sym (t.old j h) }

  back : {s' : ℕ} {u : List ℕ} {k : ℕ} → Reaches g m' s' u k → Reaches g m s' u k
  back x = kept g n t.new linked_back x

  leaf : (c : ℕ) → c < fanout (length w) → (start + c ≢ n) × (m' (next_at g (start + c)) ≡ 0)
  leaf c h =
      let e = (l.empty c h).childless in
      let other : start + c ≢ n = λ q. omega (arith, l.linked, ap (λ z. m (next_at g z)) q, e) in
      (other, sym (t.old (next_at g (start + c)) (λ q. other (omega arith))) ∙ e)

  still : {s' : ℕ} {u : List ℕ} {k : ℕ} → Reaches g m s' u k → Reaches g m' s' u k ⊎ Gone s' u k
  still x = only g n t.new linked_back (λ s' u y. d.once (back y) l.there) leaf x

  -- no child is reached then
  not_gone : {s' : ℕ} {u : List ℕ} {k : ℕ} → Reaches g m' s' u k → Gone s' u k → ⊥
  not_gone x y = go (rw (y.slot, y.way) at x)
    where
      go : {c k : ℕ} → Reaches g m' s (c ∷ w) k → ⊥
      go (down z h low e) = omega (arith, h, ap (λ x. m' (next_at g x)) (one_node (back z) l.there), t.new)

  on : {s' : ℕ} {u : List ℕ} {k : ℕ} → Reaches g m s' u k → (Gone s' u k → ⊥) → Reaches g m' s' u k
  on x h = elim (still x) [ inl y ↦ y | inr y ↦ absurd (h y) ]

  holds_back : {s' : ℕ} {u : List ℕ} {k p f : ℕ} → Holds g m' s' u k p f → Holds g m s' u k p f
  holds_back {k = k} x = holds_from (frames g n t k) (back x.there) x

  -- the children hold nothing
  holds_on : {s' : ℕ} {u : List ℕ} {k p f : ℕ} → Holds g m s' u k p f → Holds g m' s' u k p f
  holds_on {k = k} {p = p} x = holds_to (frames g n t k) (on x.there (λ y.
      let z : m (set_at g k) ≡ 0 = ap (λ i. m (set_at g i)) y.is ∙ (l.empty y.child y.low).unset in
      true_not_false x.set (ap (λ b. is_set b p) z ∙ no_bit p))) x

  pub unlinked : Pruned r g m m' Gone
  unlinked = record {
    reaches = (λ x. (back x, not_gone x), λ x. on x.0 x.1);
    holds = (λ x. holds_back x, λ x. holds_on x);
    sound = sound_part d (record {
      filled = was_filled g n t;
      reels = λ {s = s'} c. t.old (reel_at s') (λ q. omega (arith, c.inside));
      reaches = back;
      formed = λ x. formed g n t d l.there (inl t.new) (back x);
      holds = holds_back;
      fingerprints = λ {n = k} {p = p} x e. let y = holds_back x in sym ((frames g n t k).fingerprints p y.place y.set) ∙ e;
    });
  }
