-- A root cleared: the slot's tree goes, and nothing else.
use mathlib.Core.Path.{◌≡◌, refl, sym, ◌∙◌, ap}
use mathlib.Core.Logic.{◌≢◌}
use mathlib.Core.List.{List}
use Prim.Native.Nat.{ℕ, ◌+◌, ◌-◌}
use native.Mathlib.Omega.{arith}
use lib.ListN.{length}
use Rattle.memory.specs.Words.{Memory}
use Rattle.tree.specs.declared.layout.Geometry.{Geometry}
use Rattle.tree.specs.Layout.{reel_at, root_at}
use Rattle.tree.specs.Fingerprint.{Rule}
use Rattle.tree.specs.Slots.{Filled}
use Rattle.tree.specs.Reach.{Reaches, root, down, Holds}
use Rattle.tree.specs.Sound.{Sound}
use Rattle.tree.specs.Same.{SameWords, Stores}
use Rattle.tree.specs.Changes.{Retired}
use Rattle.tree.proofs.Reach.{slot_filled}
use Rattle.tree.proofs.Same.{holds_to, holds_from, sound_part}
use Rattle.tree.proofs.Words.{same_next, same_formed, same_frames, beside_nodes}

module _ {r : Rule} {g : Geometry} {m m' : Memory} {s : ℕ} (d : Sound r g m) (b : Filled g m s) (t : Stores m (root_at s) 0 m') where
  node : (k : ℕ) → SameWords g m m' k
  node k = beside_nodes g t s k b.inside refl

  slot : (s' : ℕ) → s' ≢ s → m (root_at s') ≡ m' (root_at s')
  slot s' h = t.old (root_at s') (λ q. h (omega arith))

  other : {s' : ℕ} → Filled g m' s' → s' ≢ s
  other c q = omega (arith, c.linked, ap (λ x. m' (root_at x)) q, t.new)

  was_filled : {s' : ℕ} → Filled g m' s' → Filled g m s'
  was_filled {s'} c = record { inside = c.inside; linked = rw (slot s' (other c)) c.linked }

  reaches_back : {s' : ℕ} {w : List ℕ} {n : ℕ} → Reaches g m' s' w n → Reaches g m s' w n
  reaches_back {s'} (root c e) = root (was_filled c) (e ∙ ap (λ x. x - 1) (sym (slot s' (other c))))
  reaches_back (down {c = c} {p = p} x k l e) = let q = same_next (node p) in down (reaches_back x) (omega arith) l (e ∙ ap (λ y. y - 1 + c) (sym q))

  reaches_on : {s' : ℕ} {w : List ℕ} {n : ℕ} → s' ≢ s → Reaches g m s' w n → Reaches g m' s' w n
  reaches_on {s'} h (root c e) = let q = slot s' h in root (record { inside = c.inside; linked = rw (← q) c.linked }) (e ∙ ap (λ x. x - 1) q)
  reaches_on h (down {c = c} {p = p} x k l e) = let q = same_next (node p) in down (reaches_on h x) (omega arith) l (e ∙ ap (λ y. y - 1 + c) q)

  holds_back : {s' : ℕ} {w : List ℕ} {n p f : ℕ} → Holds g m' s' w n p f → Holds g m s' w n p f
  holds_back {n = n} x = holds_from (same_frames (node n)) (reaches_back x.there) x

  pub retired : Retired r g m m' s
  retired = record {
    reaches = (λ x. (reaches_back x, other (slot_filled x)), λ x. reaches_on x.1 x.0);
    holds = λ {n = n}. (λ x. (holds_back x, other (slot_filled x.there)), λ x. holds_to (same_frames (node n)) (reaches_on x.1 x.0.there) x.0);
    sound = sound_part d (record {
      filled = was_filled;
      reels = λ {s = s'} c. t.old (reel_at s') (λ q. omega arith);
      reaches = reaches_back;
      formed = λ {w = w} {n = n} x. sym (same_formed (node n) (length w)) ∙ d.well_formed_lem (reaches_back x);
      holds = holds_back;
      fingerprints = λ {n = n} {p = p} x e. let y = holds_back x in sym ((same_frames (node n)).fingerprints p y.place y.set) ∙ e;
    });
  }
