-- Frames held at one way agree in the bits that it reads; at level 31 at most 32 of them exist.
use mathlib.Core.Path.{◌≡◌, refl, sym, ◌∙◌}
use mathlib.Core.Bool.{true}
use mathlib.Core.List.{List, Memᴰ}
use Prim.Native.Nat.{ℕ, ◌/◌, ◌%◌, ◌^◌, ◌<◌}
use lib.ListN.{length, length-map}
use lib.Pow.{shr_lt, split}
use Rattle.memory.specs.Words.{Memory}
use Rattle.tree.specs.Lists.{Distinct}
use Rattle.tree.specs.declared.layout.Geometry.{Geometry}
use Rattle.tree.specs.Layout.{frame_at}
use Rattle.tree.specs.Fingerprint.{Rule}
use Rattle.tree.specs.Node.{held, frame}
use Rattle.tree.specs.Reach.{Reaches, Holds}
use Rattle.tree.specs.Sound.{Sound}
use Rattle.tree.specs.Subtree.{held_places, frames_in}
use Rattle.tree.specs.Laws.{LevelLaws}
use Rattle.tree.proofs.Ways.{same_way}
use Rattle.tree.proofs.Distinct.{distinct_by, distinct_keep, distinct_up_to}
use Rattle.tree.proofs.Subtree.{held_places_lem}
use Rattle.tree.proofs.Pigeon.{pigeon}

module _ {r : Rule} {g : Geometry} {m : Memory} (d : Sound r g m) where
  agree : {s : ℕ} {w : List ℕ} {n p p' f f' : ℕ} → length w ≡ 31 → Holds g m s w n p f → Holds g m s w n p' f' → f % 2 ^ 59 ≡ f' % 2 ^ 59
  agree {w = w} {f = f} {f' = f'} l x x' = (same_way 31 f f').0 (rw l at (sym (d.on_path_lem x) ∙ d.on_path_lem x'))

  -- a frame of level 31 is told by its bits from 59 on
  told : {s : ℕ} {w : List ℕ} {n : ℕ} → Reaches g m s w n → length w ≡ 31 → (p q : ℕ) → (p < 64) × (held g m n p ≡ true) → (q < 64) × (held g m n q ≡ true)
      → frame g m n p / 2 ^ 59 ≡ frame g m n q / 2 ^ 59 → p ≡ q
  told {s} {w} {n} t l p q a b e =
      let x : Holds g m s w n p (frame g m n p) = record { there = t; place = a.0; set = a.1; is = refl } in
      let y : Holds g m s w n q (frame g m n q) = record { there = t; place = b.0; set = b.1; is = refl } in
      let k : frame g m n q ≡ frame g m n p = sym (split (frame g m n q) 59) ∙ rw (← e, ← agree l x y) (split (frame g m n p) 59) in
      (d.frame_once x (record { there = t; place = b.0; set = b.1; is = k })).1

  pub level_laws : LevelLaws r g m d
  unfolding frames_in held_places
  level_laws = record {
    agree = λ l x x'. agree l x x';
    told = λ t l p q a b e. told t l p q a b e;
    few = λ {s} {w} {n} fits t l.
        let held? : (p : ℕ) → Memᴰ p (held_places g m n) → (p < 64) × (held g m n p ≡ true) = λ p z. (held_places_lem g m n p).0 z in
        let k : Distinct (λ p. frame g m n p / 2 ^ 59) (held_places g m n) =
        distinct_by _ (distinct_keep (held g m n) (distinct_up_to 64)) (λ p q x y e. told t l p q (held? p x) (held? q y) e) in
        rw (length-map (held_places g m n) (frame g m n)) (pigeon _ 32 (held_places g m n) k (λ p z. shr_lt 5 59 (fits (frame_at g n p))));
  }
