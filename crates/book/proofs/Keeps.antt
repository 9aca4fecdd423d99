-- Frames keep their places: from what an image holds, place by place.
use mathlib.Core.Path.{◌≡◌, refl, sym, ◌∙◌}
use mathlib.Core.Bool.{Bool}
use mathlib.Core.Logic.{◌⊎◌, inl, inr}
use mathlib.Core.List.{List}
use Prim.Native.Nat.{ℕ}
use Rattle.tree.specs.Memory.{Memory, reads, Store, segmented, CrashImage}
use Rattle.tree.specs.declared.layout.Geometry.{Geometry}
use Rattle.tree.specs.Layout.{reel_at}
use Rattle.tree.specs.Fingerprint.{Rule}
use Rattle.tree.specs.Slots.{Filled}
use Rattle.tree.specs.Reach.{Holds, FrameOf}
use Rattle.tree.specs.Sound.{Sound}
use Rattle.tree.specs.Same.{Same}
use Rattle.tree.proofs.Memory.{crash_laws}
use Rattle.tree.proofs.Reach.{slot_filled, one_node}
use Rattle.tree.proofs.Same.{filled_back}
use Rattle.tree.proofs.Laws.{same_laws}
use Rattle.book.specs.State.{State, Operation}
use Rattle.book.specs.Perform.{granted, writing}
use Rattle.book.specs.Table.{Table, Reel, table_work}
use Rattle.book.specs.Agrees.{Shows, Agrees}
use Rattle.book.specs.Histories.{carried_out}
use Rattle.book.specs.Demands.{FilledBy}
use Rattle.book.proofs.View.{Header, View}
use Rattle.book.proofs.Reels.{frames_to}
use Rattle.book.proofs.Crashed.{Through, falls_through}
use Rattle.book.proofs.Step.{Keeps, Step}

-- slots filled in both have the same reels, and what m' holds m holds in the same place, or it is a frame new to its slot, in a place
-- that a head had filled with it
pub record Keeping (ws : List ℕ) (g : Geometry) (m m' : Memory) : Type 0 where
  pub reels : {s : ℕ} → Filled g m s → Filled g m' s → m (reel_at s) ≡ m' (reel_at s)
  pub held : {s : ℕ} {w : List ℕ} {n p f : ℕ} → Holds g m' s w n p f
      → Holds g m s w n p f ⊎ (Filled g m s × (FrameOf g m s f → ⊥) × FilledBy ws s n p f)

-- m' holds no more than m holds
pub record Within (g : Geometry) (m m' : Memory) : Type 0 where
  pub filled : {s : ℕ} → Filled g m' s → Filled g m s
  pub reels : {s : ℕ} → Filled g m' s → m (reel_at s) ≡ m' (reel_at s)
  pub holds : {s : ℕ} {w : List ℕ} {n p f : ℕ} → Holds g m' s w n p f → Holds g m s w n p f

pub within_self : (g : Geometry) (m : Memory) → Within g m m
within_self g m = record { filled = λ b. b; reels = λ b. refl; holds = λ x. x }

pub within_same : {g : Geometry} {m m' : Memory} → Same g m m' → Within g m m'
within_same a = record { filled = filled_back a.links; reels = λ b. a.reels (filled_back a.links b); holds = (same_laws a).holds.1 }

pub within_on : {g : Geometry} {m m' m'' : Memory} → Within g m m' → Within g m' m'' → Within g m m''
within_on a b = record {
  filled = λ x. a.filled (b.filled x);
  reels = λ x. a.reels (b.filled x) ∙ b.reels x;
  holds = λ x. a.holds (b.holds x);
}

pub within_frames : {g : Geometry} {m m' : Memory} {s f : ℕ} → Within g m m' → FrameOf g m' s f → FrameOf g m s f
within_frames a = frames_to (λ w n p x. a.holds x)

pub within_keeping : {ws : List ℕ} {g : Geometry} {m m' : Memory} → Within g m m' → Keeping ws g m m'
within_keeping a = record { reels = λ b b'. a.reels b'; held = λ x. inl (a.holds x) }

module _ {ws : List ℕ} {r : Rule} {g : Geometry} {m m' : Memory} (d : Sound r g m) (a : Keeping ws g m m') where
  one_slot : {slot slot' : ℕ} → Filled g m slot → Filled g m slot' → Filled g m' slot' → m (reel_at slot) ≡ m' (reel_at slot') → slot ≡ slot'
  one_slot b c c' q = d.reels b c (q ∙ sym (a.reels c c'))

  pub keeping_place : {slot slot' n n' p p' f : ℕ} {w w' : List ℕ} → Holds g m slot w n p f → Holds g m' slot' w' n' p' f
      → m (reel_at slot) ≡ m' (reel_at slot') → (slot ≡ slot') × (w ≡ w') × (n ≡ n') × (p ≡ p')
  keeping_place {slot} {slot'} {n} {n'} {p} {p'} {f} {w} {w'} x y q =
      let b = slot_filled x.there in
      let c' = slot_filled y.there in
      elim (a.held y) [
        | inl z ↦
            let e = one_slot b (slot_filled z.there) c' q in
            let x' : Holds g m slot' w n p f = rw e at x in
            let o = d.frame_once x' z in
            (e, o.0, one_node (rw o.0 at x'.there) z.there, o.1)
        | inr z ↦
            let e = one_slot b z.0 c' q in
            absurd (z.1 (record { way = w; node = n; place = p; holds = rw e at x }))
      ]

pub keeps_of : {ws : List ℕ} {g : Geometry} {o o' : Bool} {im im' : List ℕ} {rs : List Reel} → View g o im rs → Header g o' im' → Keeping ws g (reads im) (reads im')
    → Keeps ws im im'
keeps_of v h a = record {
  same_place = rw (v.header.geometry, h.geometry) (λ x y q. keeping_place v.sound a x y q);
  came_from = rw (v.header.geometry, h.geometry) (λ x. elim (a.held x) [ inl y ↦ inl y | inr y ↦ inr y.2 ]);
}

pub keeps_itself : {ws : List ℕ} {g : Geometry} {o : Bool} {im : List ℕ} {rs : List Reel} → View g o im rs → Keeps ws im im
keeps_itself {g = g} {im = im} v = keeps_of v v.header (within_keeping (within_self g (reads im)))

-- ---- a step from its parts: the script, the state after it and the table after it, and each image that a crash can leave

pub step_of : {op : Operation} {s s' : State} {t t' : Table} {segs : List (List Store)} → granted op s ≡ writing segs s' → (table_work op t).after ≡ t'
    → Agrees (carried_out (writing segs s')) t' → Through (λ im. (Shows im t ⊎ Shows im t') × Keeps s.heads s.image im) s.image segs → Step op s t
step_of {op} {s} {s'} {t} {t'} {segs} p q a h = record {
  final = rw (p, q) a;
  crash = rw (p, q) (λ k im c. (through k im c).0);
  keeps = rw p (λ k im c. (through k im c).1);
}
  where
    through : (k : ℕ) (im : List ℕ) → CrashImage s.image (segmented segs) k im → (Shows im t ⊎ Shows im t') × Keeps s.heads s.image im
    through k im c = falls_through (λ im. (Shows im t ⊎ Shows im t') × Keeps s.heads s.image im) (crash_laws.falls_in s.image segs k im c) h
