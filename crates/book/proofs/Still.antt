-- Images that hold only what another one holds, in the same places, and show the same reels.
use mathlib.Core.Path.{◌≡◌, ap}
use mathlib.Core.Bool.{Bool}
use mathlib.Core.Logic.{◌≢◌}
use mathlib.Core.List.{List}
use Prim.Native.Nat.{ℕ, ◌+◌, ◌*◌, ◌%◌, ◌≤◌, ◌<◌}
use native.Mathlib.Omega.{arith}
use Rattle.tree.specs.Memory.{Memory, reads, is_set, byte}
use Rattle.tree.specs.declared.layout.Geometry.{Geometry}
use Rattle.tree.specs.Layout.{reel_at, root_at, node_at, next_at, locate_at, set_at, size_at, fingerprints_at, frame_at}
use Rattle.tree.specs.Reach.{Reaches}
use Rattle.tree.specs.Same.{Same, SameWords, Stores}
use Rattle.tree.proofs.Words.{same_next, same_frames}
use Rattle.tree.proofs.Laws.{same_laws}
use Rattle.book.specs.declared.Target.{Target}
use Rattle.book.specs.Table.{Reel}
use Rattle.book.specs.Agrees.{Claims}
use Rattle.book.proofs.View.{View}
use Rattle.book.proofs.Step.{Keeps}
use Rattle.book.proofs.Claims.{SameClaim}
use Rattle.book.proofs.Keeps.{Within, within_self, within_same, within_on, within_frames, within_keeping, keeps_of}

-- ---- words that decide nothing of it

-- a word of a node below its fingerprints, neither next nor set
pub same_word : {g : Geometry} {m m' : Memory} {i v : ℕ} (n k : ℕ) → Stores m i v m' → i ≡ node_at g n + k → 0 < k → k < 8 → k ≢ 2 → Same g m m'
same_word {g} n k t e l h d = record {
  links = record { roots = λ s b. t.old (root_at s) (λ q. omega arith); next = λ {n = j} x. t.old (next_at g j) (λ q. omega arith) };
  reels = λ {s} b. t.old (reel_at s) (λ q. omega (arith, b.inside));
  holds = λ {n = j} x. record {
    set = t.old (set_at g j) (λ q. d (omega arith));
    frames = λ p b z. t.old (frame_at g j p) (λ q. omega arith);
    fingerprints = λ p b z. ap (λ w. byte w (p % 8)) (t.old (fingerprints_at g j p) (λ q. omega arith));
  };
}

-- a claim through such a store, but for its node's size and its place's locate bit
pub claim_beside : {g : Geometry} {m m' : Memory} {i v reel f : ℕ} {x : Target} (n k : ℕ) → Stores m i v m' → i ≡ node_at g n + k → 0 < k → k < 8 → k ≢ 2
    → x.place < 64 → m (size_at g x.node) ≤ m' (size_at g x.node)
    → is_set (m (locate_at g x.node)) x.place ≡ is_set (m' (locate_at g x.node)) x.place → Claims g m x reel f → SameClaim g m m' x
claim_beside {g} {x = x} n k t e l h d b size locate c = let a = same_word {g = g} n k t e l h d in record {
  reel = a.reels c.open_slot;
  ways = λ r. (same_laws a).reaches.0 r;
  size = size;
  locate = locate;
  set = ap (λ w. is_set w x.place) (t.old (set_at g x.node) (λ q. d (omega arith)));
  frame = t.old (frame_at g x.node x.place) (λ q. omega arith);
  fingerprint = ap (λ w. byte w (x.place % 8)) (t.old (fingerprints_at g x.node x.place) (λ q. omega arith));
  frames = within_frames (within_same a);
}

-- the words of slots and of reached nodes alike
pub same_words : {g : Geometry} {m m' : Memory} → ((j : ℕ) → j < 64 + 2 * g.slots → m j ≡ m' j)
    → ((s : ℕ) (w : List ℕ) (n : ℕ) → Reaches g m s w n → SameWords g m m' n) → Same g m m'
same_words h a = record {
  links = record { roots = λ s b. h (root_at s) (omega arith); next = λ {s} {w} {n} x. same_next (a s w n x) };
  reels = λ {s} b. h (reel_at s) (omega (arith, b.inside));
  holds = λ {s} {w} {n} x. same_frames (a s w n x);
}

-- ---- images

pub record Still (g : Geometry) (o : Bool) (rs : List Reel) (im im' : List ℕ) : Type 0 where
  pub view : View g o im' rs
  pub within : Within g (reads im) (reads im')

pub still_self : {g : Geometry} {o : Bool} {rs : List Reel} {im : List ℕ} → View g o im rs → Still g o rs im im
still_self {g} {im = im} v = record { view = v; within = within_self g (reads im) }

pub still_keeps : {ws : List ℕ} {g : Geometry} {o : Bool} {rs : List Reel} {im im' : List ℕ} → View g o im rs → Still g o rs im im' → Keeps ws im im'
still_keeps v a = keeps_of v a.view.header (within_keeping a.within)

pub still_on : {g : Geometry} {o : Bool} {rs : List Reel} {im im' im'' : List ℕ} → Still g o rs im im' → Still g o rs im' im'' → Still g o rs im im''
still_on a b = record { view = b.view; within = within_on a.within b.within }
