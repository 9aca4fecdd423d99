-- A book's agreement with its table, in a given geometry: claims carried from one memory to another.
use mathlib.Core.Path.{◌≡◌, sym, ◌∙◌, ap, subst}
use mathlib.Core.Bool.{true}
use mathlib.Core.Logic.{◌⊎◌, ◌↔◌}
use mathlib.Core.List.{List}
use Prim.Native.Nat.{ℕ, ◌*◌, ◌%◌, ◌≤◌, ◌<◌}
use native.Mathlib.Omega.{arith}
use lib.ListN.{length}
use Rattle.tree.specs.Memory.{Memory, reads, is_set, byte}
use Rattle.tree.specs.declared.layout.Geometry.{Geometry}
use Rattle.tree.specs.Layout.{map_words, geometry_of, reel_at, locate_at, set_at, size_at, fingerprints_at, frame_at}
use Rattle.tree.specs.Fingerprint.{fingerprint, rule_of}
use Rattle.tree.specs.Node.{held, frame, stored_fingerprint}
use Rattle.tree.specs.Reach.{Reaches, FrameOf}
use Rattle.tree.specs.Pool.{used}
use Rattle.tree.specs.Same.{SameWords}
use Rattle.tree.proofs.Reach.{slot_filled}
use Rattle.book.specs.declared.Target.{Target}
use Rattle.book.specs.declared.HeadState.{HeadState}
use Rattle.book.specs.Heads.{head_count, head_at}
use Rattle.book.specs.State.{State}
use Rattle.book.specs.Table.{Table, TableHead, table_head}
use Rattle.book.specs.Agrees.{Reached, Shows, Claims, Written, HeadAgrees, both_idle, both_claimed, both_filled}
use Rattle.book.specs.Agrees.{About, by_claim, by_fill, ClaimsPlace, Agrees}

-- ---- claims

-- what a claim speaks of is unchanged from m to m', but that its node may grow and frames may go
pub record SameClaim (g : Geometry) (m m' : Memory) (t : Target) : Type 0 where
  pub reel : m (reel_at t.slot) ≡ m' (reel_at t.slot)
  pub ways : {w : List ℕ} → Reaches g m t.slot w t.node → Reaches g m' t.slot w t.node
  pub size : m (size_at g t.node) ≤ m' (size_at g t.node)
  pub locate : is_set (m (locate_at g t.node)) t.place ≡ is_set (m' (locate_at g t.node)) t.place
  pub set : held g m t.node t.place ≡ held g m' t.node t.place
  pub frame : frame g m t.node t.place ≡ frame g m' t.node t.place
  pub fingerprint : stored_fingerprint g m t.node t.place ≡ stored_fingerprint g m' t.node t.place
  pub frames : FrameOf g m' t.slot t.frame → FrameOf g m t.slot t.frame

module _ {g : Geometry} {m m' : Memory} where
  pub claims_on : {t : Target} {reel f : ℕ} → SameClaim g m m' t → Claims g m t reel f → Claims g m' t reel f
  claims_on {t} a c = record {
    open_slot = slot_filled (a.ways c.on_path_lem);
    of_reel = sym a.reel ∙ c.of_reel;
    of_frame = c.of_frame;
    word = c.word;
    depth = c.depth;
    on_path_lem = a.ways c.on_path_lem;
    place = omega (arith, c.place, a.size);
    located = sym a.locate ∙ c.located;
    not_set = sym a.set ∙ c.not_set;
    not_held = λ x. c.not_held (subst (FrameOf g m t.slot) c.of_frame (a.frames (subst (FrameOf g m' t.slot) (sym c.of_frame) x)));
  }

  pub written_on : {t : Target} {f : ℕ} → rule_of m ≡ rule_of m' → SameClaim g m m' t → Written g m t f → Written g m' t f
  written_on {f = f} e a c = record {
    frame_there = sym a.frame ∙ c.frame_there;
    fingerprint_there = sym a.fingerprint ∙ c.fingerprint_there ∙ ap (λ r. fingerprint r f) e;
  }

  pub head_on : {x : HeadState} {y : TableHead} → rule_of m ≡ rule_of m' → ((t : Target) (reel f : ℕ) → About t x → Claims g m t reel f → SameClaim g m m' t)
      → HeadAgrees g m x y → HeadAgrees g m' x y
  head_on e h both_idle = both_idle
  head_on e h (both_claimed c) = both_claimed (claims_on (h _ _ _ by_claim c) c)
  head_on e h (both_filled c w) = let a = h _ _ _ by_fill c in both_filled (claims_on a c) (written_on e a w)

  -- a claim whose node's words all stay
  pub untouched : (t : Target) → SameWords g m m' t.node → t.place < 64 → m (reel_at t.slot) ≡ m' (reel_at t.slot)
      → ((w : List ℕ) → Reaches g m t.slot w t.node → Reaches g m' t.slot w t.node)
      → (FrameOf g m' t.slot t.frame → FrameOf g m t.slot t.frame) → SameClaim g m m' t
  untouched t a l q r h = record {
    reel = q;
    ways = λ {w} x. r w x;
    size = omega (arith, a.words (size_at g t.node) (omega arith) (omega arith));
    locate = ap (λ x. is_set x t.place) (a.words (locate_at g t.node) (omega arith) (omega arith));
    set = ap (λ x. is_set x t.place) (a.words (set_at g t.node) (omega arith) (omega arith));
    frame = a.words (frame_at g t.node t.place) (omega arith) (omega arith);
    fingerprint = ap (λ x. byte x (t.place % 8)) (a.words (fingerprints_at g t.node t.place) (omega arith) (omega arith));
    frames = h;
  }

  -- what locate has of such a node stays
  pub locates_on : {n : ℕ} {X : Type 0} (p : ℕ) → SameWords g m m' n → (is_set (m (locate_at g n)) p ≡ true) ↔ ((held g m n p ≡ true) ⊎ X)
      → (is_set (m' (locate_at g n)) p ≡ true) ↔ ((held g m' n p ≡ true) ⊎ X)
  locates_on {n} p a h = rw (a.words (locate_at g n) (omega arith) (omega arith), a.words (set_at g n) (omega arith) (omega arith)) at h

-- a head that is about a target has a claim to it
pub about_claim : {g : Geometry} {m : Memory} {x : HeadState} {y : TableHead} {t : Target} → HeadAgrees g m x y → About t x
    → (reel : ℕ) × (f : ℕ) × Claims g m t reel f
about_claim both_idle x = elim x [ ]
about_claim (both_claimed {reel = r} {f = f} c) by_claim = (r, f, c)
about_claim (both_filled {reel = r} {f = f} c w) by_fill = (r, f, c)

-- ---- agreement

-- agreement in a given geometry
pub record AgreesBy (g : Geometry) (s : State) (t : Table) : Type 0 where
  pub map_words_lem : length s.pool ≡ map_words g
  pub marks : (n : ℕ) → (used s.pool n ≡ true) ↔ Reached g (reads s.image) n
  pub head_words : length s.heads ≡ 5 * head_count
  pub table_heads : length t.heads ≡ head_count
  pub heads : (h : ℕ) → h < head_count → HeadAgrees g (reads s.image) (head_at s.heads h) (table_head t h)
  pub apart : (h h' : ℕ) {a b : Target} → h < head_count → h' < head_count → About a (head_at s.heads h) → About b (head_at s.heads h')
      → (a.node ≡ b.node) ⊎ ((a.slot ≡ b.slot) × (a.frame ≡ b.frame)) → h ≡ h'
  pub locates : (n p : ℕ) → Reached g (reads s.image) n → p < 64
      → (is_set (reads s.image (locate_at g n)) p ≡ true) ↔ ((held g (reads s.image) n p ≡ true) ⊎ ((h : ℕ) × ClaimsPlace s.heads h n p))

own_agrees : {s : State} {t : Table} → Shows s.image t → AgreesBy (geometry_of (reads s.image)) s t → Agrees s t
own_agrees v a = record {
  shows = v;
  map_words_lem = a.map_words_lem;
  marks = a.marks;
  head_words = a.head_words;
  table_heads = a.table_heads;
  heads = a.heads;
  apart = a.apart;
  locates = a.locates;
}

pub agrees_of : {g : Geometry} {s : State} {t : Table} → geometry_of (reads s.image) ≡ g → Shows s.image t → AgreesBy g s t → Agrees s t
agrees_of e v a = own_agrees v (rw e a)
