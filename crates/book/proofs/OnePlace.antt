-- Memories that differ at one place of one node at most: what stays, and the stores that leave such a pair.
use mathlib.Core.Path.{◌≡◌, refl, sym, ◌∙◌, ap}
use mathlib.Core.Bool.{true, false}
use mathlib.Core.Logic.{◌≢◌}
use mathlib.Core.List.{List}
use Prim.Native.Nat.{ℕ, ◌+◌, ◌/◌, ◌%◌, ◌<◌}
use native.Mathlib.Omega.{arith}
use native.Mathlib.Decide.{ℕ_discrete}
use Rattle.tree.specs.Memory.{Memory, is_set, byte}
use Rattle.tree.specs.declared.layout.Geometry.{Geometry}
use Rattle.tree.specs.Layout.{reel_at, root_at, node_at, next_at, locate_at, set_at, size_at, fingerprints_at, frame_at}
use Rattle.tree.specs.Node.{held, frame, stored_fingerprint}
use Rattle.tree.specs.Slots.{Filled}
use Rattle.tree.specs.Reach.{Holds}
use Rattle.tree.specs.Same.{SameLinks, SameWords, Stores}
use Rattle.tree.proofs.Cases.{true_not_false}
use Rattle.tree.proofs.Same.{filled_on, filled_back, reaches_on, reaches_back}
use Rattle.tree.proofs.Words.{beside_node, beside_slots}
use Rattle.book.specs.Editions.{SameHeader}
use Rattle.book.proofs.Keeps.{Within}

-- a place's two bits, its frame and its fingerprint
pub record SamePlace (g : Geometry) (m m' : Memory) (n p : ℕ) : Type 0 where
  pub locate : is_set (m (locate_at g n)) p ≡ is_set (m' (locate_at g n)) p
  pub set : held g m n p ≡ held g m' n p
  pub frames : frame g m n p ≡ frame g m' n p
  pub fingerprints : stored_fingerprint g m n p ≡ stored_fingerprint g m' n p

-- all but place p of node n is the same
pub record OnePlace (g : Geometry) (m m' : Memory) (n p : ℕ) : Type 0 where
  pub header : SameHeader m m'
  pub links : SameLinks g m m'
  pub reels : {s : ℕ} → Filled g m s → m (reel_at s) ≡ m' (reel_at s)
  pub sizes : (j : ℕ) → m (size_at g j) ≡ m' (size_at g j)
  pub beside : {j q : ℕ} → q < 64 → ((j ≡ n) × (q ≡ p) → ⊥) → SamePlace g m m' j q

pub one_after_other : {g : Geometry} {m m' m'' : Memory} {n p : ℕ} → OnePlace g m m' n p → OnePlace g m' m'' n p → OnePlace g m m'' n p
one_after_other a b = record {
  header = λ i l. a.header i l ∙ b.header i l;
  links = record { roots = λ s h. a.links.roots s h ∙ b.links.roots s h; next = λ x. a.links.next x ∙ b.links.next (reaches_on a.links x) };
  reels = λ x. a.reels x ∙ b.reels (filled_on a.links x);
  sizes = λ j. a.sizes j ∙ b.sizes j;
  beside = λ l o.
      let x = a.beside l o in let y = b.beside l o in
      record { locate = x.locate ∙ y.locate; set = x.set ∙ y.set; frames = x.frames ∙ y.frames; fingerprints = x.fingerprints ∙ y.fingerprints };
}

pub place_within : {g : Geometry} {m m' : Memory} {n p : ℕ} → OnePlace g m m' n p
    → ((s : ℕ) (w : List ℕ) (n p f : ℕ) → Holds g m' s w n p f → Holds g m s w n p f) → Within g m m'
place_within o h = record {
  filled = filled_back o.links;
  reels = λ b. o.reels (filled_back o.links b);
  holds = λ {s} {w} {n} {p} {f} y. h s w n p f y;
}

-- ---- a store to word k of node n, not its next

words_place : {g : Geometry} {m m' : Memory} {n p : ℕ} → SameWords g m m' n → p < 64 → SamePlace g m m' n p
words_place {g} {n = n} {p = p} a h = record {
  locate = ap (λ w. is_set w p) (a.words (locate_at g n) (omega arith) (omega arith));
  set = ap (λ w. is_set w p) (a.words (set_at g n) (omega arith) (omega arith));
  frames = a.words (frame_at g n p) (omega arith) (omega arith);
  fingerprints = ap (λ w. byte w (p % 8)) (a.words (fingerprints_at g n p) (omega arith) (omega arith));
}

module _ {g : Geometry} {m m' : Memory} {i v : ℕ} (n k : ℕ) (low : 0 < k) (high : k < 80) (e : i ≡ node_at g n + k) (t : Stores m i v m') where
  store_links : SameLinks g m m'
  store_links = record {
    roots = λ s h. beside_slots g t (root_at s) n (omega arith) (omega arith);
    next = λ {n = j} y. t.old (next_at g j) (λ q. omega arith);
  }

  store_reels : {s : ℕ} → Filled g m s → m (reel_at s) ≡ m' (reel_at s)
  store_reels {s} b = beside_slots g t (reel_at s) n (omega (arith, b.inside)) (omega arith)

  store_place : {p : ℕ} → k ≢ 4 → ((q : ℕ) → q < 64 → q ≢ p → SamePlace g m m' n q) → OnePlace g m m' n p
  store_place d h = record {
    header = λ j l. t.old j (λ q. omega arith);
    links = store_links;
    reels = store_reels;
    sizes = λ j. t.old (size_at g j) (λ q. d (omega arith));
    beside = λ {j} {q} l o. elim (ℕ_discrete j n) [
      | yes c ↦ rw c (h q l (λ z. o (c, z)))
      | no c ↦ words_place (beside_node g t n j k c high e) l
    ];
  }

  -- neither the set word nor a frame held: nothing more is held
  store_within : k ≢ 2 → ((p : ℕ) → k ≡ 16 + p → held g m n p ≡ false) → Within g m m'
  store_within d h = record {
    filled = filled_back store_links;
    reels = λ b. store_reels (filled_back store_links b);
    holds = λ {n = j} {p = q} x.
        let set : held g m j q ≡ true = ap (λ w. is_set w q) (t.old (set_at g j) (λ z. d (omega arith))) ∙ x.set in
        let low = x.place in
        record {
          there = reaches_back store_links x.there;
          place = x.place;
          set = set;
          is = t.old (frame_at g j q) (λ z.
              let o : j ≡ n = omega arith in let y : k ≡ 16 + q = omega arith in
              true_not_false (rw o at set) (h q y)) ∙ x.is;
        };
  }

-- ---- each word of a place

module _ {g : Geometry} {m m' : Memory} (n p : ℕ) {u : ℕ} where
  -- locate with one bit changed
  pub locate_place : Stores m (locate_at g n) u m' → ((q : ℕ) → q ≢ p → is_set (m (locate_at g n)) q ≡ is_set u q) → OnePlace g m m' n p
  locate_place t h = store_place n 1 (omega arith) (omega arith) refl t (omega arith) (λ q l o. record {
    locate = h q o ∙ ap (λ w. is_set w q) (sym t.new);
    set = ap (λ w. is_set w q) (t.old (set_at g n) (λ z. omega arith));
    frames = t.old (frame_at g n q) (λ z. omega arith);
    fingerprints = ap (λ w. byte w (q % 8)) (t.old (fingerprints_at g n q) (λ z. omega arith));
  })

  pub locate_within : Stores m (locate_at g n) u m' → Within g m m'
  locate_within t = store_within n 1 (omega arith) (omega arith) refl t (omega arith) (λ q z. absurd (omega arith))

  -- set with one bit changed
  pub set_place : Stores m (set_at g n) u m' → ((q : ℕ) → q ≢ p → is_set (m (set_at g n)) q ≡ is_set u q) → OnePlace g m m' n p
  set_place t h = store_place n 2 (omega arith) (omega arith) refl t (omega arith) (λ q l o. record {
    locate = ap (λ w. is_set w q) (t.old (locate_at g n) (λ z. omega arith));
    set = h q o ∙ ap (λ w. is_set w q) (sym t.new);
    frames = t.old (frame_at g n q) (λ z. omega arith);
    fingerprints = ap (λ w. byte w (q % 8)) (t.old (fingerprints_at g n q) (λ z. omega arith));
  })

  -- the frame
  pub frame_place : p < 64 → Stores m (frame_at g n p) u m' → OnePlace g m m' n p
  frame_place low t = store_place n (16 + p) (omega arith) (omega arith) (omega arith) t (omega arith) (λ q l o. record {
    locate = ap (λ w. is_set w q) (t.old (locate_at g n) (λ z. omega arith));
    set = ap (λ w. is_set w q) (t.old (set_at g n) (λ z. omega arith));
    frames = t.old (frame_at g n q) (λ z. o (omega arith));
    fingerprints = ap (λ w. byte w (q % 8)) (t.old (fingerprints_at g n q) (λ z. omega arith));
  })

  pub frame_within : p < 64 → held g m n p ≡ false → Stores m (frame_at g n p) u m' → Within g m m'
  frame_within low c t =
      store_within n (16 + p) (omega arith) (omega arith) (omega arith) t (omega arith) (λ q z. let y : q ≡ p = omega arith in rw y c)

  -- the fingerprint's byte
  pub fingerprint_place : p < 64 → Stores m (fingerprints_at g n p) u m' → ((j : ℕ) → j ≢ p % 8 → byte u j ≡ byte (m (fingerprints_at g n p)) j)
      → OnePlace g m m' n p
  fingerprint_place low t h = store_place n (8 + p / 8) (omega arith) (omega arith) (omega arith) t (omega arith) (λ q l o. record {
    locate = ap (λ w. is_set w q) (t.old (locate_at g n) (λ z. omega arith));
    set = ap (λ w. is_set w q) (t.old (set_at g n) (λ z. omega arith));
    frames = t.old (frame_at g n q) (λ z. omega arith);
    fingerprints = elim (ℕ_discrete (q / 8) (p / 8)) [
      | yes c ↦ rw (c, t.new) (sym (h (q % 8) (λ z. o (omega arith))))
      | no c ↦ ap (λ w. byte w (q % 8)) (t.old (fingerprints_at g n q) (λ z. c (omega arith)))
    ];
  })

  pub fingerprint_within : p < 64 → Stores m (fingerprints_at g n p) u m' → Within g m m'
  fingerprint_within low t =
      store_within n (8 + p / 8) (omega arith) (omega arith) (omega arith) t (omega arith) (λ q z. absurd (omega arith))
