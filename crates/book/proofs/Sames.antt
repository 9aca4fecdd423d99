-- An image's view through the stores that change nothing of what is reached or held.
use mathlib.Core.Path.{◌≡◌, refl, sym, ◌∙◌, ap}
use mathlib.Core.Bool.{Bool, true, false}
use mathlib.Core.Logic.{◌⊎◌, inl, inr, ◌≢◌}
use mathlib.Core.List.{List, []}
use Prim.Native.Nat.{ℕ, ◌+◌, ◌*◌, ◌/◌, ◌%◌, ◌^◌, ◌≤◌, ◌<◌}
use native.Mathlib.Omega.{arith}
use native.Mathlib.Decide.{ℕ_discrete}
use lib.ListN.{length, set}
use lib.Pow.{pow_mono}
use Rattle.tree.specs.Memory.{Memory, reads, byte, with_byte}
use Rattle.tree.specs.declared.layout.Geometry.{Geometry}
use Rattle.tree.specs.Layout.{reel_at, root_at, node_at, next_at, locate_at, set_at, level_at, size_at, fingerprints_at, frame_at}
use Rattle.tree.specs.Fingerprint.{Rule}
use Rattle.tree.specs.Node.{formed, well_formed, held}
use Rattle.tree.specs.Slots.{Filled}
use Rattle.tree.specs.Reach.{Reaches}
use Rattle.tree.specs.Sound.{Sound}
use Rattle.tree.specs.Same.{Same, SameFrames, SameWords, Stores}
use Rattle.tree.specs.Laws.{WellFormed}
use Rattle.tree.proofs.Memory.{byte_laws}
use Rattle.tree.proofs.Cases.{true_not_false}
use Rattle.tree.proofs.Nodes.{well_formed_facts, size_most}
use Rattle.tree.proofs.Words.{same_next, same_formed, same_frames, beside_node, beside_slots}
use Rattle.book.specs.Agrees.{Reached}
use Rattle.book.specs.Table.{Reel}
use Rattle.book.proofs.View.{View}
use Rattle.book.proofs.Stored.{stores_set, header_set, node_inside, HeaderAs}
use Rattle.book.proofs.Views.{view_same}

-- ---- one word of a reached node, not its next

module _ {r : Rule} {g : Geometry} {m m' : Memory} {s n i k v : ℕ} {w : List ℕ} (d : Sound r g m) (x : Reaches g m s w n) (low : 0 < k) (high : k < 80)
    (e : i ≡ node_at g n + k) (t : Stores m i v m') where
  same_but : SameFrames g m m' n → Same g m m'
  same_but f = record {
    links = record { roots = λ s' h. beside_slots g t (root_at s') n (omega arith) (omega arith); next = λ {n = j} y. t.old (next_at g j) (λ q. omega arith) };
    reels = λ {s = s'} b. beside_slots g t (reel_at s') n (omega (arith, b.inside)) (omega arith);
    holds = λ {n = j} y. elim (ℕ_discrete j n) [ yes q ↦ rw q f | no o ↦ same_frames (beside_node g t n j k o high e) ];
  }

  formed_but : WellFormed g m' (length w) n → (s' : ℕ) (w' : List ℕ) (j : ℕ) → Reaches g m s' w' j → well_formed g m' (length w') j ≡ true
  formed_but f s' w' j y = elim (ℕ_discrete j n) [
    | yes q ↦ rw (q, (d.once (rw q at y) x).1) ((well_formed_facts g m' (length w) n).1 f)
    | no o ↦ sym (same_formed (beside_node g t n j k o high e) (length w')) ∙ d.well_formed_lem y
  ]

module _ (g : Geometry) {m m' : Memory} {i v : ℕ} (n k : ℕ) (high : k < 80) (e : i ≡ node_at g n + k) (t : Stores m i v m') where
  -- a word below the fingerprints, not set
  frames_kept : k < 8 → k ≢ 2 → SameFrames g m m' n
  frames_kept l o = record {
    set = t.old (set_at g n) (λ q. o (omega arith));
    frames = λ p h z. t.old (frame_at g n p) (λ q. omega arith);
    fingerprints = λ p h z. ap (λ w. byte w (p % 8)) (t.old (fingerprints_at g n p) (λ q. omega arith));
  }

  -- a word above the size
  tested_kept : (d : ℕ) → 4 < k → well_formed g m d n ≡ well_formed g m' d n
  unfolding well_formed formed
  tested_kept d l = rw (
    t.old (next_at g n) (λ q. omega arith),
    t.old (locate_at g n) (λ q. omega arith),
    t.old (set_at g n) (λ q. omega arith),
    t.old (level_at g n) (λ q. omega arith),
    t.old (size_at g n) (λ q. omega arith),
  )

  formed_kept : {d : ℕ} → 4 < k → WellFormed g m d n → WellFormed g m' d n
  formed_kept {d} l f = (well_formed_facts g m' d n).0 (sym (tested_kept d l) ∙ (well_formed_facts g m d n).1 f)

-- ---- the view

module _ {g : Geometry} {o : Bool} {im : List ℕ} {rs : List Reel} {s n : ℕ} {w : List ℕ} (v : View g o im rs) (x : Reaches g (reads im) s w n) where
  -- a reached node is well formed, and its words are inside the image
  pub node_formed : WellFormed g (reads im) (length w) n
  node_formed = (well_formed_facts g (reads im) (length w) n).0 (v.sound.well_formed_lem x)

  pub reached_inside : (k : ℕ) → k < 80 → node_at g n + k < length im
  reached_inside k h = node_inside n k v.header node_formed.inside h

  other_place : (j p : ℕ) → held g (reads im) n j ≡ true → held g (reads im) n p ≡ false → j ≢ p
  other_place j p z c q = true_not_false (rw q at z) c

  view_set : (i k u : ℕ) → i ≡ node_at g n + k → 0 < k → k < 80 → u < 2 ^ 64
      → (Stores (reads im) i u (reads (set im i u)) → SameFrames g (reads im) (reads (set im i u)) n × WellFormed g (reads (set im i u)) (length w) n)
      → View g o (set im i u) rs
  view_set i k u e low high l f =
      let h : i < length im = omega (arith, reached_inside k high) in
      let t = stores_set im i u h in
      view_same v (header_set i u v.header (omega arith) h l) (same_but v.sound x low high e t (f t).0) (formed_but v.sound x low high e t (f t).1)

  pub view_locate : (u : ℕ) → u < 2 ^ reads im (size_at g n) → View g o (set im (locate_at g n) u) rs
  view_locate u h = view_set (locate_at g n) 1 u refl (omega arith) (omega arith) (omega (arith, pow_mono (size_most node_formed))) (λ t. (
    frames_kept g n 1 (omega arith) refl t (omega arith) (omega arith),
    let size = t.old (size_at g n) (λ q. omega arith) in
        record {
          inside = node_formed.inside;
          level = sym (t.old (level_at g n) (λ q. omega arith)) ∙ node_formed.level;
          size = rw (← size) node_formed.size;
          locate = rw (← size, t.new) h;
          set = rw (← size, ← t.old (set_at g n) (λ q. omega arith)) node_formed.set;
          next = rw (← size, ← t.old (next_at g n) (λ q. omega arith)) node_formed.next;
        },
  ))

  -- a place that is not held: its frame, and its fingerprint's byte
  pub view_frame : (p u : ℕ) → p < 64 → held g (reads im) n p ≡ false → u < 2 ^ 64 → View g o (set im (frame_at g n p) u) rs
  view_frame p u h c l = view_set (frame_at g n p) (16 + p) u (omega arith) (omega arith) (omega arith) l (λ t. (
    record {
      set = t.old (set_at g n) (λ q. omega arith);
      frames = λ j k z. t.old (frame_at g n j) (λ q. other_place j p z c (omega arith));
      fingerprints = λ j k z. ap (λ w. byte w (j % 8)) (t.old (fingerprints_at g n j) (λ q. omega arith));
    },
    formed_kept g n (16 + p) (omega arith) (omega arith) t (omega arith) node_formed,
  ))

  pub view_fingerprint : (p b : ℕ) → p < 64 → held g (reads im) n p ≡ false → b < 256
      → View g o (set im (fingerprints_at g n p) (with_byte (reads im (fingerprints_at g n p)) (p % 8) b)) rs
  view_fingerprint p b h c l =
      let i = fingerprints_at g n p in
      let fits = byte_laws.with_fits (reads im i) (p % 8) b 64 l (omega arith) (v.header.fits i) in
      view_set i (8 + p / 8) _ (omega arith) (omega arith) (omega arith) fits (λ t. (
        record {
          set = t.old (set_at g n) (λ q. omega arith);
          frames = λ j k z. t.old (frame_at g n j) (λ q. omega arith);
          fingerprints = λ j k z. elim (ℕ_discrete (j / 8) (p / 8)) [
            | yes e ↦ rw (e, t.new) (sym (byte_laws.with_keeps (reads im i) (p % 8) b (j % 8) l (λ q. other_place j p z c (omega arith))))
            | no e ↦ ap (λ w. byte w (j % 8)) (t.old (fingerprints_at g n j) (λ q. e (omega arith)))
          ];
        },
        formed_kept g n (8 + p / 8) (omega arith) (omega arith) t (omega arith) node_formed,
      ))

-- a root that is scaled up
scaled : {g : Geometry} {m m' : Memory} {n : ℕ} → WellFormed g m 0 n → m (next_at g n) ≡ 0 → m (size_at g n) < 64
    → Stores m (size_at g n) (2 * m (size_at g n)) m' → WellFormed g m' 0 n
scaled {g} {m} {m'} {n} a h l t =
    let more = pow_mono {i = m (size_at g n)} {j = 2 * m (size_at g n)} (omega arith) in
    record {
      inside = a.inside;
      level = sym (t.old (level_at g n) (λ q. omega arith)) ∙ a.level;
      size = elim a.size [
        | inl e ↦ absurd (omega arith)
        | inr e ↦ elim e.1 [ inl q ↦ inr (refl, inr (omega (arith, t.new))) | inr q ↦ inl (omega (arith, t.new)) ]
      ];
      locate = rw (t.new, ← t.old (locate_at g n) (λ q. omega arith)) (omega (arith, a.locate));
      set = rw (t.new, ← t.old (set_at g n) (λ q. omega arith)) (omega (arith, a.set));
      next = inl (sym (t.old (next_at g n) (λ q. omega arith)) ∙ h);
    }

pub view_size : {g : Geometry} {o : Bool} {im : List ℕ} {rs : List Reel} {s n : ℕ} → View g o im rs → Reaches g (reads im) s [] n → reads im (next_at g n) ≡ 0
    → reads im (size_at g n) < 64 → View g o (set im (size_at g n) (2 * reads im (size_at g n))) rs
view_size {g} {im} {n = n} v x h l =
    view_set v x (size_at g n) 4 (2 * reads im (size_at g n)) refl (omega arith) (omega arith) (omega arith)
    (λ t. (frames_kept g n 4 (omega arith) refl t (omega arith) (omega arith), scaled (node_formed v x) h l t))

-- ---- words that nothing reads

-- a word of a node that is not reached, or the reel number of an empty slot
pub data Unread (g : Geometry) (m : Memory) (i : ℕ) : Type 0 where
  of_node : (n : ℕ) → node_at g n ≤ i → i < node_at g n + 80 → (Reached g m n → ⊥) → Unread g m i
  of_slot : (s : ℕ) → s < g.slots → m (root_at s) ≡ 0 → i ≡ reel_at s → Unread g m i

module _ {g : Geometry} {m m' : Memory} (a : (i : ℕ) → (m i ≡ m' i) ⊎ Unread g m i) where
  -- what is read is the same
  read_root : (s : ℕ) → s < g.slots → m (root_at s) ≡ m' (root_at s)
  read_root s h = elim (a (root_at s)) [ inl q ↦ q | inr u ↦ elim u [ of_node n l k o ↦ absurd (omega arith) | of_slot s' k e q ↦ absurd (omega arith) ] ]

  pub read_reel : {s : ℕ} → Filled g m s → m (reel_at s) ≡ m' (reel_at s)
  read_reel {s} b = elim (a (reel_at s)) [
    | inl q ↦ q
    | inr u ↦ elim u [
      | of_node n l k o ↦ absurd (omega (arith, b.inside))
      | of_slot s' k e q ↦ let z : s ≡ s' = omega arith in absurd (omega (arith, b.linked, ap (λ x. m (root_at x)) z))
    ]
  ]

  pub read_node : {s : ℕ} {w : List ℕ} {n : ℕ} → Reaches g m s w n → SameWords g m m' n
  read_node {s} {w} {n} x = record {
    words = λ i l h. elim (a i) [
      | inl q ↦ q
      | inr u ↦ elim u [
        | of_node n' l' h' o ↦ let z : n ≡ n' = omega arith in absurd (o (record { slot = s; way = w; there = rw z at x }))
        | of_slot s' k e q ↦ absurd (omega arith)
      ]
    ];
  }

  pub same_read : Same g m m'
  same_read = record { links = record { roots = read_root; next = λ x. same_next (read_node x) }; reels = read_reel; holds = λ x. same_frames (read_node x) }

pub view_fresh : {g : Geometry} {o : Bool} {im im' : List ℕ} {rs : List Reel} → View g o im rs → HeaderAs g o im im'
    → ((i : ℕ) → (reads im i ≡ reads im' i) ⊎ Unread g (reads im) i) → View g o im' rs
view_fresh v h a = view_same v h (same_read a) (λ s w n x. sym (same_formed (read_node a x) (length w)) ∙ v.sound.well_formed_lem x)
