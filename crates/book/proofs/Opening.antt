-- What Open does: segments of stores to different words, and what an answer of 0 says.
use mathlib.Core.Path.{◌≡◌, refl, sym, ◌∙◌, ap, subst}
use mathlib.Core.Logic.{inl, inr, ◌≢◌}
use mathlib.Core.List.Memᴰ
use mathlib.Core.List.{List, [], ◌∷◌, Memᴰ}
use Prim.Native.Nat.{ℕ, ◌+◌, ◌^◌, ◌≤◌, ◌<◌}
use native.Mathlib.Omega.{arith}
use lib.ListN.{length, set, length-set}
use lib.Seq.{get_or-set_same, get_or-set_other}
use Rattle.tree.specs.Memory.{reads, Store, stores, segmented, apply, set_all}
use Rattle.tree.specs.declared.layout.Geometry.{Geometry}
use Rattle.tree.specs.Layout.{reel_at, root_at, node_at}
use Rattle.tree.specs.Slots.{Filled, slot_of, empty_slot}
use Rattle.tree.specs.Lookup.{free_run}
use Rattle.tree.specs.Pool.{mark}
use Rattle.tree.proofs.Memory.{segment_laws, apply_first, apply_single}
use Rattle.tree.proofs.Laws.{slot_laws}
use Rattle.book.specs.State.{State, open_reel}
use Rattle.book.specs.Checks.{refusals}
use Rattle.book.specs.Perform.{new_node, perform, granted, writing, open_script}
use Rattle.book.specs.Table.{Table, with_reels, table_work}
use Rattle.book.specs.Agrees.{Reached, Agrees}
use Rattle.book.proofs.Refusals.{passes}
use Rattle.book.proofs.Performed.{answer_is}
use Rattle.book.proofs.Level31.{lowest_run}
use Rattle.book.proofs.Reading.{sizes_of}

-- ---- segments of stores to different words

-- each store of a segment, written out
abbrev pub Each : (Store → Type 0) → List Store → Type 0
Each P [] = Unit {0}
Each P (x ∷ seg) = P x × Each P seg

pub each_of : (P : Store → Type 0) (seg : List Store) → Each P seg → (x : Store) → Memᴰ x seg → P x
each_of P [] h x y = absurd (Memᴰ.not-nil y)
each_of P (z ∷ seg) h x y = elim (Memᴰ.cases_cons y) [ inl q ↦ subst P (sym q) h.0 | inr y' ↦ each_of P seg h.1 x y' ]

-- the words of a node made anew
pub node_words : (g : Geometry) (n level size : ℕ) → level < 2 ^ 64 → size < 2 ^ 64 → (x : Store) → Memᴰ x (new_node g n level size)
    → (node_at g n ≤ x.0) × (x.0 < node_at g n + 80) × (x.1 < 2 ^ 64)
node_words g n level size h k x y =
    each_of (λ z. (node_at g n ≤ z.0) × (z.0 < node_at g n + 80) × (z.1 < 2 ^ 64)) (new_node g n level size) (omega arith) x y

-- no two stores to one word
abbrev pub Apart : List Store → Type 0
Apart [] = Unit {0}
Apart (x ∷ seg) = Each (λ y. y.0 ≢ x.0) seg × Apart seg

not_stored : (seg : List Store) (im : List ℕ) (i : ℕ) → Each (λ y. y.0 ≢ i) seg → reads (set_all im seg) i ≡ reads im i
not_stored [] im i h = refl
not_stored ((j, v) ∷ seg) im i h = not_stored seg (set im j v) i h.1 ∙ get_or-set_other im j i v 0 (λ q. h.0 (sym q))

set_each : (seg : List Store) (im : List ℕ) (k : ℕ) → length im ≡ k → Each (λ y. y.0 < k) seg → Apart seg
    → Each (λ y. reads (set_all im seg) y.0 ≡ y.1) seg
set_each [] im k e h a = tt
set_each ((j, v) ∷ seg) im k e h a = (
  not_stored seg (set im j v) j a.0 ∙ get_or-set_same im j v 0 (rw e h.0),
  set_each seg (set im j v) k (length-set im j v ∙ e) h.1 a.1,
)

-- carried out, each word has its value
pub stored_each : (seg : List Store) (im : List ℕ) (k : ℕ) → length im ≡ k → Each (λ y. y.0 < k) seg → Apart seg
    → Each (λ y. reads (apply im (stores seg)) y.0 ≡ y.1) seg
stored_each seg im k e h a = subst (λ im'. Each (λ y. reads im' y.0 ≡ y.1) seg) (sym (segment_laws.apply_stores im seg)) (set_each seg im k e h a)

pub two_segments : (im : List ℕ) (seg : List Store) (i v : ℕ) → apply im (segmented (seg ∷ ((i, v) ∷ []) ∷ [])) ≡ set (apply im (stores seg)) i v
two_segments im seg i v = apply_first im seg (((i, v) ∷ []) ∷ []) ∙ apply_single (apply im (stores seg)) ((i, v) ∷ [])

-- ---- what an opening does

-- the free node n, the empty slot, the new reel
pub record Opening (s : State) (slot n reel : ℕ) : Type 0 where
  pub inside : slot < (sizes_of s.image).slots
  pub empty : reads s.image (root_at slot) ≡ 0
  pub low : n < (sizes_of s.image).nodes
  pub free : Reached (sizes_of s.image) (reads s.image) n → ⊥
  pub new_reel : (s' : ℕ) → Filled (sizes_of s.image) (reads s.image) s' → reads s.image (reel_at s') ≢ reel
  pub fits : reel < 2 ^ 64

open_passes : (s : State) (words script reel : ℕ) → (perform (open_reel words script reel) s).answer ≡ 0
    → ((sizes_of s.image).slots ≤ slot_of (sizes_of s.image) (reads s.image) reel)
    × (empty_slot (sizes_of s.image) (reads s.image) < (sizes_of s.image).slots)
    × (free_run (sizes_of s.image) (reads s.pool) 1 < (sizes_of s.image).nodes)
unfolding refusals
open_passes s words script reel h =
    let op = open_reel words script reel in
    let p = passes (refusals op s) (omega arith) (sym (answer_is op s) ∙ h) in
    (p.1.1.1.1.0, p.1.1.1.1.1.0, p.1.1.1.1.1.1.0)

pub opening : {s : State} {t : Table} → Agrees s t → (words script reel : ℕ) → reel < 2 ^ 64 → (perform (open_reel words script reel) s).answer ≡ 0
    → Opening s (empty_slot (sizes_of s.image) (reads s.image)) (free_run (sizes_of s.image) (reads s.pool) 1) reel
opening {s} a words script reel f h =
    let p = open_passes s words script reel h in
    let l = slot_laws (sizes_of s.image) (reads s.image) in
    let n = free_run (sizes_of s.image) (reads s.pool) 1 in
    let z : n + 0 ≡ n = omega arith in
    record {
      inside = p.1;
      empty = l.empty p.1;
      low = p.2;
      free = λ r. (lowest_run a 1 (omega arith) p.2).run.free 0 (omega arith) (rw z r);
      new_reel = λ s' b q. omega (arith, b.inside, p.0, l.lowest b, ap (slot_of (sizes_of s.image) (reads s.image)) q);
      fits = f;
    }

pub open_granted : (s : State) (words script reel : ℕ) →
    let n = free_run (sizes_of s.image) (reads s.pool) 1 in
    granted (open_reel words script reel) s ≡ writing (open_script (sizes_of s.image) (empty_slot (sizes_of s.image) (reads s.image)) n reel)
    (record { image = s.image; pool = mark s.pool n; heads = s.heads })
unfolding granted
open_granted s words script reel = refl

pub open_table : (t : Table) (words script reel : ℕ)
    → (table_work (open_reel words script reel) t).after ≡ with_reels t (record { number = reel; frames = [] } ∷ t.reels)
unfolding table_work
open_table t words script reel = refl
