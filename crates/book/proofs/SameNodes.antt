-- Images with the same nodes: by links, reels and sizes, through recoveries, and through scripts that store to neither.
use mathlib.Core.Path.{◌≡◌, refl, sym, ◌∙◌, ap}
use mathlib.Core.Logic.{◌⊎◌, inl, inr, ◌≢◌}
use mathlib.Core.List.{List, [], ◌∷◌}
use Prim.Native.Nat.{ℕ, ◌+◌, ◌*◌, ◌<◌}
use native.Mathlib.Omega.{arith}
use lib.ListN.{length, set}
use lib.Seq.{take-length}
use Rattle.tree.specs.Memory.{Memory, reads, Store, stores, segmented, apply, CrashImage, Torn, single, Module}
use Rattle.tree.specs.declared.layout.Geometry.{Geometry}
use Rattle.tree.specs.Layout.{slots_at, nodes_at, geometry_of, reel_at, root_at, node_at, next_at, size_at}
use Rattle.tree.specs.Slots.{Filled}
use Rattle.tree.specs.Reach.{Reaches}
use Rattle.tree.specs.Same.{SameLinks}
use Rattle.tree.proofs.Memory.{crash_laws, apply_none, torn_whole, apply_single}
use Rattle.tree.proofs.Reach.{slot_filled}
use Rattle.tree.proofs.Same.{reaches_on, reaches_back}
use Rattle.book.specs.State.{State, recover}
use Rattle.book.specs.Perform.{perform}
use Rattle.book.specs.Histories.{done, Interrupted, Attempts, none_yet, refused, interrupted, Recovered}
use Rattle.book.specs.Growth.{ReachesIn, SameNodes, Adds, Doubles}
use Rattle.book.proofs.Stored.{same_geometry}
use Rattle.book.proofs.Crashed.{Through, falls_through}
use Rattle.book.proofs.Entries.{Each, each_at}
use Rattle.book.proofs.Mended.{Mended, kept, mended_same}
use Rattle.book.proofs.Recovery.{recover_writes, interrupted_mended}

pub nodes_itself : (im : List ℕ) → SameNodes im im
nodes_itself im = record { ways = (λ x. x, λ x. x); sizes = λ x. refl; reels = λ x. refl }

pub nodes_equal : {im im' : List ℕ} → im' ≡ im → SameNodes im im'
nodes_equal {im} q = rw q (nodes_itself im)

pub nodes_on : {im im' im'' : List ℕ} → SameNodes im im' → SameNodes im' im'' → SameNodes im im''
nodes_on a b = record {
  ways = (λ x. a.ways.0 (b.ways.0 x), λ x. b.ways.1 (a.ways.1 x));
  sizes = λ x. b.sizes (a.ways.1 x) ∙ a.sizes x;
  reels = λ x. b.reels (a.ways.1 x) ∙ a.reels x;
}

pub nodes_back : {im im' : List ℕ} → SameNodes im im' → SameNodes im' im
nodes_back a = record {
  ways = (λ x. a.ways.1 x, λ x. a.ways.0 x);
  sizes = λ x. sym (a.sizes (a.ways.0 x));
  reels = λ x. sym (a.reels (a.ways.0 x));
}

-- by links, reels and sizes
pub links_nodes : {g : Geometry} {im im' : List ℕ} → geometry_of (reads im) ≡ g → geometry_of (reads im') ≡ g → SameLinks g (reads im) (reads im')
    → ((slot : ℕ) → Filled g (reads im) slot → reads im (reel_at slot) ≡ reads im' (reel_at slot))
    → ((slot n : ℕ) (w : List ℕ) → Reaches g (reads im) slot w n → reads im (size_at g n) ≡ reads im' (size_at g n)) → SameNodes im im'
links_nodes p q a r h = record {
  ways = rw (p, q) (reaches_back a, reaches_on a);
  sizes = rw (p, q) (λ x. sym (h _ _ _ x));
  reels = rw p (λ x. sym (r _ (slot_filled x)));
}

-- ---- recovery, answered, refused or interrupted

mended_nodes : {im im' : List ℕ} → Mended (geometry_of (reads im)) (reads im) (reads im') → SameNodes im im'
mended_nodes {im} {im'} a =
    let q = same_geometry (reads im) (reads im') (kept a slots_at (λ k. omega arith)) (kept a nodes_at (λ k. omega arith)) in
    links_nodes refl (sym q) (mended_same a).links (λ slot b. (mended_same a).reels b) (λ slot n w x. kept a (size_at (geometry_of (reads im)) n) (λ k. omega arith))

pub recovered_nodes : (words : ℕ) (r : State) → SameNodes r.image (done (recover words) r).image
recovered_nodes words r =
    let w = recover_writes words r in
    nodes_on (mended_nodes w.image) (nodes_equal (ap (λ x. apply (perform (recover words) r).work.after.image (segmented x)) w.script ∙ apply_none _))

pub interrupted_nodes : {on : Module} (words : ℕ) (r : State) (k : ℕ) (m : List ℕ) → Interrupted on (recover words) r k m → SameNodes r.image m
interrupted_nodes words r k m c = mended_nodes (interrupted_mended words r k m c).1

attempts_nodes : {on : Module} {m m' : List ℕ} → Attempts on m m' → SameNodes m m'
attempts_nodes {m} none_yet = nodes_itself m
attempts_nodes (refused words s q h a) = nodes_on (nodes_equal q) (nodes_on (recovered_nodes words s) (attempts_nodes a))
attempts_nodes (interrupted words s k q c a) = nodes_on (nodes_equal q) (nodes_on (interrupted_nodes words s k _ c) (attempts_nodes a))

pub ended_nodes : {m : List ℕ} {s' : State} {on : Module} → Recovered on m s' → SameNodes m s'.image
ended_nodes c = rw c.is (nodes_on (attempts_nodes c.attempts) (nodes_on (nodes_equal c.image) (recovered_nodes c.words c.from)))

-- ---- scripts

-- a script from an image: what it leaves once carried out, and nodes as before or as then after a crash
pub record Nodes (im : List ℕ) (segs : List (List Store)) (After : List ℕ → Type 0) : Type 0 where
  pub final : After (apply im (segmented segs))
  pub crash : (k : ℕ) (im' : List ℕ) → CrashImage im (segmented segs) k im' → SameNodes im im' ⊎ SameNodes (apply im (segmented segs)) im'

pub nodes_through : {im last : List ℕ} {segs : List (List Store)} {After : List ℕ → Type 0} → apply im (segmented segs) ≡ last → After last
    → Through (λ im'. SameNodes im im' ⊎ SameNodes last im') im segs → Nodes im segs After
nodes_through {im} {last} {segs} q a h = record {
  final = rw q a;
  crash = rw q (λ k im' c. falls_through (λ im'. SameNodes im im' ⊎ SameNodes last im') (crash_laws.falls_in im segs k im' c) h);
}

-- a store to a node's word that is neither next nor size
abbrev pub Quiet : Geometry → Store → Type 0
Quiet g p = (n : ℕ) × (k : ℕ) × (p.0 ≡ node_at g n + k) × (0 < k) × (k < 80) × (k ≢ 4)

-- so the header, the slots, next and size words are the same
record Spares (g : Geometry) (m m' : Memory) : Type 0 where
  low : (i : ℕ) → i < 64 + 2 * g.slots → m i ≡ m' i
  next : (n : ℕ) → m (next_at g n) ≡ m' (next_at g n)
  size : (n : ℕ) → m (size_at g n) ≡ m' (size_at g n)

spares_nodes : {im im' : List ℕ} → Spares (geometry_of (reads im)) (reads im) (reads im') → SameNodes im im'
spares_nodes {im} {im'} a =
    let q = same_geometry (reads im) (reads im') (a.low slots_at (omega arith)) (a.low nodes_at (omega arith)) in
    links_nodes refl (sym q) (record { roots = λ s h. a.low (root_at s) (omega arith); next = λ {n = n} x. a.next n })
    (λ slot b. a.low (reel_at slot) (omega (arith, b.inside))) (λ slot n w x. a.size n)

spares_torn : {g : Geometry} {m : Memory} {im im' : List ℕ} {seg : List Store} → Each (Quiet g) seg → Spares g m (reads im) → Torn im seg im'
    → Spares g m (reads im')
spares_torn {g} {m} {im} {im'} {seg} e a t = record {
  low = λ i h. a.low i h ∙ same i (λ n k z l b d. omega arith);
  next = λ j. a.next j ∙ same (next_at g j) (λ n k z l b d. omega arith);
  size = λ j. a.size j ∙ same (size_at g j) (λ n k z l b d. d (omega arith));
}
  where
    same : (i : ℕ) → ((n k : ℕ) → i ≡ node_at g n + k → 0 < k → k < 80 → k ≢ 4 → ⊥) → reads im i ≡ reads im' i
    same i h = elim (t.each i) [
      | inl q ↦ sym q
      | inr x ↦ let z = each_at (Quiet g) seg e x in absurd (h z.0 z.1 z.2 z.3 z.4 z.5)
    ]

spares_through : {g : Geometry} {m : Memory} (segs : List (List Store)) (im : List ℕ) → Each (Each (Quiet g)) segs → Spares g m (reads im)
    → Through (λ im'. Spares g m (reads im')) im segs
spares_through [] im e a = a
spares_through (seg ∷ segs) im e a =
    (λ im' t. spares_torn e.0 a t, spares_through segs (apply im (stores seg)) e.1 (spares_torn e.0 a (torn_whole im seg)))

spares_itself : (g : Geometry) (m : Memory) → Spares g m m
spares_itself g m = record { low = λ i h. refl; next = λ n. refl; size = λ n. refl }

quiet_crash : (im : List ℕ) (segs : List (List Store)) → Each (Each (Quiet (geometry_of (reads im)))) segs → (k : ℕ) (im' : List ℕ)
    → CrashImage im (segmented segs) k im' → SameNodes im im'
quiet_crash im segs e k im' c =
    let g = geometry_of (reads im) in
    spares_nodes (falls_through (λ im'. Spares g (reads im) (reads im')) (crash_laws.falls_in im segs k im' c)
    (spares_through segs im e (spares_itself g (reads im))))

pub quiet_final : (im : List ℕ) (segs : List (List Store)) → Each (Each (Quiet (geometry_of (reads im)))) segs → SameNodes im (apply im (segmented segs))
quiet_final im segs e =
    let es = segmented segs in
    let whole = crash_laws.as_carried_out im es (length es) (omega arith) in
    quiet_crash im segs e (length es) (apply im es) (rw take-length at whole)

pub quiet_nodes : {im : List ℕ} {segs : List (List Store)} {After : List ℕ → Type 0} → Each (Each (Quiet (geometry_of (reads im)))) segs
    → ((im' : List ℕ) → SameNodes im im' → After im') → Nodes im segs After
quiet_nodes {im} {segs} e h = record {
  final = h _ (quiet_final im segs e);
  crash = λ k im' c. inl (quiet_crash im segs e k im' c);
}

-- one such store
pub quiet_set : {g : Geometry} {im : List ℕ} → geometry_of (reads im) ≡ g → (n k v : ℕ) → 0 < k → k < 80 → k ≢ 4 → SameNodes im (set im (node_at g n + k) v)
quiet_set {g} {im} q n k v l h d =
    rw (← apply_single im ((node_at g n + k, v) ∷ [])) (quiet_final im (single ((node_at g n + k, v) ∷ [])) (((n, k, rw q refl, l, h, d), tt), tt))

-- ---- changes of nodes, and the same nodes after them

pub doubles_on : {im im' im'' : List ℕ} {slot k : ℕ} {w : List ℕ} → Doubles im im' k → ReachesIn im slot w k → SameNodes im' im'' → Doubles im im'' k
doubles_on a x b = record {
  ways = (λ y. a.ways.0 (b.ways.0 y), λ y. b.ways.1 (a.ways.1 y));
  doubled = b.sizes (a.ways.1 x) ∙ a.doubled;
  sizes = λ y d. b.sizes (a.ways.1 y) ∙ a.sizes y d;
  reels = λ y. b.reels (a.ways.1 y) ∙ a.reels y;
}

pub adds_on : {im im' im'' : List ℕ} {size : ℕ} {New : ℕ → List ℕ → ℕ → Type 0} → Adds im im' size New → SameNodes im' im'' → Adds im im'' size New
adds_on a b = record {
  ways = (λ y. a.ways.0 (b.ways.0 y), λ y. b.ways.1 (a.ways.1 y));
  sizes = λ y. b.sizes (a.ways.1 (inl y)) ∙ a.sizes y;
  new_sizes = λ y. b.sizes (a.ways.1 (inr y)) ∙ a.new_sizes y;
  reels = λ y. b.reels (a.ways.1 (inl y)) ∙ a.reels y;
}
