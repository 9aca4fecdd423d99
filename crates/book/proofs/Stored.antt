-- Images after a store: what is read of them, and their headers.
use mathlib.Core.Path.{◌≡◌, refl, sym, ◌∙◌, ap}
use mathlib.Core.Bool.{Bool}
use mathlib.Core.List.{List}
use Prim.Native.Nat.{ℕ, ◌+◌, ◌/◌, ◌%◌, ◌^◌, ◌≤◌, ◌<◌}
use native.Mathlib.Omega.{arith}
use native.Mathlib.Decide.{ℕ_discrete}
use lib.ListN.{length, set, length-set}
use lib.Seq.{get_or-set_same, get_or-set_other}
use Rattle.tree.specs.Memory.{Memory, reads, byte, Fit}
use Rattle.tree.specs.declared.layout.Geometry.{Geometry}
use Rattle.tree.specs.Layout.{in_range, edition_at, slots_at, nodes_at, own_at, table_at, geometry_of, root_at, node_at}
use Rattle.tree.specs.Lists.{up_to}
use Rattle.tree.specs.Fingerprint.{has_own, unpacked, stored_table, rule_of, bad_own}
use Rattle.tree.proofs.Lists.{map_cong, up_to_members}
use Rattle.tree.specs.Same.{Stores}
use Rattle.book.specs.Editions.{SameHeader}
use Rattle.book.proofs.View.{Header}

-- memories with the same header have the same table, or none, and are read by one rule
module _ (m m' : Memory) (h : SameHeader m m') where
  pub same_own : has_own m ≡ has_own m'
  unfolding has_own
  same_own = rw (h edition_at (omega arith), h own_at (omega arith)) refl

  same_stored : stored_table m ≡ stored_table m'
  unfolding unpacked
  same_stored = map_cong (λ i. byte (m (table_at + i / 8)) (i % 8)) (λ i. byte (m' (table_at + i / 8)) (i % 8)) (up_to 256)
      (λ i x. let l = (up_to_members 256).0 x in ap (λ w. byte w (i % 8)) (h (table_at + i / 8) (omega arith)))

  pub same_bad : bad_own m ≡ bad_own m'
  unfolding bad_own
  same_bad = rw (h edition_at (omega arith), h own_at (omega arith), same_stored) refl

  pub same_rule : rule_of m ≡ rule_of m'
  unfolding rule_of
  same_rule = rw (same_own, same_stored, h edition_at (omega arith)) refl

pub same_geometry : (m m' : Memory) → m slots_at ≡ m' slots_at → m nodes_at ≡ m' nodes_at → geometry_of m ≡ geometry_of m'
unfolding geometry_of
same_geometry m m' p q = rw (p, q)

-- ---- one store

pub stores_set : (im : List ℕ) (i v : ℕ) → i < length im → Stores (reads im) i v (reads (set im i v))
stores_set im i v h = record { new = get_or-set_same im i v 0 h; old = λ j n. sym (get_or-set_other im i j v 0 n) }

pub fits_set : (im : List ℕ) (i v : ℕ) → Fit im → i < length im → v < 2 ^ 64 → Fit (set im i v)
fits_set im i v f h l j = elim (ℕ_discrete j i) [ yes q ↦ rw (q, get_or-set_same im i v 0 h) l | no n ↦ rw (get_or-set_other im i j v 0 n) (f j) ]

-- ---- headers

-- an image's header, and that it is read by the rule of another image
pub record HeaderAs (g : Geometry) (o : Bool) (im im' : List ℕ) : Type 0 where
  pub header : Header g o im'
  pub rule : rule_of (reads im) ≡ rule_of (reads im')

-- an image of the same length that fits and has the same words 0 to 63
pub header_same : {g : Geometry} {o : Bool} {im im' : List ℕ} → Header g o im → length im' ≡ length im → Fit im' → SameHeader (reads im) (reads im')
    → HeaderAs g o im im'
header_same {im = im} {im' = im'} h l f e = record {
  header = record {
    fits = f;
    edition = rw (← e edition_at (omega arith)) h.edition;
    geometry = sym (same_geometry (reads im) (reads im') (e slots_at (omega arith)) (e nodes_at (omega arith))) ∙ h.geometry;
    in_range_lem = h.in_range_lem;
    words = l ∙ h.words;
    own = sym (same_own (reads im) (reads im') e) ∙ h.own;
    good_table = rw (← same_bad (reads im) (reads im') e) h.good_table;
  };
  rule = same_rule (reads im) (reads im') e;
}

pub header_set : {g : Geometry} {o : Bool} {im : List ℕ} (i v : ℕ) → Header g o im → 64 ≤ i → i < length im → v < 2 ^ 64 → HeaderAs g o im (set im i v)
header_set {im = im} i v h l k f =
    let t = stores_set im i v k in
    header_same h (length-set im i v) (fits_set im i v h.fits k f) (λ j b. t.old j (λ q. omega arith))

pub few_nodes : {g : Geometry} {o : Bool} {im : List ℕ} → Header g o im → g.nodes ≤ 65536
unfolding in_range
few_nodes h = h.in_range_lem.1.1.1

-- the words of the slots and of the pool's nodes are inside the image
pub node_inside : {g : Geometry} {o : Bool} {im : List ℕ} (n k : ℕ) → Header g o im → n < g.nodes → k < 80 → node_at g n + k < length im
node_inside n k h l t = omega (arith, h.words)

pub slot_inside : {g : Geometry} {o : Bool} {im : List ℕ} (s : ℕ) → Header g o im → s < g.slots → root_at s < length im
slot_inside s h l = omega (arith, h.words)
