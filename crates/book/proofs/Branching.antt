-- A branch-out: a group of nodes is made and linked to the last node of a full path. What the image is then.
use mathlib.Core.Path.{◌≡◌, refl, sym, ◌∙◌}
use mathlib.Core.Bool.{Bool}
use mathlib.Core.Logic.{◌⊎◌, inl, inr, ◌↔◌}
use mathlib.Core.List.{List, ◌∷◌, Memᴰ}
use Prim.Native.Nat.{ℕ, suc, ◌+◌, ◌-◌, ◌^◌, ◌<◌}
use native.Mathlib.Omega.{arith}
use lib.ListN.{length, set}
use Rattle.tree.specs.Memory.{Memory, reads, stores, apply, Torn}
use Rattle.tree.specs.declared.layout.Geometry.{Geometry}
use Rattle.tree.specs.Layout.{reel_at, node_at, next_at, locate_at, set_at, size_at}
use Rattle.tree.specs.Path.{fanout, way_of}
use Rattle.tree.specs.Fingerprint.{rule_of}
use Rattle.tree.specs.Slots.{Filled}
use Rattle.tree.specs.Reach.{Reaches}
use Rattle.tree.specs.Same.{Same, SameWords, Stores}
use Rattle.tree.specs.Changes.{Fresh, Links, InGroup, Grown}
use Rattle.tree.proofs.Lists.{in_range_lem, range_has}
use Rattle.tree.proofs.Reach.{slot_filled}
use Rattle.tree.proofs.Laws.{child_laws, node_laws, same_laws, change_laws}
use Rattle.tree.proofs.Memory.{torn_whole}
use Rattle.book.specs.Perform.{group}
use Rattle.book.specs.Table.{Reel}
use Rattle.book.specs.Agrees.{Reached}
use Rattle.book.specs.Ways.{UnreachedRun, FullPath, Beside, NewWord}
use Rattle.book.specs.Growth.{SameNodes, Adds}
use Rattle.book.proofs.View.{View}
use Rattle.book.proofs.Stored.{stores_set, header_set, few_nodes, HeaderAs}
use Rattle.book.proofs.Reels.{node_slots}
use Rattle.book.proofs.Views.{view_linked}
use Rattle.book.proofs.Sames.{reached_inside}
use Rattle.book.proofs.Still.{Still, still_on}
use Rattle.book.proofs.NewNodes.{new_nodes, Made, made, either, words_torn, same_torn, rule_same, still_torn}
use Rattle.book.proofs.SameNodes.{links_nodes}

-- the nodes of a group
pub in_group : (start d : ℕ) {n : ℕ} → Memᴰ n (group start d) → (c : ℕ) × (c < fanout d) × (n ≡ start + c)
in_group start d {n} y = let r = in_range_lem start (fanout d) y in (n - start, omega arith, omega arith)

-- the image with the group made, and linked to its parent
abbrev pub made_image : Geometry → List ℕ → (d start : ℕ) → List ℕ
made_image g im d start = apply im (stores (new_nodes g (suc d) 64 (group start d)))

abbrev pub linked_image : Geometry → List ℕ → (parent d start : ℕ) → List ℕ
linked_image g im parent d start = set (made_image g im d start) (next_at g parent) (start + 1)

-- a memory m' that has a group of children besides what m has
pub record Branches (g : Geometry) (m m' : Memory) (slot f d start : ℕ) : Type 0 where
  pub rule : rule_of m ≡ rule_of m'
  pub ways : {i : ℕ} {w : List ℕ} {n : ℕ} → Reaches g m i w n → Reaches g m' i w n
  pub reels : {i : ℕ} → Filled g m i → m (reel_at i) ≡ m' (reel_at i)
  -- words of nodes reached before, but for next
  pub words : {i : ℕ} {w : List ℕ} {n : ℕ} (j : ℕ) → Reaches g m i w n → node_at g n < j → j < node_at g n + 80 → m j ≡ m' j
  -- words of the new nodes
  pub locate : (c : ℕ) → c < fanout d → m' (locate_at g (start + c)) ≡ 0
  pub set : (c : ℕ) → c < fanout d → m' (set_at g (start + c)) ≡ 0
  pub size : (c : ℕ) → c < fanout d → m' (size_at g (start + c)) ≡ 64
  -- a node reached then is new, or reached before
  pub new_way : (c : ℕ) → c < fanout d → Reaches g m' slot (c ∷ way_of d f) (start + c)
  pub old_or_new : {k : ℕ} → Reached g m' k → Reached g m k ⊎ ((c : ℕ) × (c < fanout d) × (k ≡ start + c))
  pub reaches : {i k : ℕ} {w : List ℕ} → Reaches g m' i w k ↔ (Reaches g m i w k ⊎ InGroup slot (way_of d f) start i w k)

module _ {g : Geometry} {o : Bool} {im : List ℕ} {rs : List Reel} {slot f d start : ℕ} (v : View g o im rs) (x : FullPath g (reads im) slot f d)
    (deep : d < 31) (run : UnreachedRun g (reads im) (fanout d) start) where
  abbrev m : Memory
  m = reads im

  abbrev parent : ℕ
  parent = x.last

  abbrev ns : List ℕ
  ns = group start d

  -- ---- the group is made

  abbrev im1 : List ℕ
  im1 = made_image g im d start

  abbrev m1 : Memory
  m1 = reads im1

  unreached : (n : ℕ) → Memᴰ n ns → Reached g m n → ⊥
  unreached n y r = let c = in_group start d y in run.free c.0 c.1 (rw c.2 at r)

  level_fits : (suc d < 2 ^ 64) × (64 < 2 ^ 64)
  level_fits = (omega arith, omega arith)

  -- torn or whole
  pub still_made : {im' : List ℕ} → Torn im (new_nodes g (suc d) 64 ns) im' → Still g o rs im im'
  still_made t = still_torn g (suc d) 64 ns v unreached level_fits t

  whole : Torn im (new_nodes g (suc d) 64 ns) im1
  whole = torn_whole im (new_nodes g (suc d) 64 ns)

  pub still1 : Still g o rs im im1
  still1 = still_made whole

  same1 : Same g m m1
  same1 = same_torn g (suc d) 64 ns v unreached level_fits whole

  words1 : {i : ℕ} {w : List ℕ} {n : ℕ} → Reaches g m i w n → SameWords g m m1 n
  words1 y = words_torn g (suc d) 64 ns v unreached level_fits whole y

  made1 : (c : ℕ) → c < fanout d → Made g (suc d) 64 m1 (start + c)
  made1 c l = made g (suc d) 64 ns v.header (range_has start (fanout d) {c = start + c} (omega arith) (omega arith)) (omega (arith, run.inside))

  -- ---- and linked

  fresh : (c : ℕ) → c < fanout d → Fresh g m1 (suc d) (start + c)
  fresh c l = let k = made1 c l in record {
    unreached = λ {s = i} {w} y. run.free c l (record { slot = i; way = w; there = (same_laws same1).reaches.1 y });
    formed = ((node_laws g m1).facts (suc d) (start + c)).1 (record {
      inside = omega (arith, run.inside);
      level = k.level_is;
      size = inl k.size_is;
      locate = rw (k.locate, k.size_is) (omega arith);
      set = rw (k.set, k.size_is) (omega arith);
      next = inl k.next;
    });
    childless = k.next;
    bare = k.set;
  }

  links : Links g m1 slot (way_of d f) parent start
  links = record {
    there = (same_laws same1).reaches.0 x.there;
    childless = sym ((words1 x.there).words (next_at g parent) (omega arith) (omega arith)) ∙ x.ends;
    large = sym ((words1 x.there).words (size_at g parent) (omega arith) (omega arith)) ∙ x.wide;
    depth = rw (child_laws.length_way d f) deep;
    inside = rw (child_laws.length_way d f) run.inside;
    fresh = rw (child_laws.length_way d f) fresh;
  }

  abbrev im2 : List ℕ
  im2 = linked_image g im parent d start

  abbrev m2 : Memory
  m2 = reads im2

  index : next_at g parent < length im1
  index = omega (arith, reached_inside still1.view links.there 0 (omega arith))

  stored2 : Stores m1 (next_at g parent) (suc start) m2
  stored2 = let z : suc start ≡ start + 1 = omega arith in rw z (stores_set im1 (next_at g parent) (start + 1) index)

  header2 : HeaderAs g o im1 im2
  header2 = header_set (next_at g parent) (start + 1) still1.view.header (omega arith) index
      (omega (arith, run.inside, child_laws.below d f deep, few_nodes v.header))

  grown : Grown (rule_of m1) g m1 m2 (InGroup slot (way_of d f) start)
  grown = (change_laws m2 still1.view.sound).linked links stored2

  pub still2 : Still g o rs im im2
  still2 =
      let o = node_slots {g = g} parent (omega arith) stored2 in
      still_on still1 (record {
        view = view_linked still1.view header2 links stored2;
        within = record { filled = λ b. o.filled.1 b; reels = λ b. o.reels (o.filled.1 b); holds = λ y. grown.holds.0 y };
      })

  -- no other words are stored to
  pub beside_linked : Beside m m2 (λ i. (i ≡ next_at g parent) ⊎ NewWord g start (fanout d) i)
  beside_linked i o = elim (either g (suc d) 64 ns v unreached level_fits whole i) [
    | inl q ↦ sym (q ∙ stored2.old i (λ z. o (inl z)))
    | inr y ↦
        let c = in_group start d y.1 in
        absurd (o (inr (record { child = c.0; low = c.1; from = omega (arith, c.2, y.2); to = omega (arith, c.2, y.3) })))
  ]

  new_child : (c : ℕ) → c < fanout d → InGroup slot (way_of d f) start slot (c ∷ way_of d f) (start + c)
  new_child c l = record { child = c; low = rw (child_laws.length_way d f) l; slot = refl; way = refl; is = refl }

  pub branches : Branches g m m2 slot f d start
  branches = record {
    rule = rule_same g (suc d) 64 ns v unreached level_fits whole ∙ header2.rule;
    ways = λ y. grown.reaches.1 (inl ((same_laws same1).reaches.0 y));
    reels = λ {i} b. same1.reels b ∙ stored2.old (reel_at i) (λ q. omega (arith, b.inside));
    words = λ j y l k. (words1 y).words j (omega arith) k ∙ stored2.old j (λ q. omega arith);
    locate = λ c l. sym (stored2.old (locate_at g (start + c)) (λ q. omega arith)) ∙ (made1 c l).locate;
    set = λ c l. sym (stored2.old (set_at g (start + c)) (λ q. omega arith)) ∙ (made1 c l).set;
    size = λ c l. sym (stored2.old (size_at g (start + c)) (λ q. omega arith)) ∙ (made1 c l).size_is;
    new_way = λ c l. grown.reaches.1 (inr (new_child c l));
    old_or_new = λ r. elim (grown.reaches.0 r.there) [
      | inl y ↦ inl (record { slot = r.slot; way = r.way; there = (same_laws same1).reaches.1 y })
      | inr y ↦ inr (y.child, rw (child_laws.length_way d f) at y.low, y.is)
    ];
    reaches = (
      λ y. elim (grown.reaches.0 y) [ inl z ↦ inl ((same_laws same1).reaches.1 z) | inr z ↦ inr z ],
      λ y. grown.reaches.1 (elim y [ inl z ↦ inl ((same_laws same1).reaches.0 z) | inr z ↦ inr z ]),
    );
  }

  -- ---- the nodes

  -- made, torn or whole, they are not reached yet
  pub nodes_made : {im' : List ℕ} → Torn im (new_nodes g (suc d) 64 ns) im' → SameNodes im im'
  nodes_made t = links_nodes v.header.geometry (still_made t).view.header.geometry (same_torn g (suc d) 64 ns v unreached level_fits t).links
      (λ i b. (same_torn g (suc d) 64 ns v unreached level_fits t).reels b)
      (λ i n w y. (words_torn g (suc d) 64 ns v unreached level_fits t y).words (size_at g n) (omega arith) (omega arith))

  sizes_kept : {i n : ℕ} {w : List ℕ} → Reaches g m i w n → m2 (size_at g n) ≡ m (size_at g n)
  sizes_kept {n = n} y = sym (branches.words (size_at g n) y (omega arith) (omega arith))

  -- linked, they come, and nothing else
  pub adds : Adds im im2 64 (InGroup slot (way_of d f) start)
  adds = record {
    ways = rw (v.header.geometry, header2.header.geometry) branches.reaches;
    sizes = rw (v.header.geometry, header2.header.geometry) sizes_kept;
    new_sizes = rw header2.header.geometry (λ y. rw y.is (branches.size y.child (rw (child_laws.length_way d f) at y.low)));
    reels = rw v.header.geometry (λ y. sym (branches.reels (slot_filled y)));
  }
