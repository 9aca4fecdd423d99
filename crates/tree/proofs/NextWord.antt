-- A store to one node's next word: what it leaves alone, and how a memory in which the node has children differs from one in which it
-- has none.
use mathlib.Core.Path.{◌≡◌, sym, ◌∙◌, ap}
use mathlib.Core.Bool.{true}
use mathlib.Core.Logic.{◌⊎◌, inl, inr, ◌≢◌}
use mathlib.Core.List.{List, ◌∷◌}
use Prim.Native.Nat.{ℕ, suc, ◌+◌, ◌-◌, ◌*◌, ◌%◌, ◌≤◌, ◌<◌}
use native.Mathlib.Omega.{arith}
use native.Mathlib.Decide.{ℕ_discrete}
use lib.ListN.{length}
use Rattle.memory.specs.Words.{Memory, byte}
use Rattle.tree.specs.declared.layout.Geometry.{Geometry}
use Rattle.tree.specs.Layout.{root_at, next_at, locate_at, set_at, level_at, size_at, frame_at, fingerprints_at}
use Rattle.tree.specs.Path.{fanout}
use Rattle.tree.specs.Fingerprint.{Rule}
use Rattle.tree.specs.Node.{child_of, well_formed}
use Rattle.tree.specs.Slots.{Filled}
use Rattle.tree.specs.Reach.{Reaches, root, down}
use Rattle.tree.specs.Sound.{Sound}
use Rattle.tree.specs.Same.{SameFrames, SameWords, Stores}
use Rattle.tree.specs.Changes.{InGroup}
use Rattle.tree.specs.Laws.{WellFormed}
use Rattle.tree.proofs.Nodes.{well_formed_facts}
use Rattle.tree.proofs.Words.{same_next, same_formed, beside_node, beside_slots}

module _ (g : Geometry) {m m' : Memory} (n : ℕ) {v : ℕ} (t : Stores m (next_at g n) v m') where
  pub node : (k : ℕ) → k ≢ n → SameWords g m m' k
  node k h = beside_node g t n k 0 h (omega arith) (omega arith)

  pub slot : (j : ℕ) → j < 64 + 2 * g.slots → m j ≡ m' j
  slot j h = beside_slots g t j n h (omega arith)

  pub frames : (k : ℕ) → SameFrames g m m' k
  frames k = record {
    set = t.old (set_at g k) (λ q. omega arith);
    frames = λ p h x. t.old (frame_at g k p) (λ q. omega arith);
    fingerprints = λ p h x. ap (λ y. byte y (p % 8)) (t.old (fingerprints_at g k p) (λ q. omega arith));
  }

  pub was_filled : {s : ℕ} → Filled g m' s → Filled g m s
  was_filled {s} b = record { inside = b.inside; linked = omega (arith, b.inside, b.linked, slot (root_at s) (omega (arith, b.inside))) }

  -- the node is well formed still if its new next word is
  still_formed : (d : ℕ) → (m' (next_at g n) ≡ 0) ⊎ ((m (size_at g n) ≡ 64) × ((d < 31) × (child_of g m' n (fanout d) ≤ g.nodes)))
      → WellFormed g m d n → WellFormed g m' d n
  still_formed d next a =
      let size = t.old (size_at g n) (λ q. omega arith) in
      record {
        inside = a.inside;
        level = sym (t.old (level_at g n) (λ q. omega arith)) ∙ a.level;
        size = rw (← size) a.size;
        locate = rw (← size, ← t.old (locate_at g n) (λ q. omega arith)) a.locate;
        set = rw (← size, ← t.old (set_at g n) (λ q. omega arith)) a.set;
        next = elim next [ inl e ↦ inl e | inr e ↦ inr (sym size ∙ e.0, e.1) ];
      }

  -- and so is every other node that a sound memory reaches
  pub formed : {r : Rule} {s s' : ℕ} {w u : List ℕ} {k : ℕ} → Sound r g m → Reaches g m s w n
      → (m' (next_at g n) ≡ 0) ⊎ ((m (size_at g n) ≡ 64) × ((length w < 31) × (child_of g m' n (fanout (length w)) ≤ g.nodes)))
      → Reaches g m s' u k → well_formed g m' (length u) k ≡ true
  formed {w = w} {u = u} {k = k} d there next x = elim (ℕ_discrete k n) [
    | yes q ↦
        let o = d.once (rw q at x) there in
        rw (q, o.1) ((well_formed_facts g m' (length w) n).1 (still_formed (length w) next ((well_formed_facts g m (length w) n).0 (d.well_formed_lem there))))
    | no q ↦ sym (same_formed (node k q) (length u)) ∙ d.well_formed_lem x
  ]

-- a memory in which the node has no children, and one in which it has those from start on, which have none
module _ (g : Geometry) {lo hi : Memory} (n : ℕ) {start : ℕ} (childless : lo (next_at g n) ≡ 0) (t : Stores lo (next_at g n) (suc start) hi) where
  had_children : {k : ℕ} → 0 < lo (next_at g k) → k ≢ n
  had_children h q = omega (arith, ap (λ x. lo (next_at g x)) q, childless)

  pub kept : {s : ℕ} {w : List ℕ} {k : ℕ} → Reaches g lo s w k → Reaches g hi s w k
  kept {s} (root b e) =
      let q = slot g n t (root_at s) (omega (arith, b.inside)) in
      root (record { inside = b.inside; linked = omega (arith, b.linked) }) (e ∙ ap (λ x. x - 1) q)
  kept (down {c = c} {p = p} x h k e) = let q = same_next (node g n t p (had_children h)) in down (kept x) (omega arith) k (e ∙ ap (λ y. y - 1 + c) q)

  module _ {s : ℕ} {w : List ℕ} (one_way : (s' : ℕ) (u : List ℕ) → Reaches g lo s' u n → (s' ≡ s) × (u ≡ w))
      (leaf : (c : ℕ) → c < fanout (length w) → (start + c ≢ n) × (lo (next_at g (start + c)) ≡ 0)) where
    pub only : {s' : ℕ} {u : List ℕ} {k : ℕ} → Reaches g hi s' u k → Reaches g lo s' u k ⊎ InGroup s w start s' u k
    only {s'} (root b e) = inl (root (was_filled g n t b) (e ∙ ap (λ x. x - 1) (sym (slot g n t (root_at s') (omega (arith, b.inside))))))
    only {s'} (down {w = u} {c} {p} {n = k} x h low e) = go (only x)
      where
        go : Reaches g lo s' u p ⊎ InGroup s w start s' u p → Reaches g lo s' (c ∷ u) k ⊎ InGroup s w start s' (c ∷ u) k
        go (inl y) = elim (ℕ_discrete p n) [
          | yes q ↦
              let o = one_way s' u (rw q at y) in
              let z : k ≡ start + c = omega (arith, e, ap (λ z. hi (next_at g z)) q, t.new) in
              inr (record { child = c; low = rw (← o.1) low; slot = o.0; way = ap (λ z. c ∷ z) o.1; is = z })
          | no q ↦ let z = same_next (node g n t p q) in inl (down y (omega arith) low (e ∙ ap (λ y. y - 1 + c) (sym z)))
        ]
        go (inr y) =
            let l = leaf y.child y.low in
            let q = same_next (node g n t (start + y.child) l.0) in
            absurd (omega (arith, h, ap (λ z. hi (next_at g z)) y.is, l.1))

    pub new_child : {s' : ℕ} {u : List ℕ} {k : ℕ} → Reaches g lo s w n → InGroup s w start s' u k → Reaches g hi s' u k
    new_child there y = rw (y.slot, y.way, y.is) (down {n = start + y.child} (kept there) (omega (arith, t.new)) y.low (omega (arith, t.new)))
