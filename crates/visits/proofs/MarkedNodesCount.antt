-- How many frames the marked nodes hold: the count of a word's set bits, the loop, and the frames of a sound tree.
use mathlib.Core.Path.{◌≡◌, refl, sym, ◌∙◌, ap₂}
use mathlib.Core.Bool.{true, false, cond}
use mathlib.Core.Logic.{inl}
use mathlib.Core.List.{List, [], ◌∷◌, flat_map, Memᴰ}
use Prim.Native.Nat.{ℕ, zero, suc, ◌+◌, ◌*◌, ◌^◌, ◌≤◌, ◌<◌}
use native.Mathlib.Omega.{arith}
use native.Mathlib.Decide.{ℕ_discrete}
use native.Mathlib.Numerals.{add-one}
use lib.ListN.{length, length-append, length-map}
use lib.Count.{ones, ones-le}
use Rattle.memory.specs.Words.{Memory, is_set}
use Rattle.tree.specs.declared.layout.Geometry.{Geometry}
use Rattle.tree.specs.Layout.{map_words, set_at, frame_at}
use Rattle.tree.specs.Lists.{up_to, keep, Distinct, onto}
use Rattle.tree.specs.Subtree.{Visit, nodes_of, tree, held_places, frames_in, listing}
use Rattle.tree.specs.Check.{is_sound_tree}
use Rattle.tree.specs.Pool.{used, mark, mark_all, clear_map, map_of}
use Rattle.tree.specs.PoolLaws.{NoneUsed}
use Rattle.tree.proofs.Pool.{pool_laws, mark_other}
use Rattle.tree.proofs.Ones.{ones_kept}
use Rattle.tree.proofs.Nodes.{well_formed_facts}
use Rattle.tree.proofs.Trees.{formed_at, walked_once}
use Rattle.visits.specs.Marked.{held_below}
use Rattle.visits.proofs.MarkedNodes.{past_unmarked}

module _ (g : Geometry) (m : Memory) where
  -- a node has as many frames as its set word has set bits
  pub frames_counted : (n : ℕ) → m (set_at g n) < 2 ^ 64 → ones (m (set_at g n)) ≡ length (frames_in g m n)
  unfolding frames_in held_places
  frames_counted n h = ones_kept (m (set_at g n)) 64 h ∙ sym (length-map (keep (is_set (m (set_at g n))) (up_to 64)) (λ (p : ℕ). m (frame_at g n p)))

  -- ---- the loop

  -- what the loop has where the nodes below n are done: the frames of the marked ones, at most 64 each
  pub record HeldTo (pool : List ℕ) (count n : ℕ) : Type 0 where
    pub few : count ≤ 64 * n
    pub is : count ≡ held_below g m pool n

  pub held_none : (pool : List ℕ) → HeldTo pool 0 0
  unfolding held_below
  held_none pool = record { few = omega arith; is = refl }

  -- nodes that are not marked are passed over
  held_past : {pool : List ℕ} {count from n : ℕ} → NoneUsed pool from n → HeldTo pool count from → HeldTo pool count n
  unfolding held_below
  held_past {pool} u t = record {
    few = omega (arith, t.few, u.onward);
    is = t.is ∙ sym (past_unmarked (held_below g m pool) pool (λ k e. rw e (omega arith)) u);
  }

  -- the next marked node's frames are added
  pub held_more : {pool : List ℕ} {count from n set : ℕ} → NoneUsed pool from n → used pool n ≡ true → set ≡ m (set_at g n) → set < 2 ^ 64
      → HeldTo pool count from → HeldTo pool (count + ones set) (n + 1)
  unfolding held_below
  held_more {n = n} {set = set} o u e h s = let t = held_past o s in record {
    few = omega (arith, t.few, ones-le 64 set h);
    is = rw (add-one n, u, ← t.is, e, frames_counted n (rw e at h)) refl;
  }

  -- no marked node is left
  pub held_all : {pool : List ℕ} {count from nodes : ℕ} → NoneUsed pool from nodes → HeldTo pool count from → count ≡ held_below g m pool nodes
  held_all u t = (held_past u t).is

  -- ---- one more node marked, and several

  alike : (pool pool' : List ℕ) (k : ℕ) → ((i : ℕ) → i < k → used pool i ≡ used pool' i) → held_below g m pool k ≡ held_below g m pool' k
  unfolding held_below
  alike pool pool' zero h = refl
  alike pool pool' (suc k) h =
      ap₂ (λ (a : ℕ) b. a + cond b (length (frames_in g m k)) 0) (alike pool pool' k (λ i l. h i (omega arith))) (h k (omega arith))

  module _ (pool : List ℕ) (n : ℕ) (inside : n < 64 * length pool) (free : used pool n ≡ false) where
    held_marked : (k : ℕ) → n < k → held_below g m (mark pool n) k ≡ held_below g m pool k + length (frames_in g m n)
    unfolding held_below
    held_marked zero l = absurd (omega arith)
    held_marked (suc k) l = elim (ℕ_discrete k n) [
      | yes q ↦
          let same = alike (mark pool n) pool n (λ i b. mark_other pool n i (λ e. omega arith)) in
          rw (q, same, (pool_laws.marks pool n n inside).1 (inl refl), free) (omega arith)
      | no d ↦ rw (mark_other pool n k d, held_marked k (omega arith)) (omega arith)
    ]

  held_marked_all : (pool : List ℕ) (vs : List Visit) → ((v : Visit) → Memᴰ v vs → (v.node < g.nodes) × (v.node < 64 * length pool) × (used pool v.node ≡ false))
      → Distinct (λ v. v.node) vs
      → held_below g m (mark_all pool (nodes_of vs)) g.nodes ≡ held_below g m pool g.nodes + length (flat_map (λ v. frames_in g m v.node) vs)
  unfolding nodes_of mark_all flat_map
  held_marked_all pool [] h d = omega arith
  held_marked_all pool (v ∷ vs) h (onto a d) =
      let t = h v (Memᴰ.head refl) in
      let rest = held_marked_all (mark pool v.node) vs (λ x y.
      let k = h x (Memᴰ.tail y) in
      (k.0, rw (pool_laws.length_mark pool v.node) k.1, mark_other pool v.node x.node (a x y) ∙ k.2)) d in
      rest ∙ rw (held_marked pool v.node t.1 t.2 g.nodes t.0, length-append) (omega arith)

  held_clear : (n k : ℕ) → held_below g m (clear_map n) k ≡ 0
  unfolding held_below
  held_clear n zero = refl
  held_clear n (suc k) = rw (held_clear n k, pool_laws.clear n k) refl

  pub count_law : (s : ℕ) → is_sound_tree g m s ≡ true → held_below g m (map_of g (nodes_of (tree g m s))) g.nodes ≡ length (listing g m s)
  unfolding is_sound_tree map_of listing
  count_law s h =
      held_marked_all (clear_map (map_words g)) (tree g m s) (λ v x.
      let b = ((well_formed_facts g m _ _).0 (formed_at g m h x)).inside in
      (b, rw (pool_laws.length_clear (map_words g)) (pool_laws.inside g v.node b), pool_laws.clear (map_words g) v.node)) (walked_once g m h)
      ∙ rw (held_clear (map_words g) g.nodes) (omega arith)
