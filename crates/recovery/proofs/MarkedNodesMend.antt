-- The locate words of marked nodes mended: the loop, and that with the map of a sound image this is what recovery writes.
use mathlib.Core.Path.{◌≡◌, refl, sym, ◌∙◌, ap}
use mathlib.Core.Bool.{true, false}
use mathlib.Core.Logic.{inl, inr, ◌≢◌, ◌↔◌}
use mathlib.Core.List.Memᴰ
use mathlib.Core.List.{List, Memᴰ}
use Prim.Native.Nat.{ℕ, zero, suc, ◌+◌, ◌-◌, ◌/◌, ◌≤◌, ◌<◌}
use native.Mathlib.Omega.{arith}
use native.Mathlib.Decide.{ℕ_discrete}
use native.Mathlib.Numerals.{add-one}
use lib.ListN.{length, set, length-set}
use lib.Seq.{get_or-set_same, get_or-set_other, ext_get_or}
use lib.Dec.{eqb}
use borrow.Author.Tests.{eqb-true, eq-eqb, ne_eqb}
use Rattle.memory.specs.Words.{reads}
use Rattle.memory.specs.Script.{Store, store, stores}
use Rattle.memory.specs.Crash.{apply}
use Rattle.memory.proofs.Laws.{apply_laws, settles}
use Rattle.tree.specs.declared.layout.Geometry.{Geometry}
use Rattle.tree.specs.Layout.{Sized, node_at, locate_at, set_at}
use Rattle.tree.specs.Fingerprint.{rule_of}
use Rattle.tree.specs.Subtree.{Visit, nodes_of, all_trees}
use Rattle.tree.specs.Check.{walkable, is_sound}
use Rattle.tree.specs.Recovery.{recover_stores}
use Rattle.tree.specs.Pool.{used, map_of}
use Rattle.tree.specs.PoolLaws.{NoneUsed}
use Rattle.tree.proofs.Cases.{test, true_not_false, and-true}
use Rattle.tree.proofs.Lists.{kept, keeps}
use Rattle.tree.proofs.Pool.{pool_laws}
use Rattle.recovery.specs.Mended.{mended_below}
use Rattle.visits.proofs.MarkedNodes.{past_unmarked, nodes_inside}

module _ (g : Geometry) (pool image : List ℕ) where
  -- ---- one node more

  mended_unmarked : (k : ℕ) → used pool k ≡ false → mended_below g pool image (suc k) ≡ mended_below g pool image k
  unfolding mended_below
  mended_unmarked k u = rw u refl

  mended_equal : (k : ℕ) → eqb (reads image (locate_at g k)) (reads image (set_at g k)) ≡ true
      → mended_below g pool image (suc k) ≡ mended_below g pool image k
  unfolding mended_below
  mended_equal k e = elim (test (used pool k)) [ inl u ↦ rw (u, e) refl | inr u ↦ mended_unmarked k u ]

  mended_differing : (k : ℕ) → used pool k ≡ true → eqb (reads image (locate_at g k)) (reads image (set_at g k)) ≡ false
      → mended_below g pool image (suc k) ≡ set (mended_below g pool image k) (locate_at g k) (reads image (set_at g k))
  unfolding mended_below
  mended_differing k u e = rw (u, e) refl

  -- what becomes of the image at a node: nothing, or one store
  data Turn (k : ℕ) : Type 0 where
    still : mended_below g pool image (suc k) ≡ mended_below g pool image k → Turn k
    stored : mended_below g pool image (suc k) ≡ set (mended_below g pool image k) (locate_at g k) (reads image (set_at g k)) → Turn k

  turn : (k : ℕ) → Turn k
  turn k = elim (test (used pool k)) [
    | inr u ↦ still (mended_unmarked k u)
    | inl u ↦ elim (test (eqb (reads image (locate_at g k)) (reads image (set_at g k)))) [ inl e ↦ still (mended_equal k e) | inr e ↦ stored (mended_differing k u e) ]
  ]

  pub length_mended : (k : ℕ) → length (mended_below g pool image k) ≡ length image
  unfolding mended_below
  length_mended zero = refl
  length_mended (suc k) = elim (turn k) [ still q ↦ ap length q ∙ length_mended k | stored q ↦ ap length q ∙ length-set (mended_below g pool image k) _ _ ∙ length_mended k ]

  mended_other : (k i : ℕ) → i ≢ locate_at g k → reads (mended_below g pool image (suc k)) i ≡ reads (mended_below g pool image k) i
  mended_other k i d = elim (turn k) [
    | still q ↦ ap (λ ws. reads ws i) q
    | stored q ↦ ap (λ ws. reads ws i) q ∙ get_or-set_other (mended_below g pool image k) (locate_at g k) i _ 0 d
  ]

  -- a word that is no marked node's locate word stays
  mended_beside : (k i : ℕ) → ((n : ℕ) → n < k → used pool n ≡ true → i ≢ locate_at g n) → reads (mended_below g pool image k) i ≡ reads image i
  unfolding mended_below
  mended_beside zero i h = refl
  mended_beside (suc k) i h = elim (test (used pool k)) [
    | inl u ↦ mended_other k i (h k (omega arith) u) ∙ mended_beside k i (λ n l. h n (omega arith))
    | inr u ↦ ap (λ ws. reads ws i) (mended_unmarked k u) ∙ mended_beside k i (λ n l. h n (omega arith))
  ]

  -- nor do the locate words of nodes from k on, and set words, change
  ahead : (k n : ℕ) → k ≤ n → reads (mended_below g pool image k) (locate_at g n) ≡ reads image (locate_at g n)
  ahead k n l = mended_beside k (locate_at g n) (λ j b u q. omega arith)

  set_stays : (k n : ℕ) → reads (mended_below g pool image k) (set_at g n) ≡ reads image (set_at g n)
  set_stays k n = mended_beside k (set_at g n) (λ j b u q. omega arith)

  -- a marked node's locate word has become its set word
  mended_at : (k n : ℕ) → n < k → used pool n ≡ true → locate_at g n < length image → reads (mended_below g pool image k) (locate_at g n) ≡ reads image (set_at g n)
  mended_at zero n l u b = absurd (omega arith)
  mended_at (suc k) n l u b = elim (ℕ_discrete n k) [
    | no d ↦ mended_other k (locate_at g n) (λ q. omega arith) ∙ mended_at k n (omega arith) u b
    | yes q ↦ rw q (here (rw q at u) (rw q at b))
  ]
    where
      here : used pool k ≡ true → locate_at g k < length image → reads (mended_below g pool image (suc k)) (locate_at g k) ≡ reads image (set_at g k)
      here u b = elim (test (eqb (reads image (locate_at g k)) (reads image (set_at g k)))) [
        | inl e ↦ ap (λ ws. reads ws (locate_at g k)) (mended_equal k e) ∙ ahead k k (omega arith) ∙ eqb-true _ _ e
        | inr e ↦ ap (λ ws. reads ws (locate_at g k)) (mended_differing k u e) ∙ get_or-set_same (mended_below g pool image k) (locate_at g k) _ 0 (rw (length_mended k) b)
      ]

  -- ---- the loop

  -- what the loop has where the nodes below n are done: the image mended below n
  pub record MendedTo (now : List ℕ) (n : ℕ) : Type 0 where
    pub is : now ≡ mended_below g pool image n
    pub same_length : length now ≡ length image

  mended_to : (now : List ℕ) (n : ℕ) → now ≡ mended_below g pool image n → MendedTo now n
  mended_to now n e = record { is = e; same_length = ap length e ∙ length_mended n }

  pub mended_none : MendedTo image 0
  unfolding mended_below
  mended_none = mended_to image 0 refl

  -- nodes that are not marked are passed over; in the end no marked node is left
  pub mended_past : {now : List ℕ} {from n : ℕ} → NoneUsed pool from n → MendedTo now from → now ≡ mended_below g pool image n
  mended_past u t = t.is ∙ sym (past_unmarked (mended_below g pool image) pool mended_unmarked u)

  module _ {now : List ℕ} {from n : ℕ} (o : NoneUsed pool from n) (t : MendedTo now from) where
    here : now ≡ mended_below g pool image n
    here = mended_past o t

    locate_then : reads now (locate_at g n) ≡ reads image (locate_at g n)
    locate_then = ap (λ ws. reads ws (locate_at g n)) here ∙ ahead n n (omega arith)

    set_then : reads now (set_at g n) ≡ reads image (set_at g n)
    set_then = ap (λ ws. reads ws (set_at g n)) here ∙ set_stays n n

    -- the next marked node's two words, as they are read now, are equal, or different
    module _ {held locate : ℕ} (s : held ≡ reads now (set_at g n)) (l : locate ≡ reads now (locate_at g n)) where
      pub pass_equal : locate ≡ held → MendedTo now (n + 1)
      pass_equal e = mended_to now (n + 1) (rw (add-one n) (here ∙ sym (mended_equal n (eq-eqb _ _ (sym (l ∙ locate_then) ∙ e ∙ s ∙ set_then)))))

      pub pass_stored : {at : ℕ} → at ≡ node_at g n → used pool n ≡ true → locate ≢ held → MendedTo (set now (at + 1) held) (n + 1)
      pass_stored {at} a u d =
          let stored_here : set now (at + 1) held ≡ set (mended_below g pool image n) (locate_at g n) (reads image (set_at g n)) = rw (a, ← here, s ∙ set_then) refl in
          mended_to _ (n + 1) (rw (add-one n)
          (stored_here ∙ sym (mended_differing n u (ne_eqb _ _ (λ q. d (l ∙ locate_then ∙ q ∙ sym (s ∙ set_then)))))))

-- ---- with the map of a sound image

module _ (g : Geometry) (image : List ℕ) where
  -- the node whose locate word would be word i
  node_about : ℕ → ℕ
  node_about i = (i - locate_at g 0) / 80

  only_about : (i n : ℕ) → i ≡ locate_at g n → n ≡ node_about i
  unfolding node_about
  only_about i n q = omega arith

  sound_walkable : is_sound (rule_of (reads image)) g (reads image) ≡ true → walkable g (reads image) (all_trees g (reads image)) ≡ true
  unfolding is_sound
  sound_walkable h = (and-true _ _ (and-true _ _ h).0).0

  -- what recovery stores: to a reached node's locate word its set word
  stored_only : (i v : ℕ) → Memᴰ (i, v) (recover_stores g (reads image))
      → (n : ℕ) × Memᴰ n (nodes_of (all_trees g (reads image))) × (i ≡ locate_at g n) × (v ≡ reads image (set_at g n))
  unfolding recover_stores nodes_of
  stored_only i v x =
      let t = Memᴰ.of_map {A = Visit} {B = Store} (λ v. (locate_at g v.node, reads image (set_at g v.node))) _ x in
      (t.0.node, Memᴰ.map (λ v. v.node) (kept _ (all_trees g (reads image)) t.1).0, sym (ap (λ s. s.0) t.2), sym (ap (λ s. s.1) t.2))

  -- and that of every reached node where the two differ
  stored_differing : (n : ℕ) → Memᴰ n (nodes_of (all_trees g (reads image))) → reads image (locate_at g n) ≢ reads image (set_at g n)
      → Memᴰ (locate_at g n, reads image (set_at g n)) (recover_stores g (reads image))
  unfolding recover_stores nodes_of
  stored_differing n x d =
      let t = Memᴰ.of_map (λ v. v.node) (all_trees g (reads image)) x in
      rw (← t.2) (Memᴰ.map (λ v. (locate_at g v.node, reads image (set_at g v.node))) (keeps _ t.1 (rw (ne_eqb _ _ (rw (← t.2) at d)) refl)))

  module _ (sized : Sized image g) (h : is_sound (rule_of (reads image)) g (reads image) ≡ true) where
    abbrev ns : List ℕ
    ns = nodes_of (all_trees g (reads image))

    abbrev recovered : List ℕ
    recovered = apply image (stores (recover_stores g (reads image)))

    inside : (n : ℕ) → Memᴰ n ns → n < g.nodes
    inside = nodes_inside g (reads image) (all_trees g (reads image)) (sound_walkable h)

    -- a reached node's locate word becomes its set word, and no other word changes
    recovered_at : (n : ℕ) → Memᴰ n ns → reads recovered (locate_at g n) ≡ reads image (set_at g n)
    recovered_at n x =
        settles image (recover_stores g (reads image)) (locate_at g n) (reads image (set_at g n)) (omega (arith, inside n x, sized.words))
        (λ u y. let t = stored_only (locate_at g n) u y in let q : t.0 ≡ n = omega (arith, t.2) in t.3 ∙ ap (λ k. reads image (set_at g k)) q)
        (elim (ℕ_discrete (reads image (locate_at g n)) (reads image (set_at g n))) [ yes q ↦ inl q | no d ↦ inr (stored_differing n x d) ])

    recovered_beside : (i : ℕ) → ((n : ℕ) → Memᴰ n ns → i ≢ locate_at g n) → reads recovered i ≡ reads image i
    unfolding stores
    recovered_beside i d = apply_laws.avoided image (stores (recover_stores g (reads image))) i (λ v x.
        let t = Memᴰ.of_map {A = Store} (λ s. store s.0 s.1) (recover_stores g (reads image)) x in
        let q : t.0.0 ≡ i = cc in
        let o = stored_only t.0.0 t.0.1 t.1 in
        d o.0 o.1 (sym q ∙ o.2))

    abbrev pool : List ℕ
    pool = map_of g ns

    marks : (n : ℕ) → (used pool n ≡ true) ↔ Memᴰ n ns
    marks n = pool_laws.map g ns n inside

    abbrev mended : List ℕ
    mended = mended_below g pool image g.nodes

    -- word i in both: some reached node's locate word, or no such word
    same_beside : (i : ℕ) → ((n : ℕ) → used pool n ≡ true → i ≢ locate_at g n) → reads mended i ≡ reads recovered i
    same_beside i d = mended_beside g pool image g.nodes i (λ n l. d n) ∙ sym (recovered_beside i (λ n x. d n ((marks n).1 x)))

    same_at : (n : ℕ) → used pool n ≡ true → reads mended (locate_at g n) ≡ reads recovered (locate_at g n)
    same_at n u =
        let x = (marks n).0 u in
        mended_at g pool image g.nodes n (inside n x) u (omega (arith, inside n x, sized.words)) ∙ sym (recovered_at n x)

    same_word : (i : ℕ) → reads mended i ≡ reads recovered i
    same_word i = elim (ℕ_discrete i (locate_at g (node_about i))) [
      | no d ↦ same_beside i (λ n u q. d (q ∙ ap (locate_at g) (only_about i n q)))
      | yes q ↦ elim (test (used pool (node_about i))) [
        | inl u ↦ ap (reads mended) q ∙ same_at (node_about i) u ∙ sym (ap (reads recovered) q)
        | inr u ↦ same_beside i (λ n v e. true_not_false (ap (used pool) (sym (only_about i n e)) ∙ v) u)
      ]
    ]

    pub mend_law : mended_below g (map_of g (nodes_of (all_trees g (reads image)))) image g.nodes ≡ apply image (stores (recover_stores g (reads image)))
    mend_law =
        ext_get_or 0 mended recovered (length_mended g pool image g.nodes ∙ sym (apply_laws.length_apply image (stores (recover_stores g (reads image)))))
        (λ i l. same_word i)
