-- Nodes made anew, by one segment of stores to nodes that nothing reaches: what it leaves, torn and whole.
use mathlib.Core.Path.{◌≡◌, refl, sym, ap}
use mathlib.Core.Bool.{Bool}
use mathlib.Core.Logic.{◌⊎◌, inl, inr}
use mathlib.Core.List.{List, [], ◌∷◌, flat_map, Memᴰ}
use Prim.Native.Nat.{ℕ, zero, suc, ◌+◌, ◌^◌, ◌≤◌, ◌<◌}
use native.Mathlib.Omega.{arith}
use lib.ListN.{get_or}
use Rattle.tree.specs.Memory.{Memory, reads, Store, stores, apply, Torn}
use Rattle.tree.specs.declared.layout.Geometry.{Geometry}
use Rattle.tree.specs.Layout.{node_at, next_at, locate_at, set_at, level_at, size_at}
use Rattle.tree.specs.Reach.{Reaches}
use Rattle.tree.specs.Same.{Same, SameWords}
use Rattle.tree.proofs.Lists.{within, together}
use Rattle.tree.proofs.Memory.{settles}
use Rattle.book.specs.Perform.{new_node}
use Rattle.book.specs.Table.{Reel}
use Rattle.book.specs.Agrees.{Reached}
use Rattle.book.proofs.View.{Header, View}
use Rattle.tree.specs.Fingerprint.{rule_of}
use Rattle.book.proofs.Stored.{same_rule, node_inside}
use Rattle.book.proofs.Sames.{of_node}
use Rattle.book.proofs.Crashed.{view_torn}
use Rattle.book.proofs.Keeps.{within_same}
use Rattle.book.proofs.Still.{Still, same_words}

module _ (g : Geometry) (level size : ℕ) where
  -- a store of a new node: the word's number in the node, and its value
  pub record WordOf (n i v : ℕ) : Type 0 where
    pub number : ℕ
    pub low : number < 5
    pub index : i ≡ node_at g n + number
    pub value : v ≡ get_or (0 ∷ 0 ∷ 0 ∷ level ∷ size ∷ []) number 0

  word_of : {n i v : ℕ} → Memᴰ {A = Store} (i, v) (new_node g n level size) → WordOf n i v
  word_of (Memᴰ.head q) =
      let e = ap (λ (s : Store). s.0) q in record { number = 0; low = omega arith; index = omega arith; value = ap (λ (s : Store). s.1) q }
  word_of (Memᴰ.tail (Memᴰ.head q)) = record { number = 1; low = omega arith; index = ap (λ (s : Store). s.0) q; value = ap (λ (s : Store). s.1) q }
  word_of (Memᴰ.tail (Memᴰ.tail (Memᴰ.head q))) =
      record { number = 2; low = omega arith; index = ap (λ (s : Store). s.0) q; value = ap (λ (s : Store). s.1) q }
  word_of (Memᴰ.tail (Memᴰ.tail (Memᴰ.tail (Memᴰ.head q)))) =
      record { number = 3; low = omega arith; index = ap (λ (s : Store). s.0) q; value = ap (λ (s : Store). s.1) q }
  word_of (Memᴰ.tail (Memᴰ.tail (Memᴰ.tail (Memᴰ.tail (Memᴰ.head q))))) =
      record { number = 4; low = omega arith; index = ap (λ (s : Store). s.0) q; value = ap (λ (s : Store). s.1) q }
  word_of (Memᴰ.tail (Memᴰ.tail (Memᴰ.tail (Memᴰ.tail (Memᴰ.tail x))))) = elim x [ ]

  -- no word is stored to with two values
  one_value : {n n' i u v : ℕ} → WordOf n i v → WordOf n' i u → u ≡ v
  one_value x y =
      let z : y.number ≡ x.number = omega (arith, x.low, y.low, x.index, y.index) in
      rw (y.value, z) (sym x.value)

  abbrev pub new_nodes : List ℕ → List Store
  new_nodes ns = flat_map (λ n. new_node g n level size) ns

  -- the nodes as they are made
  pub record Made (m : Memory) (n : ℕ) : Type 0 where
    pub next : m (next_at g n) ≡ 0
    pub locate : m (locate_at g n) ≡ 0
    pub set : m (set_at g n) ≡ 0
    pub level_is : m (level_at g n) ≡ level
    pub size_is : m (size_at g n) ≡ size

  pub made : {o : Bool} {im : List ℕ} {n : ℕ} (ns : List ℕ) → Header g o im → Memᴰ n ns → n < g.nodes → Made (reads (apply im (stores (new_nodes ns)))) n
  made {im} {n} ns b x l = record {
    next = word (next_at g n) 0 (Memᴰ.head refl);
    locate = word (locate_at g n) 0 (Memᴰ.tail (Memᴰ.head refl));
    set = word (set_at g n) 0 (Memᴰ.tail (Memᴰ.tail (Memᴰ.head refl)));
    level_is = word (level_at g n) level (Memᴰ.tail (Memᴰ.tail (Memᴰ.tail (Memᴰ.head refl))));
    size_is = word (size_at g n) size (Memᴰ.tail (Memᴰ.tail (Memᴰ.tail (Memᴰ.tail (Memᴰ.head refl)))));
  }
    where
      word : (i v : ℕ) → Memᴰ {A = Store} (i, v) (new_node g n level size) → reads (apply im (stores (new_nodes ns))) i ≡ v
      word i v y =
          let o = word_of y in
          settles im (new_nodes ns) i v (omega (arith, o.index, node_inside n o.number b l (omega (arith, o.low))))
          (λ u z. one_value o (word_of (within (λ n. new_node g n level size) ns z).inside))
          (inr (together (λ n. new_node g n level size) x y))

  -- a torn image shows and holds the same, if nothing reaches the nodes
  module _ {o : Bool} {im im' : List ℕ} {rs : List Reel} (ns : List ℕ) (v : View g o im rs) (free : (n : ℕ) → Memᴰ n ns → Reached g (reads im) n → ⊥)
      (fits : (level < 2 ^ 64) × (size < 2 ^ 64)) (t : Torn im (new_nodes ns) im') where
    -- a word is as before, or one of the first five of such a node
    pub either : (i : ℕ) → (reads im i ≡ reads im' i) ⊎ ((n : ℕ) × Memᴰ n ns × (node_at g n ≤ i) × (i < node_at g n + 5))
    either i = elim (t.each i) [
      | inl q ↦ inl (sym q)
      | inr x ↦
          let y = within (λ n. new_node g n level size) ns x in
          let o = word_of y.inside in
          inr (y.from, y.member, omega (arith, o.index, o.low), omega (arith, o.index, o.low))
    ]

    pub words_torn : {s : ℕ} {w : List ℕ} {n : ℕ} → Reaches g (reads im) s w n → SameWords g (reads im) (reads im') n
    words_torn {s} {w} {n} x = record {
      words = λ i l h. elim (either i) [
        | inl q ↦ q
        | inr y ↦ let z : n ≡ y.0 = omega (arith, y.2, y.3) in absurd (free y.0 y.1 (record { slot = s; way = w; there = rw z at x }))
      ];
    }

    pub same_torn : Same g (reads im) (reads im')
    same_torn = same_words (λ j h. elim (either j) [ inl q ↦ q | inr y ↦ absurd (omega (arith, y.2)) ]) (λ s w n x. words_torn x)

    pub rule_same : rule_of (reads im) ≡ rule_of (reads im')
    rule_same = same_rule (reads im) (reads im') (λ i l. elim (either i) [ inl q ↦ q | inr y ↦ absurd (omega (arith, y.2)) ])

    value_fits : (k : ℕ) → k < 5 → get_or (0 ∷ 0 ∷ 0 ∷ level ∷ size ∷ []) k 0 < 2 ^ 64
    value_fits zero h = omega arith
    value_fits (suc zero) h = omega arith
    value_fits (suc (suc zero)) h = omega arith
    value_fits (suc (suc (suc zero))) h = fits.0
    value_fits (suc (suc (suc (suc zero)))) h = fits.1
    value_fits (suc (suc (suc (suc (suc k))))) h = absurd (omega arith)

    pub still_torn : Still g o rs im im'
    still_torn = record {
      view = view_torn v t (λ i u x.
          let y = within (λ n. new_node g n level size) ns x in
          let o = word_of y.inside in (
            of_node y.from (omega (arith, o.index, o.low)) (omega (arith, o.index, o.low)) (free y.from y.member),
            rw o.value (value_fits o.number o.low),
          ));
      within = within_same same_torn;
    }
