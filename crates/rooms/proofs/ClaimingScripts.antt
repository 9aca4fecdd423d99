-- A claim's scripts: nodes made anew in turn, and what is written behind them.
use mathlib.Core.Path.{◌≡◌, refl, sym, ◌∙◌, ap}
use mathlib.Core.List.{List, [], ◌∷◌, ◌++◌, append_assoc, flat_map}
use Prim.Native.Nat.{ℕ, zero, suc, ◌+◌, ◌-◌, ◌*◌}
use native.Mathlib.Omega.{arith}
use native.Mathlib.Numerals.{add-one}
use lib.ListN.{length, length-append}
use borrow.Rule.Slice.PartMut.{mid_of, put_mid}
use Rattle.tree.specs.Memory.{Entry, store, barrier, Store, written, stores, segmented}
use Rattle.tree.specs.declared.layout.Geometry.{Geometry}
use Rattle.tree.specs.Lists.{range}
use Rattle.tree.proofs.Memory.{written_rest, segment_laws, length_segmented}
use Rattle.book.specs.Perform.{new_node}

module _ (g : Geometry) (level : ℕ) where
  -- k adjacent nodes made anew
  abbrev made : (start k : ℕ) → List Store
  made start k = flat_map (λ n. new_node g n level 64) (range start k)

  abbrev pub new_nodes : (start k : ℕ) → List Entry
  new_nodes start k = stores (made start k)

  five_each : (start k : ℕ) → length (made start k) ≡ 5 * k
  unfolding range flat_map
  five_each start zero = refl
  five_each start (suc k) = let e = five_each (suc start) k in omega arith

  pub nodes_words : (start k : ℕ) → 2 * length (new_nodes start k) ≡ 10 * k
  nodes_words start k = omega (arith, segment_laws.length_stores (made start k), five_each start k)

  made_suc : (start k : ℕ) → made start k ++ new_node g (start + k) level 64 ≡ made start (suc k)
  unfolding range flat_map
  made_suc start zero = let e : start + 0 ≡ start = omega arith in rw e refl
  made_suc start (suc k) = let e : start + suc k ≡ suc start + k = omega arith in rw (e, ← made_suc (suc start) k) refl

  nodes_suc : (start k : ℕ) → new_nodes start k ++ stores (new_node g (start + k) level 64) ≡ new_nodes start (suc k)
  nodes_suc start k = sym (segment_laws.stores_append (made start k) (new_node g (start + k) level 64)) ∙ ap stores (made_suc start k)

  -- none yet, and one more in the rest of the script
  pub nodes_none : (start : ℕ) (script : List ℕ) → script ≡ written (new_nodes start 0) script
  unfolding range flat_map
  nodes_none start script = sym (segment_laws.stores_written (made start 0) script)

  pub nodes_more : (start k : ℕ) (script xs ys : List ℕ) → xs ≡ written (new_nodes start k) script
      → ys ≡ written (stores (new_node g (start + k) level 64)) (mid_of (10 * k) (length xs - 10 * k) xs)
      → put_mid (10 * k) (length xs - 10 * k) xs ys ≡ written (new_nodes start (k + 1)) script
  nodes_more start k script xs ys ex ey =
      written_rest (new_nodes start k) (stores (new_node g (start + k) level 64)) (10 * k) script xs ys (nodes_words start k) ex ey
      ∙ ap (λ (es : List Entry). written es script) (rw (add-one k) (nodes_suc start k))

  -- a branch-out: the nodes, a barrier behind them, then the store that links them
  module _ (start k : ℕ) (i v : ℕ) where
    abbrev pub branched : List (List Store)
    branched = made start k ∷ ((i, v) ∷ []) ∷ []

    in_two : (new_nodes start k ++ (barrier ∷ [])) ++ (store i v ∷ barrier ∷ []) ≡ segmented branched
    in_two =
        append_assoc (new_nodes start k) (barrier ∷ []) (store i v ∷ barrier ∷ [])
        ∙ ap (λ (es : List Entry). new_nodes start k ++ barrier ∷ es) (sym (segment_laws.fenced_one (i, v)))
        ∙ sym (segment_laws.first_segment (made start k) (((i, v) ∷ []) ∷ []))

    pub branched_words : 2 * length (segmented branched) ≡ 10 * k + 6
    branched_words = rw (← in_two) (simp length-append (omega (arith, nodes_words start k)))

    pub branched_written : (script xs ys zs : List ℕ) → xs ≡ written (new_nodes start k) script
        → ys ≡ written (barrier ∷ []) (mid_of (10 * k) (length xs - 10 * k) xs)
        → let both = put_mid (10 * k) (length xs - 10 * k) xs ys in
        zs ≡ written (store i v ∷ barrier ∷ []) (mid_of (10 * k + 2) (length both - (10 * k + 2)) both)
        → put_mid (10 * k + 2) (length both - (10 * k + 2)) both zs ≡ written (segmented branched) script
    branched_written script xs ys zs ex ey ez =
        let fenced = new_nodes start k ++ (barrier ∷ []) in
        let long : 2 * length fenced ≡ 10 * k + 2 = simp length-append (omega (arith, nodes_words start k)) in
        let both = put_mid (10 * k) (length xs - 10 * k) xs ys in
        written_rest fenced (store i v ∷ barrier ∷ []) (10 * k + 2) script both zs long
        (written_rest (new_nodes start k) (barrier ∷ []) (10 * k) script xs ys (nodes_words start k) ex ey) ez
        ∙ ap (λ (es : List Entry). written es script) in_two

-- room made in n words, and behind it the locate store
module _ (room : List (List Store)) (i v n : ℕ) (long : 2 * length (segmented room) ≡ n) where
  abbrev located : List (List Store)
  located = room ++ (((i, v) ∷ []) ∷ [])

  pub located_words : 2 * length (segmented located) ≡ n + 4
  located_words =
      rw (← segment_laws.segmented_append room (((i, v) ∷ []) ∷ []))
      (simp length-append (omega (arith, long, length_segmented (((i, v) ∷ []) ∷ []))))

  -- the rest of the script is lent on
  pub located_written : (script xs ys : List ℕ) → xs ≡ written (segmented room) script
      → ys ≡ written (segmented (((i, v) ∷ []) ∷ [])) (mid_of n (length xs - n) xs)
      → put_mid n (length xs - n) xs ys ≡ written (segmented located) script
  located_written script xs ys ex ey =
      written_rest (segmented room) (segmented (((i, v) ∷ []) ∷ [])) n script xs ys long ex ey
      ∙ ap (λ (es : List Entry). written es script) (segment_laws.segmented_append room (((i, v) ∷ []) ∷ []))
