-- The nodes of a path: each is well formed, and there is one.
use mathlib.Core.Path.{◌≡◌, refl, sym, subst}
use mathlib.Core.Bool.{false, not}
use mathlib.Core.Logic.{inl, inr}
use mathlib.Core.Option.{none, some}
use mathlib.Core.List.Memᴰ
use mathlib.Core.List.{List, [], ◌∷◌}
use mathlib.Core.List.{Memᴰ}
use Prim.Native.Nat.{ℕ, zero, suc, ◌-◌, ◌≤◌, ◌<◌}
use native.Mathlib.Omega.{arith}
use lib.ListN.{length}
use lib.Dec.{eqb, ltb}
use borrow.Author.Tests.{ltb-true}
use Rattle.memory.specs.Words.{Memory}
use Rattle.memory.specs.Apply.{is_some}
use Rattle.tree.specs.declared.layout.Geometry.{Geometry}
use Rattle.tree.specs.Layout.{next_at, size_at}
use Rattle.tree.specs.Path.{levels, child}
use Rattle.tree.specs.Node.{child_of, well_formed}
use Rattle.tree.specs.declared.path.Spot.{Spot}
use Rattle.tree.specs.declared.path.Room.{Room}
use Rattle.tree.specs.declared.path.Room.TheVariants.{Clear, ScaleUp, BranchOut}
use Rattle.tree.specs.Lookup.{first_spot, path, path_from, clear_at, clear_spot}
use Rattle.tree.specs.Room.{last_of, full_room, room_on}
use Rattle.tree.specs.Laws.{WellFormed}
use Rattle.tree.proofs.Cases.{test, seen, nothing, just, some_inj, none_some, true_not_false}
use Rattle.tree.proofs.Nodes.{well_formed_facts}
use Rattle.tree.proofs.Spots.{spot_laws}

module _ (g : Geometry) (m : Memory) where
  pub record Formed (n : ℕ) : Type 0 where
    pub depth : ℕ
    pub is : WellFormed g m depth n

  -- one node or more, each well formed, and no more than there are levels left
  pub record PathNodes (left : ℕ) (ns : List ℕ) : Type 0 where
    pub each : (n : ℕ) → Memᴰ n ns → Formed n
    pub some_node : 0 < length ns
    pub few : length ns ≤ left

  with_first : (left n : ℕ) (ns : List ℕ) → Formed n → ((x : ℕ) → Memᴰ x ns → Formed x) → length ns ≤ left → PathNodes (suc left) (n ∷ ns)
  with_first left n ns a e l = record {
    each = λ x y. elim (Memᴰ.cases_cons y) [ inl q ↦ subst Formed (sym q) a | inr z ↦ e x z ];
    some_node = omega arith;
    few = omega arith;
  }

  path_nodes : (left d n f : ℕ) (ns : List ℕ) → path g m left d n f ≡ some ns → PathNodes left ns
  unfolding path
  path_nodes zero d n f ns h = none_some h
  path_nodes (suc left) d n f ns h = elim (test (well_formed g m d n)) [
    | inr w ↦ none_some (rw w at h)
    | inl w ↦ let a : Formed n = record { depth = d; is = (well_formed_facts g m d n).0 w } in elim (test (eqb (m (next_at g n)) 0)) [
      | inl z ↦ rw (← some_inj (rw (w, z) at h)) (with_first left n [] a (λ x y. absurd (Memᴰ.not-nil y)) (omega arith))
      | inr z ↦ elim (seen (path g m left (suc d) (child_of g m n (child d f)) f)) [
        | nothing q ↦ none_some (rw (w, z, q) at h)
        | just ms q ↦
            let p = path_nodes left (suc d) (child_of g m n (child d f)) f ms q in
            rw (← some_inj (rw (w, z, q) at h)) (with_first left n ms a p.each p.few)
      ]
    ]
  ]

  pub path_from_nodes : (s f : ℕ) (ns : List ℕ) → path_from g m s f ≡ some ns → PathNodes levels ns
  unfolding path_from
  path_from_nodes s f ns h = path_nodes levels 0 _ f ns h

  last_member : (ns : List ℕ) → 0 < length ns → Memᴰ (last_of ns) ns
  unfolding last_of
  last_member [] h = absurd (omega arith)
  last_member (n ∷ []) h = Memᴰ.head refl
  last_member (n ∷ n' ∷ ns) h = Memᴰ.tail (last_member (n' ∷ ns) (omega arith))

  module _ {left : ℕ} {ns : List ℕ} (p : PathNodes left ns) where
    pub last_formed : Formed (last_of ns)
    last_formed = p.each (last_of ns) (last_member ns p.some_node)

    module _ (search bound : ℕ → ℕ) where
      -- where a search of the nodes ends, and where it ends in none: at the last node too
      pub found_formed : (t : Spot) → first_spot search bound ns ≡ some t → Formed t.node × (t.place < bound t.node)
      found_formed t h =
          let a = ((spot_laws search bound ns).found t.node t.place).0 h in
          (p.each t.node (rw a.split (Memᴰ.append_right a.above (Memᴰ.head refl))), a.within)

      pub last_nowhere : first_spot search bound ns ≡ none → bound (last_of ns) ≤ search (last_of ns)
      last_nowhere h = (spot_laws search bound ns).nowhere.0 h (last_of ns) (last_member ns p.some_node)

  -- what holds of every kind of room whose nodes are well formed holds of the room on a path
  module _ (P : Room → Type 0) (clear : (t : Spot) → Formed t.node → t.place < m (size_at g t.node) → P (Clear t))
      (scale : (n : ℕ) → Formed n → m (size_at g n) < 64 → P (ScaleUp n (m (size_at g n))))
      (branch : (n d : ℕ) → Formed n → d < levels → P (BranchOut n d)) where
    room_on_lem : (ns : List ℕ) → PathNodes levels ns → P (room_on g m (some ns))
    unfolding room_on full_room clear_spot
    room_on_lem ns p = elim (seen (clear_spot g m ns)) [
      | just t q ↦ let a = found_formed p (clear_at g m) (λ n. m (size_at g n)) t q in rw q (clear t a.0 a.1)
      | nothing q ↦ elim (test (ltb (m (size_at g (last_of ns))) 64)) [
        | inl e ↦ rw (q, e) (scale (last_of ns) (last_formed p) (ltb-true _ _ e))
        | inr e ↦ rw (q, e) (branch (last_of ns) (length ns - 1) (last_formed p) (omega (arith, p.few, p.some_node)))
      ]
    ]

    pub room_by : (s f : ℕ) → not (is_some (path_from g m s f)) ≡ false → P (room_on g m (path_from g m s f))
    room_by s f h = elim (seen (path_from g m s f)) [
      | nothing q ↦ absurd (true_not_false refl (rw q at h))
      | just ns q ↦ rw q (room_on_lem ns (path_from_nodes s f ns q))
    ]
