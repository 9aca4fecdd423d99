-- Tests of a frame's path, on any image, each with what it means by ways.
use mathlib.Core.Path.{◌≡◌, refl, sym, ◌∙◌, ap, subst}
use mathlib.Core.Bool.{true}
use mathlib.Core.Logic.{inl, inr, ◌↔◌}
use mathlib.Core.Option.{some}
use mathlib.Core.List.{List}
use Prim.Native.Nat.{ℕ, ◌≤◌, ◌<◌}
use native.Mathlib.Omega.{arith}
use native.Mathlib.Decide.{ℕ_discrete}
use borrow.Author.Tests.{eqb-true}
use Rattle.tree.specs.Memory.{reads, is_some}
use Rattle.tree.specs.Test.{is, ◌or◌, holds}
use Rattle.tree.specs.Path.{fanout}
use Rattle.tree.specs.Fingerprint.{rule_of}
use Rattle.tree.specs.Slots.{Filled}
use Rattle.tree.specs.Lookup.{path_from, lookup, find, free_run}
use Rattle.tree.specs.declared.path.Room.{Room}
use Rattle.tree.specs.declared.path.Room.TheVariants.{Clear, ScaleUp, BranchOut}
use Rattle.tree.specs.Room.{room_on, needs, at_level31}
use Rattle.tree.proofs.Cases.{true_not_false, seen, nothing, just, none_some}
use Rattle.tree.proofs.Lookup.{of_index, match_facts, find_holds}
use Rattle.tree.proofs.Laws.{child_laws, reach_laws, path_laws, lookup_says}
use Rattle.book.specs.State.{State, memory, shape}
use Rattle.book.specs.Checks.{no_path, no_run_for, in_conflict}
use Rattle.book.specs.Ways.{FullPath, Uses}
use Rattle.book.specs.Due.{BadPath, NoRoom, Finds, LowestFree, Conflict, NoChildren}
use Rattle.book.proofs.Refusals.{decided}
use Rattle.book.proofs.Rooms.{RoomIs, room_is, room_branches}
use Rattle.book.proofs.Conflicts.{conflict_by}
use Rattle.book.proofs.DueWords.{word_target, named, busy_of_names, run_says, lowest_free}

module _ (s : State) {slot : ℕ} (f : ℕ) (open_slot : Filled (shape s) (memory s) slot) where
  -- 4 on a path
  pub path_test : (holds (no_path (path_from (shape s) (memory s) slot f)) ≡ true) ↔ BadPath s f slot
  path_test = let l = (path_laws f open_slot).malformed in elim (seen (path_from (shape s) (memory s) slot f)) [
    | nothing q ↦ rw q (λ e. l.0 q, λ x. refl)
    | just ns q ↦ rw q (λ e. absurd (true_not_false e refl), λ x. none_some (sym (l.1 x) ∙ q))
  ]

  -- past it there is a path
  pub path_there : (BadPath s f slot → ⊥) → (ns : List ℕ) × (path_from (shape s) (memory s) slot f ≡ some ns)
  path_there well = elim (seen (path_from (shape s) (memory s) slot f)) [
    | nothing q ↦ absurd (well ((path_laws f open_slot).malformed.0 q))
    | just ns q ↦ (ns, q)
  ]

  -- 4 in Claim
  pub room_test : let ns = path_from (shape s) (memory s) slot f in
      (holds (no_path ns or is (at_level31 (room_on (shape s) (memory s) ns))) ≡ true)
      ↔ NoRoom s f slot
  room_test = let l = (path_laws f open_slot).malformed in elim (seen (path_from (shape s) (memory s) slot f)) [
    | nothing q ↦ rw q (λ e. inl (l.0 q), λ x. refl)
    | just ns q ↦ rw q (
      λ e. inr (go (room_on (shape s) (memory s) (some ns)) (room_is f ns open_slot q) e),
      λ x. elim x [ inl y ↦ none_some (sym (l.1 y) ∙ q) | inr y ↦ ap at_level31 (room_branches f ns open_slot q y) ],
    )
  ]
    where
      go : (r : Room) → RoomIs (shape s) (memory s) slot f r → at_level31 r ≡ true → FullPath (shape s) (memory s) slot f 31
      go (Clear u) c e = absurd (true_not_false e refl)
      go (ScaleUp n size) c e = absurd (true_not_false e refl)
      go (BranchOut parent d) c e = rw (eqb-true d 31 e) at c.path

  module _ (ns : List ℕ) (is-path : path_from (shape s) (memory s) slot f ≡ some ns) where
    find_is : find (rule_of (memory s)) (shape s) (memory s) slot f ≡ lookup (rule_of (memory s)) (shape s) (memory s) f ns
    unfolding find
    find_is = rw is-path

    -- 9 and 10
    pub find_test : (is_some (find (rule_of (memory s)) (shape s) (memory s) slot f) ≡ true) ↔ Finds s f slot
    find_test = (there, back)
      where
        there : is_some (find (rule_of (memory s)) (shape s) (memory s) slot f) ≡ true → Finds s f slot
        there e = elim (seen (find (rule_of (memory s)) (shape s) (memory s) slot f)) [
          | nothing q ↦ absurd (true_not_false e (ap is_some q))
          | just t q ↦
              let x = find_holds (rule_of (memory s)) (shape s) (memory s) open_slot f t.node t.place q in
              record {
                level = x.0;
                node = t.node;
                place = t.place;
                is = record { there = x.1.there; low = x.1.place; set_bit = x.1.set; of_frame = x.1.is; printed = x.2 };
              }
        ]

        back : Finds s f slot → is_some (find (rule_of (memory s)) (shape s) (memory s) slot f) ≡ true
        back x = ap is_some find_is ∙ ((lookup_says (rule_of (memory s)) (shape s) (memory s)).yes f ns).1 (record {
          node = x.node;
          place = x.place;
          member = of_index ns x.level (((path_laws f open_slot).nodes ns is-path x.level x.node).1 x.is.there);
          low = x.is.low;
          is = (match_facts (rule_of (memory s)) (shape s) (memory s) f x.node x.place).1 (x.is.set_bit, (x.is.of_frame, x.is.printed));
        })

    -- past 4, in Claim
    module _ (above : FullPath (shape s) (memory s) slot f 31 → ⊥) where
      above_31 : (d : ℕ) → FullPath (shape s) (memory s) slot f d → d < 31
      above_31 d x = elim (ℕ_discrete d 31) [
        | yes q ↦ absurd (above (rw q at x))
        | no q ↦ omega (arith, (reach_laws (shape s) (memory s)).depth x.there, child_laws.length_way d f)
      ]

      -- 13
      pub conflict_test : (holds (in_conflict (shape s) (reads s.pool) s.heads slot (room_on (shape s) (memory s) (path_from (shape s) (memory s) slot f)) f) ≡ true)
          ↔ Conflict s f slot
      conflict_test =
          let b = conflict_by s {slot = slot} {f = f} (lowest_free s) above_31 ns open_slot is-path in
          rw is-path (
            λ e.
                let k = b.0 e in
                let q = (word_target s k.0 k.1.about).1 in
                record {
                  by = busy_of_names k.1;
                  same = elim k.2 [
                    | inl p ↦ inl (ap (λ t. t.frame) (sym q) ∙ p)
                    | inr u ↦ inr (subst (Uses (LowestFree s) (shape s) (memory s) slot f) (ap (λ t. t.node) q) u)
                  ];
                },
            λ x. b.1 (x.by.head, named s x.by.head x.by.low x.by.not_idle x.by.names, x.same),
          )

      -- 8
      pub children_test : (holds (no_run_for (shape s) (reads s.pool) (room_on (shape s) (memory s) (path_from (shape s) (memory s) slot f))) ≡ true) ↔ NoChildren s f slot
      children_test =
          rw is-path (decided (no_run_for (shape s) (reads s.pool) (room_on (shape s) (memory s) (some ns)))
          (go (room_on (shape s) (memory s) (some ns)) (room_is f ns open_slot is-path), back))
        where
          go : (r : Room) → RoomIs (shape s) (memory s) slot f r → (0 < needs r) × ((shape s).nodes ≤ free_run (shape s) (reads s.pool) (needs r))
              → NoChildren s f slot
          go (Clear u) c x = absurd (omega arith)
          go (ScaleUp n size) c x = absurd (omega arith)
          go (BranchOut parent d) c x = record { level = d; full = c.path; no_run_lem = (run_says s (fanout d) x.0).0 x.1 }

          back : NoChildren s f slot
              → (0 < needs (room_on (shape s) (memory s) (some ns)))
              × ((shape s).nodes ≤ free_run (shape s) (reads s.pool) (needs (room_on (shape s) (memory s) (some ns))))
          back x =
              let l : 0 < fanout x.level = omega (arith, child_laws.below x.level f (above_31 x.level x.full)) in
              rw (room_branches f ns open_slot is-path x.full) (l, (run_says s (fanout x.level) l).1 x.no_run_lem)
