-- 13, on any state: the book's tests of its heads, by the heads and by ways.
use mathlib.Core.Path.{◌≡◌, sym}
use mathlib.Core.Bool.{true, not}
use mathlib.Core.Logic.{◌⊎◌, inl, inr, ◌↔◌}
use mathlib.Core.Option.{some}
use mathlib.Core.List.{List}
use Prim.Native.Nat.{ℕ, ◌<◌}
use Rattle.tree.specs.Memory.{reads}
use Rattle.tree.specs.Test.{holds}
use Rattle.tree.specs.Slots.{Filled}
use Rattle.tree.specs.Lookup.{path_from, free_run}
use Rattle.tree.specs.declared.path.Room.{Room}
use Rattle.tree.specs.Room.{room_on, needs}
use Rattle.book.specs.Heads.{head_at, names, busy, conflicts}
use Rattle.book.specs.State.{State, memory, shape}
use Rattle.book.specs.Checks.{target_in, no_run_for, in_conflict}
use Rattle.book.specs.Ways.{FullPath, Uses, HeadNames}
use Rattle.book.proofs.Heads.{names_about, any_head_lem, conflicts_about}
use Rattle.book.proofs.Uses.{FoundRun, uses}

-- some head names the slot
pub busy_by : (s : State) (slot : ℕ) → (busy s.heads slot ≡ true) ↔ ((k : ℕ) × HeadNames s k slot)
busy_by s slot = (
  λ e.
      let k = (any_head_lem (names slot) s.heads).0 e in
      let x = (names_about slot (head_at s.heads k.0)).0 k.2 in
      (k.0, record { low = k.1; target = x.0; about = x.1; of_slot = x.2 }),
  λ k.
      (any_head_lem (names slot) s.heads).1
      (k.0, k.1.low, (names_about slot (head_at s.heads k.0)).1 (k.1.target, k.1.about, k.1.of_slot)),
)

-- in Claim: one that names it, and with it the same frame or the node that the claim would use
module _ (s : State) {slot f : ℕ} {Lowest : (k start : ℕ) → Type 0}
    (lowest : (k start : ℕ) → 0 < k → Lowest k start ↔ FoundRun (shape s) (reads s.pool) k start)
    (above : (d : ℕ) → FullPath (shape s) (memory s) slot f d → d < 31)
    (ns : List ℕ) (open_slot : Filled (shape s) (memory s) slot) (is-path : path_from (shape s) (memory s) slot f ≡ some ns) where
  abbrev room : Room
  room = room_on (shape s) (memory s) (some ns)

  pub conflict_by : (holds (in_conflict (shape s) (reads s.pool) s.heads slot (room_on (shape s) (memory s) (some ns)) f) ≡ true)
      ↔ ((k : ℕ) × (x : HeadNames s k slot) × ((x.target.frame ≡ f) ⊎ Uses Lowest (shape s) (memory s) slot f x.target.node))
  conflict_by =
      let target = target_in slot room (free_run (shape s) (reads s.pool) (needs room)) f in
      let has-run = not (holds (no_run_for (shape s) (reads s.pool) room)) in
      let used = uses (reads s.pool) lowest above ns open_slot is-path in (
        λ e.
            let k = (any_head_lem (conflicts target has-run) s.heads).0 e in
            let x = (conflicts_about target has-run (head_at s.heads k.0)).0 k.2 in (
              k.0,
              record { low = k.1; target = x.0; about = x.1; of_slot = x.2 },
              elim x.3 [
                | inl q ↦ inl q
                | inr q ↦ inr ((used x.0.node).0 (record { run = q.0; node = sym q.1 }))
              ],
            ),
        λ k.
            let x = k.1 in
            (any_head_lem (conflicts target has-run) s.heads).1 (
              k.0,
              x.low,
              (conflicts_about target has-run (head_at s.heads k.0)).1 (
                x.target,
                x.about,
                x.of_slot,
                elim k.2 [
                  | inl q ↦ inl q
                  | inr u ↦ let y = (used x.target.node).1 u in inr (y.run, sym y.node)
                ],
              ),
            ),
      )
