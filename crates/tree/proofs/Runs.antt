-- The lowest run of adjacent free nodes.
use mathlib.Core.Path.{◌≡◌}
use mathlib.Core.Bool.{true}
use mathlib.Core.Logic.{◌↔◌}
use Prim.Native.Nat.{ℕ, ◌+◌, ◌<◌}
use native.Mathlib.Omega.{arith}
use native.Mathlib.Decide.{dec_lt}
use Rattle.memory.specs.Words.{Memory, marked}
use Rattle.memory.specs.Search.{first}
use Rattle.tree.specs.Test.{Test, le, eq, ◌and◌}
use Rattle.tree.specs.declared.layout.Geometry.{Geometry}
use Rattle.tree.specs.Lookup.{is_free_run, free_run}
use Rattle.tree.specs.Laws.{FreeRun, RunLaws}
use Rattle.tree.proofs.Cases.{true_not_false}
use Rattle.tree.proofs.Tests.{says, said}
use Rattle.memory.proofs.Laws.{first_laws}

module _ (g : Geometry) (map : Memory) (k : ℕ) where
  free_run_lem : (n : ℕ) → (is_free_run g map k n ≡ true) ↔ FreeRun g map k n
  unfolding is_free_run
  free_run_lem n =
      let l = first_laws (λ i. marked map (n + i)) k in
      let t : Test = le (n + k) g.nodes and eq (first (λ i. marked map (n + i)) k) k in (
        λ h. let a = says t h in record { inside = a.0; free = λ i b. l.none_before i (omega (arith, a.1)) },
        λ a. said t (
          a.inside,
          elim (dec_lt (first (λ i. marked map (n + i)) k) k) [
            | yes b ↦ absurd (true_not_false (l.holds b) (a.free _ b))
            | no b ↦ omega (arith, l.within)
          ],
        ),
      )

  pub run_laws : RunLaws g map k
  unfolding free_run
  run_laws =
      let l = first_laws (is_free_run g map k) g.nodes in
      record {
        free = free_run_lem;
        found = λ h. (free_run_lem (free_run g map k)).0 (l.holds h);
        lowest = λ n h a.
            let b : n < g.nodes = omega (arith, a.inside) in
            let c = l.least n b ((free_run_lem n).1 a) in
            (c, omega arith);
      }
