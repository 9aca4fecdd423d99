-- What a claim finds at the end of a frame's path, in the terms of the code that walks it.
use mathlib.Core.Path.{◌≡◌, refl, ◌∙◌, ap}
use mathlib.Core.Bool.{true}
use mathlib.Core.Logic.{inl, inr}
use mathlib.Core.Option.{Option, none, some}
use mathlib.Core.List.{List}
use Prim.Native.Nat.{ℕ, ◌-◌, ◌≤◌, ◌<◌}
use native.Mathlib.Omega.{arith}
use borrow.Author.Tests.{lt-ltb, le-ltb}
use lib.ListN.{length}
use lib.Dec.{ltb}
use Rattle.memory.specs.Words.{Memory}
use Rattle.tree.specs.declared.layout.Geometry.{Geometry}
use Rattle.tree.specs.Layout.{size_at}
use Rattle.tree.specs.Path.{levels}
use Rattle.tree.specs.declared.path.Spot.{Spot}
use Rattle.tree.specs.declared.path.Room.TheVariants.{Clear, ScaleUp, BranchOut}
use Rattle.tree.specs.Lookup.{path_from, clear_at, clear_spot}
use Rattle.tree.specs.Room.{last_of, full_room, room_for, room_on, places_left}
use Rattle.tree.proofs.Cases.{test, seen, nothing, just}
use Rattle.tree.proofs.Nodes.{some_size}
use Rattle.tree.proofs.Laws.{left_laws}
use Rattle.tree.proofs.PathNodes.{PathNodes, last_formed, last_nowhere}
use Rattle.std.specs.Prelude.{Option as Optional, Some, None, Result, Err}
use Rattle.paths.specs.declared.descent.Trail.{Trail}
use Rattle.paths.specs.declared.descent.Vacancy.{Vacancy}
use Rattle.paths.specs.declared.descent.NoVacancy.{NoVacancy}
use Rattle.paths.specs.declared.descent.NoVacancy.TheVariants as no_vacancy
use Rattle.paths.specs.Answers.{vacancy, placement_as, placement_on, placement_from}
use Rattle.paths.specs.Descent.{spot_of, left_of, clear_if, room_at, vacancy_in}
use Rattle.paths.proofs.Trails.{EndsAt}

-- ---- the room: a clear place, or by the last node's size

module _ (g : Geometry) (m : Memory) (d n : ℕ) where
  pub room_clear : {x : Optional Spot} {t : Spot} (left : ℕ) → x ≡ Some t → vacancy (Clear t) left ≡ vacancy_in left (room_at g m d n (spot_of x))
  unfolding room_at
  room_clear left e = rw e refl

  module _ {x : Optional Spot} {size : ℕ} (left : ℕ) (k : x ≡ None) (e : size ≡ m (size_at g n)) where
    pub room_small : size < 64 → vacancy (ScaleUp n size) (size - 1) ≡ vacancy_in left (room_at g m d n (spot_of x))
    unfolding room_at
    room_small l = rw (k, ← e, lt-ltb size 64 l) refl

    pub room_large : 64 ≤ size → vacancy (BranchOut n d) 63 ≡ vacancy_in left (room_at g m d n (spot_of x))
    unfolding room_at
    room_large l = rw (k, ← e, le-ltb size 64 l) refl

-- ---- what a claim finds

module _ (g : Geometry) (m : Memory) (s f : ℕ) where
  pub placement_malformed : path_from g m s f ≡ none → Err no_vacancy.Malformed ≡ placement_from g m s f
  unfolding placement_from
  placement_malformed e = rw e refl

  -- at the end of a path, with what the walk has found on it
  room_end : (ns : List ℕ) (o : Option Spot) → room_at g m (length ns - 1) (last_of ns) o ≡ room_for g m ns o
  unfolding room_at full_room
  room_end ns none = refl
  room_end ns (some t) = refl

  -- the places left are those of the room
  vacancy_end : (ns : List ℕ) → PathNodes g m levels ns → let r = room_on g m (some ns) in vacancy_in (left_of g m (clear_spot g m ns)) r ≡ vacancy r (places_left g m r)
  unfolding room_on full_room places_left clear_spot
  vacancy_end ns p = elim (seen (clear_spot g m ns)) [
    | just t q ↦ rw q refl
    | nothing q ↦ elim (test (ltb (m (size_at g (last_of ns))) 64)) [
      | inl e ↦
          let n = last_of ns in
          let a = (last_formed g m p).is in
          let scaled = (left_laws g m).scaled_up n a.locate (some_size a) (last_nowhere g m p (clear_at g m) (λ n. m (size_at g n)) q) in
          rw (q, e) (ap (vacancy (ScaleUp n (m (size_at g n)))) (omega (arith, scaled)))
      | inr e ↦ rw (q, e) (ap (vacancy (BranchOut (last_of ns) (length ns - 1))) (omega (arith, (left_laws g m).branched_out (last_of ns) (length ns - 1))))
    ]
  ]

  pub placement_end : {t : Trail} {r : Result Vacancy NoVacancy} {v : Vacancy} → EndsAt g m true s f t
      → v ≡ vacancy_in t.left (room_at g m t.level t.node (spot_of t.clear))
      → r ≡ placement_as v (spot_of t.found)
      → r ≡ placement_from g m s f
  unfolding placement_from placement_on room_on clear_if
  placement_end {v = v} a c q =
      let ns = a.nodes in
      let e : v ≡ vacancy_in (left_of g m (clear_spot g m ns)) (room_on g m (some ns)) = rw (c, a.level, a.last, a.clear, a.left, room_end ns (clear_spot g m ns)) refl in
      q ∙ rw (a.path, a.found, e ∙ vacancy_end ns a.on_path_lem) refl
