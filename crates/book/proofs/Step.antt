-- What is proved of each operation that changes the book by a script: the step that demand 3 and the places of frames rest on.
use mathlib.Core.Path.{◌≡◌}
use mathlib.Core.Logic.{◌⊎◌}
use mathlib.Core.List.{List}
use Prim.Native.Nat.{ℕ}
use Rattle.tree.specs.Memory.{reads, segmented, CrashImage}
use Rattle.tree.specs.Layout.{reel_at, geometry_of}
use Rattle.tree.specs.Reach.{Holds}
use Rattle.book.specs.State.{State, Operation}
use Rattle.book.specs.Perform.{granted}
use Rattle.book.specs.Table.{Table, table_work}
use Rattle.book.specs.Agrees.{Shows, Agrees}
use Rattle.book.specs.Histories.{carried_out}
use Rattle.book.specs.Demands.{FilledBy}

-- from one image to another, with the heads' words of the first: a frame that a reel holds in both is at the same place in both, and
-- one that the second holds was held there in the first, or a head had filled that place with it
pub record Keeps (ws im im' : List ℕ) : Type 0 where
  pub same_place : {slot slot' n n' p p' f : ℕ} {w w' : List ℕ}
      → Holds (geometry_of (reads im)) (reads im) slot w n p f → Holds (geometry_of (reads im')) (reads im') slot' w' n' p' f
      → reads im (reel_at slot) ≡ reads im' (reel_at slot') → (slot ≡ slot') × (w ≡ w') × (n ≡ n') × (p ≡ p')
  pub came_from : {slot n p f : ℕ} {w : List ℕ} → Holds (geometry_of (reads im')) (reads im') slot w n p f
      → Holds (geometry_of (reads im)) (reads im) slot w n p f ⊎ FilledBy ws slot n p f

-- an answered operation leaves the table after it; whatever a crash of its script leaves shows the table before or the one
-- after, and keeps frames in their places
pub record Step (op : Operation) (s : State) (t : Table) : Type 0 where
  pub final : Agrees (carried_out (granted op s)) (table_work op t).after
  pub crash : (k : ℕ) (im' : List ℕ) → CrashImage s.image (segmented (granted op s).script) k im' → Shows im' t ⊎ Shows im' (table_work op t).after
  pub keeps : (k : ℕ) (im' : List ℕ) → CrashImage s.image (segmented (granted op s).script) k im' → Keeps s.heads s.image im'
