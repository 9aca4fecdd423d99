-- Reel slots: filled or empty, and which is a reel's.
use Rattle.std.specs.Prelude.{Bool, not, List, map, ℕ, ◌-◌, ◌<◌, eqb}
use Rattle.memory.specs.Words.{Memory}
use Rattle.memory.specs.Search.{first}
use Rattle.tree.specs.Test.{is, eq, ◌and◌, holds}
use Rattle.tree.specs.Lists.{up_to, keep}
use Rattle.tree.specs.declared.layout.Geometry.{Geometry}
use Rattle.tree.specs.Layout.{reel_at, root_at}

-- a slot with root 0 is empty
unfoldable pub filled : Memory → ℕ → Bool
filled m s = not (eqb (m (root_at s)) 0)

-- root has a node number plus 1
abbrev pub root_of : Memory → ℕ → ℕ
root_of m s = m (root_at s) - 1

pub record Filled (g : Geometry) (m : Memory) (s : ℕ) : Type 0 where
  pub inside : s < g.slots
  pub linked : 0 < m (root_at s)

module _ (g : Geometry) (m : Memory) where
  unfoldable pub filled_slots : List ℕ
  filled_slots = keep (filled m) (up_to g.slots)

  -- a reel present has a filled slot: the reels present, slots rising
  unfoldable pub reels_present : List ℕ
  reels_present = map (λ s. m (reel_at s)) filled_slots

  -- a reel is the lowest filled slot with its number; the number of slots where there is none
  unfoldable pub slot_of : ℕ → ℕ
  slot_of reel = first (λ s. holds (is (filled m s) and eq (m (reel_at s)) reel)) g.slots

  -- the lowest empty slot; the number of slots where there is none
  unfoldable pub empty_slot : ℕ
  empty_slot = first (λ s. not (filled m s)) g.slots
