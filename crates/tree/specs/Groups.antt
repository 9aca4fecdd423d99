-- Empty groups: the children that Tidy gives back, and the search for them in a reel's tree.
use Rattle.std.specs.Prelude.{◌≡◌, Bool, not, ◌&&◌, ◌⊎◌, List, ℕ, ◌+◌, ◌-◌, ◌<◌, length, eqb}
use Rattle.std.proofs.Math.Option.{Option, none, some}
use Rattle.memory.specs.Words.{Memory}
use Rattle.tree.specs.Test.{eq, ◌and◌, holds}
use Rattle.tree.specs.Lists.{up_to, every, first_that}
use Rattle.tree.specs.declared.layout.Geometry.{Geometry}
use Rattle.tree.specs.Layout.{next_at, locate_at, set_at}
use Rattle.tree.specs.Path.{fanout}
use Rattle.tree.specs.Node.{child_of}
use Rattle.tree.specs.Reach.{Reaches}
use Rattle.tree.specs.Subtree.{Visit, Before, tree}

module _ (g : Geometry) (m : Memory) where
  -- an empty node: both bitmaps 0 and next 0
  unfoldable pub is_empty : ℕ → Bool
  is_empty n = holds (eq (m (next_at g n)) 0 and eq (m (locate_at g n)) 0 and eq (m (set_at g n)) 0)

  -- adjacent nodes are all empty
  unfoldable pub all_empty : (start count : ℕ) → Bool
  all_empty start count = every (λ c. is_empty (start + c)) (up_to count)

  -- a node at a depth has children, all of which are empty
  unfoldable pub has_empty_group : (depth node : ℕ) → Bool
  has_empty_group d n = not (eqb (m (next_at g n)) 0) && all_empty (m (next_at g n) - 1) (fanout d)

  -- the first such node of a slot's tree, in the order of List
  unfoldable pub first_group : (slot : ℕ) → Option Visit
  first_group s = first_that (λ v. has_empty_group (length v.way) v.node) (tree g m s)

  -- ---- the same by words and ways

  -- an empty node, word by word
  pub record Empty (n : ℕ) : Type 0 where
    pub childless : m (next_at g n) ≡ 0
    pub unlocated : m (locate_at g n) ≡ 0
    pub unset : m (set_at g n) ≡ 0

  -- a node that the slot reaches has children, all of which are empty. At level 31 there are no children: next is 0 there, or the
  -- node is malformed
  pub record EmptyGroup (s : ℕ) (w : List ℕ) (n : ℕ) : Type 0 where
    pub there : Reaches g m s w n
    pub linked : 0 < m (next_at g n)
    pub empty : (c : ℕ) → c < fanout (length w) → Empty (child_of g m n c)

  -- no node that the slot reaches has one
  abbrev pub NoGroup : (slot : ℕ) → Type 0
  NoGroup s = (w : List ℕ) (n : ℕ) → EmptyGroup s w n → ⊥

  -- the first of its slot's, in the order of List
  pub record FirstGroup (s : ℕ) (w : List ℕ) (n : ℕ) : Type 0 where
    pub is : EmptyGroup s w n
    pub first : (w' : List ℕ) (n' : ℕ) → EmptyGroup s w' n' → (w' ≡ w) ⊎ Before w w'

-- the way of a node that a search has found
abbrev pub found_way : Option Visit → Option (List ℕ)
found_way none = none
found_way (some v) = some v.way
