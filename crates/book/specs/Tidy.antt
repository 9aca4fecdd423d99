-- Giving back empty groups (the paper's words): what Tidy promises in every history, besides the demands. Statements alone. Which
-- group it takes and what it stores is in Stores.antt, what it leaves of the nodes reached in Growth.antt.
use Rattle.std.specs.Prelude.{◌≡◌, ◌↔◌, List, [], ◌∷◌, ℕ}
use Rattle.tree.specs.Memory.{reads, Module, Fit}
use Rattle.tree.specs.Path.{fanout}
use Rattle.tree.specs.Layout.{geometry_of}
use Rattle.tree.specs.Reach.{Holds}
use Rattle.book.specs.State.{State, claim, tidy, memory, shape}
use Rattle.book.specs.Perform.{perform}
use Rattle.book.specs.Table.{Table, all_idle}
use Rattle.book.specs.Agrees.{Shows, Agrees}
use Rattle.book.specs.Ways.{SlotHas, FullPath, UnreachedRun}
use Rattle.book.specs.Histories.{done, replied, Interrupted, Attempts, Recovered, Follows}

-- every frame of every reel is held where it was, and no other is held
pub record SameHeld (im im' : List ℕ) : Type 0 where
  pub frames : {slot n p f : ℕ} {w : List ℕ}
      → Holds (geometry_of (reads im')) (reads im') slot w n p f ↔ Holds (geometry_of (reads im)) (reads im) slot w n p f

-- a claim that is refused 8 in s, made again in s'
pub record MadeAgain (words script h reel f : ℕ) (s s' : State) : Type 0 where
  -- the path was full to its end at a level: so it needed that level's fanout
  pub slot : ℕ
  pub of_reel : SlotHas (shape s) (memory s) reel slot
  pub level : ℕ
  pub full : FullPath (shape s) (memory s) slot f level
  -- it is answered if there is a run of that length then, and refused 8 again if there is none
  pub run : (a : ℕ) → UnreachedRun (shape s') (memory s') (fanout level) a → (perform (claim words script h reel f) s').answer ≡ 0
  pub no_run_lem : ((a : ℕ) → UnreachedRun (shape s') (memory s') (fanout level) a → ⊥)
      → (perform (claim words script h reel f) s').answer ≡ 8

-- a claim refused 8 just before Tidy, made again just after it
abbrev pub TidyMakesRoom : (s s' : State) → Type 0
TidyMakesRoom s s' = (words script h reel f : ℕ) → Fit (h ∷ reel ∷ f ∷ []) → (perform (claim words script h reel f) s).answer ≡ 8
    → MadeAgain words script h reel f s s'

-- a Tidy in a history that has come to a state and a table
pub record Tidies (on : Module) (words scratch script reel : ℕ) (s : State) (t : Table) : Type 0 where
  -- the table is the same after it, answered or refused, and the book agrees with it, its map marking exactly the nodes reached
  pub table : (replied (tidy words scratch script reel) s t).work.after ≡ t
  pub agrees : Agrees (done (tidy words scratch script reel) s) t
  -- the frames are the same, and where they were
  pub held : SameHeld s.image (done (tidy words scratch script reel) s).image
  -- so also on whatever image power lost in it leaves, before any recovery, and after any that were refused or interrupted
  pub cut : (k : ℕ) (m m' : List ℕ) → Interrupted on (tidy words scratch script reel) s k m → Attempts on m m'
      → SameHeld s.image m' × Shows m' t
  -- and once a recovery has ended, with a map that marks exactly the nodes reached then
  pub recovered : (k : ℕ) (m : List ℕ) (s' : State) → Interrupted on (tidy words scratch script reel) s k m → Recovered on m s'
      → SameHeld s.image s'.image × Agrees s' (all_idle t)
  pub room : (perform (tidy words scratch script reel) s).answer ≡ 0 → TidyMakesRoom s (done (tidy words scratch script reel) s)

abbrev pub Tidying : Module → Type 0
Tidying on = (s : State) (t : Table) → Follows on s t → (words scratch script reel : ℕ) → Fit (reel ∷ [])
    → Tidies on words scratch script reel s t
