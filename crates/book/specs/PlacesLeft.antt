-- Places left (the paper's word): what Claim tells of the node in which it takes its place. Statements alone, over any state.
use Rattle.std.specs.Prelude.{◌≡◌, true, ◌≢◌, ℕ, ◌+◌, ◌*◌, length}
use Rattle.std.specs.Int.Count.{ones}
use Rattle.tree.specs.Memory.{is_set, Fit}
use Rattle.tree.specs.Layout.{locate_at, size_at}
use Rattle.tree.specs.Room.{clear_places}
use Rattle.book.specs.declared.Target.{Target}
use Rattle.book.specs.declared.HeadState.TheVariants.{Claimed}
use Rattle.book.specs.Heads.{head_count, head_at}
use Rattle.book.specs.State.{State, Operation, claim, memory, shape}
use Rattle.book.specs.Perform.{perform}
use Rattle.book.specs.Histories.{done}

-- what an answered claim of head h tells, by the head's record and by the image once the script is carried out, whatever room it took
pub record LeftAfter (op : Operation) (s : State) (h : ℕ) : Type 0 where
  -- the record names the place that was taken, and its node
  pub target : Target
  pub claimed : head_at (done op s).heads h ≡ Claimed target
  -- the locate word and the size of that node
  pub locate : ℕ
  pub locate_is : memory (done op s) (locate_at (shape s) target.node) ≡ locate
  pub size : ℕ
  pub size_is : memory (done op s) (size_at (shape s) target.node) ≡ size
  -- the place is among the ones
  pub taken : is_set locate target.place ≡ true
  -- size minus the ones of the locate word
  pub by_ones : (perform op s).places_left_lem + ones locate ≡ size
  -- that is how many places of the node are clear
  pub clear : length (clear_places locate size) ≡ (perform op s).places_left_lem

pub data IsClaim : Operation → Type 0 where
  is_claim : {words script h reel f : ℕ} → IsClaim (claim words script h reel f)

pub record PlacesLeft : Type 0 where
  -- an answered claim; the image's words are of 64 bits, and the driver's heads are as many words as their records have
  pub answered : (words script h reel f : ℕ) (s : State) → Fit s.image → length s.heads ≡ 5 * head_count
      → (perform (claim words script h reel f) s).answer ≡ 0 → LeftAfter (claim words script h reel f) s h
  -- a refused claim carries 0, and so does every other operation
  pub refused : (op : Operation) (s : State) → (perform op s).answer ≢ 0 → (perform op s).places_left_lem ≡ 0
  pub no_claim : (op : Operation) (s : State) → (IsClaim op → ⊥) → (perform op s).places_left_lem ≡ 0
