-- What an image shows, by membership: the form in which it is carried through the changes of one word.
use mathlib.Core.Path.{◌≡◌}
use mathlib.Core.Bool.{Bool, false}
use mathlib.Core.Logic.{◌↔◌}
use mathlib.Core.List.{List, Memᴰ}
use Prim.Native.Nat.{ℕ}
use lib.ListN.{length}
use Rattle.tree.specs.Memory.{Memory, reads, Fit}
use Rattle.tree.specs.Test.{Says, holds}
use Rattle.tree.specs.Lists.{Distinct}
use Rattle.tree.specs.declared.layout.Geometry.{Geometry}
use Rattle.tree.specs.Layout.{in_range, image_words, edition_at, geometry_of, reel_at}
use Rattle.tree.specs.Fingerprint.{has_own, rule_of, bad_own}
use Rattle.tree.specs.Slots.{Filled}
use Rattle.tree.specs.Reach.{FrameOf}
use Rattle.tree.specs.Sound.{Sound}
use Rattle.book.specs.Table.{Reel}
use Rattle.book.specs.Agrees.{IsEdition}
use Rattle.book.specs.Ways.{SlotHas}

-- an image of geometry g, with its own table or without: its words fit, its header is right
pub record Header (g : Geometry) (o : Bool) (image : List ℕ) : Type 0 where
  pub fits : Fit image
  pub edition : IsEdition (reads image edition_at)
  pub geometry : geometry_of (reads image) ≡ g
  pub in_range_lem : Says (in_range g)
  pub words : length image ≡ image_words g
  pub own : has_own (reads image) ≡ o
  pub good_table : holds (bad_own (reads image)) ≡ false

-- a table's reels, and each reel's frames, are listed once
pub record OnceListed (rs : List Reel) : Type 0 where
  pub numbers : Distinct (λ r. r.number) rs
  pub frames : (r : Reel) → Memᴰ r rs → Distinct (λ f. f) r.frames

-- the reels present are the table's, and the frames of each are its frames
pub record SameReels (g : Geometry) (m : Memory) (rs : List Reel) : Type 0 where
  pub present : (reel : ℕ) → ((s : ℕ) × SlotHas g m reel s) ↔ ((r : Reel) × Memᴰ r rs × (r.number ≡ reel))
  pub frames : {s : ℕ} {r : Reel} → Filled g m s → Memᴰ r rs → m (reel_at s) ≡ r.number
      → (f : ℕ) → FrameOf g m s f ↔ Memᴰ f r.frames

pub record View (g : Geometry) (o : Bool) (image : List ℕ) (rs : List Reel) : Type 0 where
  pub header : Header g o image
  pub sound : Sound (rule_of (reads image)) g (reads image)
  pub once : OnceListed rs
  pub same : SameReels g (reads image) rs
