-- The second image while it is written, word after word.
use Rattle.std.specs.Prelude.{◌≡◌, true, List, ℕ, ◌≤◌, ◌<◌, length}
use Rattle.memory.specs.Words.{Memory, reads}
use Rattle.tree.specs.declared.layout.Geometry.{Geometry}
use Rattle.tree.specs.Layout.{set_at}
use Rattle.tree.specs.Convert.{is_reached, converted}
use Rattle.fingerprints.specs.Filled.{FilledTo}

-- a copy, as long as the image, whose first i words are those of the image as one of an edition
abbrev pub WrittenTo : (edition : ℕ) → Geometry → (image copy : List ℕ) → (i : ℕ) → Type 0
WrittenTo e g image copy i = FilledTo (converted e g (reads image)) (length image) copy i

-- a function that is 0 from a number up to another
pub record Zeros (f : ℕ → ℕ) (from to : ℕ) : Type 0 where
  pub zero : (i : ℕ) → from ≤ i → i < to → 0 ≡ f i

-- a node that is reached, and its set word
pub record ReachedWith (g : Geometry) (m : Memory) (n set : ℕ) : Type 0 where
  pub inside : n < g.nodes
  pub reached : is_reached g m n ≡ true
  pub set_word : set ≡ m (set_at g n)
