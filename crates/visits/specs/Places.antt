-- Words of an image at the places of a bitmap.
use Rattle.std.specs.Prelude.{List, map, ℕ, ◌+◌}
use Rattle.memory.specs.Words.{reads, is_set}
use Rattle.tree.specs.Lists.{up_to, keep}

-- the set bits of a word, rising
unfoldable pub set_places : ℕ → List ℕ
set_places w = keep (is_set w) (up_to 64)

-- the words at given places, the first place at an index
unfoldable pub words_at : (image : List ℕ) (first : ℕ) (places : List ℕ) → List ℕ
words_at image first places = map (λ p. reads image (first + p)) places
