-- Layout of the image: the index of each word that has a meaning.
use Rattle.std.specs.Prelude.{◌≡◌, List, ℕ, ◌+◌, ◌*◌, ◌/◌, ◌≤◌, length}
use Rattle.memory.specs.Words.{Memory}
use Rattle.tree.specs.Test.{Test, lt, le, ne, ◌and◌, ◌or◌}
use Rattle.tree.specs.declared.layout.Geometry.{Geometry}

-- R is 1 to 4,096, N is 1 to 65,536
unfoldable pub in_range : Geometry → Test
in_range g = le 1 g.slots and le g.slots 4096 and le 1 g.nodes and le g.nodes 65536

abbrev pub image_words : Geometry → ℕ
image_words g = 64 + 2 * g.slots + 80 * g.nodes

-- refusal 1: the image's length, R or N is wrong
unfoldable pub bad_image : ℕ → Geometry → Test
bad_image words g = (lt g.slots 1 or lt 4096 g.slots or lt g.nodes 1 or lt 65536 g.nodes) or ne words (image_words g)

-- what refusal 1 leaves: an image of its geometry's length, R and N not above their limits
pub record Sized (image : List ℕ) (g : Geometry) : Type 0 where
  pub words : length image ≡ image_words g
  pub slots_limit : g.slots ≤ 4096
  pub nodes_limit : g.nodes ≤ 65536

-- the pool map's length; bit n of the map is `marked map n` of the layer below
abbrev pub map_words : Geometry → ℕ
map_words g = (g.nodes + 63) / 64

-- the header: word 0 is the edition, word 1 is R, word 2 is N
abbrev pub edition_at : ℕ
edition_at = 0

abbrev pub slots_at : ℕ
slots_at = 1

abbrev pub nodes_at : ℕ
nodes_at = 2

-- in edition 2 word 3 is 1 where the image has a table of its own, and 0 where it has none
abbrev pub own_at : ℕ
own_at = 3

-- the first of the words that have that table, 8 to 39
abbrev pub table_at : ℕ
table_at = 8

-- refusal 2: the edition is neither 1 nor 2
abbrev pub bad_edition : Memory → Test
bad_edition m = ne (m edition_at) 1 and ne (m edition_at) 2

unfoldable pub geometry_of : Memory → Geometry
geometry_of m = record { slots = m slots_at; nodes = m nodes_at }

-- a slot's two words: reel number, root
abbrev pub reel_at : ℕ → ℕ
reel_at s = 64 + 2 * s

abbrev pub root_at : ℕ → ℕ
root_at s = 64 + 2 * s + 1

-- the first of a node's 80 words, and those that have a meaning
abbrev pub node_at : Geometry → ℕ → ℕ
node_at g n = 64 + 2 * g.slots + 80 * n

abbrev pub next_at : Geometry → ℕ → ℕ
next_at g n = node_at g n

abbrev pub locate_at : Geometry → ℕ → ℕ
locate_at g n = node_at g n + 1

abbrev pub set_at : Geometry → ℕ → ℕ
set_at g n = node_at g n + 2

abbrev pub level_at : Geometry → ℕ → ℕ
level_at g n = node_at g n + 3

abbrev pub size_at : Geometry → ℕ → ℕ
size_at g n = node_at g n + 4

-- the word that has the fingerprint of place p, in byte p mod 8
abbrev pub fingerprints_at : Geometry → ℕ → ℕ → ℕ
fingerprints_at g n p = node_at g n + 8 + p / 8

abbrev pub frame_at : Geometry → ℕ → ℕ → ℕ
frame_at g n p = node_at g n + 16 + p
