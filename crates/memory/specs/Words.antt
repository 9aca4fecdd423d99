-- Words of persistent memory, their bits and their bytes. A word is 64 bits; bit 0 is the lowest.
use Rattle.std.specs.Prelude.{◌≡◌, Bool, cond, List, ℕ, ◌+◌, ◌-◌, ◌*◌, ◌/◌, ◌%◌, ◌^◌, ◌<◌, get_or, eqb}

-- memory as it is read: a word for each index
abbrev pub Memory : Type 0
Memory = ℕ → ℕ

-- a slice of words as memory: 0 past its end
abbrev pub reads : List ℕ → Memory
reads ws i = get_or ws i 0

-- the field of a word that starts at bit `at` and is `width` bits wide
unfoldable pub field : ℕ → ℕ → ℕ → ℕ
field w at width = w / 2 ^ at % 2 ^ width

-- the word with b in that field and its other bits kept
unfoldable pub with_field : ℕ → ℕ → ℕ → ℕ → ℕ
with_field w at width b = w - field w at width * 2 ^ at + b * 2 ^ at

-- bit k of a word, as a number and as a test
unfoldable pub bit : ℕ → ℕ → ℕ
bit w k = field w k 1

unfoldable pub is_set : ℕ → ℕ → Bool
is_set w k = eqb (bit w k) 1

-- the word with bit k, and without it
unfoldable pub with_bit : ℕ → ℕ → ℕ
with_bit w k = with_field w k 1 1

unfoldable pub without_bit : ℕ → ℕ → ℕ
without_bit w k = with_field w k 1 0

-- byte j of a word, lowest first
unfoldable pub byte : ℕ → ℕ → ℕ
byte w j = field w (8 * j) 8

-- the word with b for byte j and its seven other bytes kept
unfoldable pub with_byte : ℕ → ℕ → ℕ → ℕ
with_byte w j b = with_field w (8 * j) 8 b

-- which bytes of a word are b: byte j of r is 128 where byte j of w is b, and 0 where it is not
pub record EqualBytes (w b r : ℕ) : Type 0 where
  pub each : (j : ℕ) → j < 8 → byte r j ≡ cond (eqb (byte w j) b) 128 0

-- bit k of a bitmap in words: bit k mod 64 of word k div 64
unfoldable pub marked : Memory → ℕ → Bool
marked m k = is_set (m (k / 64)) (k % 64)
