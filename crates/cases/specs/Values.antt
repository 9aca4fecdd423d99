-- The values of a line: which words are read, and as what.
use Rattle.std.specs.Prelude.{List, [], ◌∷◌, ℕ, ◌-◌, ◌^◌, ltb, cond, Option, Some, None, option_and_then, option_map, codes, bytes_eq, find}
use Rattle.std.specs.Option.{option_or}
use Rattle.lines.specs.Reading.{field}
use Rattle.cases.specs.Buffers.{names, number_of, word_of}

-- a number, where no bytes are behind it
abbrev pub alone : ℕ → List ℕ → Option ℕ
alone n [] = Some n
alone n (b ∷ bs) = None

-- the number behind a text, which the word begins with, up to the word's end
unfoldable pub number_behind : List ℕ → List ℕ → Option ℕ
number_behind text word = option_and_then (λ p. alone p.0 p.1) (field text word)

-- a decimal number below 2^64, without a sign or leading zeros
abbrev pub number : List ℕ → Option ℕ
number word = number_behind [] word

-- a power of 2 below 2^64
abbrev pub power : List ℕ → Option ℕ
power word = option_and_then (λ e. cond (ltb e 64) (Some (2 ^ e)) None) (number_behind (codes "2^") word)

-- the number of the buffer that a word names, or the word whose bits are all 1
unfoldable pub named : List ℕ → Option ℕ
named word = cond (bytes_eq word (codes "ones")) (Some (2 ^ 64 - 1)) (option_map number_of (find (λ name. bytes_eq word (word_of name)) names))

-- the first of these that a word can be read as
abbrev pub value_of : List ℕ → Option ℕ
value_of word = option_or (number word) (option_or (power word) (named word))
