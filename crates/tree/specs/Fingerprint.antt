-- The fingerprint of a frame: a fold of its bytes, lowest first, over a table.
use Rattle.std.specs.Prelude.{◌≡◌, Bool, cond, not, ◌⊎◌, ◌≢◌, List, map, ℕ, zero, suc, ◌+◌, ◌*◌, ◌/◌, ◌%◌, ◌<◌, eqb, ltb, length, get_or}
use Rattle.std.specs.Int.Bits.{bit_xor}
use Rattle.memory.specs.Words.{Memory, byte, with_byte}
use Rattle.tree.specs.Test.{Test, lt, eq, ne, is, ◌and◌, ◌or◌, holds}
use Rattle.tree.specs.Layout.{edition_at, own_at, table_at}
use Rattle.tree.specs.Lists.{up_to, every, has_key}

-- a rule for fingerprints: the table, and how many bytes of the frame are folded
pub record Rule : Type 0 where
  pub table : ℕ → ℕ
  pub bytes : ℕ

-- h after the k low bytes of a frame, lowest first: from 0, h becomes entry (h xor byte)
unfoldable pub folded : (ℕ → ℕ) → ℕ → ℕ → ℕ
folded table zero f = 0
folded table (suc k) f = table (bit_xor (folded table k f) (byte f k))

unfoldable pub fingerprint : Rule → ℕ → ℕ
fingerprint r f = folded r.table r.bytes f

-- the paper's table
unfoldable pub table_entry : ℕ → ℕ
table_entry i = (167 * i + 13) % 256

-- its 256 entries in turn
unfoldable pub the_table : List ℕ
the_table = map table_entry (up_to 256)

-- an edition's rule: 1 folds four bytes, 2 all eight
unfoldable pub rule_for : (edition : ℕ) → Rule
rule_for edition = record { table = table_entry; bytes = cond (eqb edition 1) 4 8 }

-- ---- a mill's own table

-- a list of entries as a table
abbrev pub entry_in : List ℕ → ℕ → ℕ
entry_in table i = get_or table i 0

-- the rule of edition 2 with an own table
unfoldable pub own_rule : List ℕ → Rule
own_rule table = record { table = entry_in table; bytes = 8 }

-- an image has its own table: it is of edition 2, and word 3 is 1
unfoldable pub has_own : Memory → Bool
has_own m = holds (eq (m edition_at) 2 and eq (m own_at) 1)

-- 256 entries in 32 words from some word on: eight to a word, lowest byte first
unfoldable pub unpacked : Memory → (from : ℕ) → List ℕ
unpacked m from = map (λ i. byte (m (from + i / 8)) (i % 8)) (up_to 256)

-- bytes in a word, lowest first: the first k of them
unfoldable pub bytes_to : (ℕ → ℕ) → (k : ℕ) → ℕ
bytes_to b zero = 0
bytes_to b (suc k) = with_byte (bytes_to b k) k (b k)

-- the other way round: word j of a table's 32
unfoldable pub packed : List ℕ → (j : ℕ) → ℕ
packed table j = bytes_to (λ k. entry_in table (8 * j + k)) 8

-- the table stored in words 8 to 39
abbrev pub stored_table : Memory → List ℕ
stored_table m = unpacked m table_at

-- the rule by which an image is read: that of its own table where it has one, else its edition's
unfoldable pub rule_of : Memory → Rule
rule_of m = cond (has_own m) (own_rule (stored_table m)) (rule_for (m edition_at))

-- a table lacks no byte
unfoldable pub has_every : List ℕ → Bool
has_every table = every (λ b. has_key (λ x. x) b table) (up_to 256)

-- not sound, and refusal 4: of an image of edition 2 word 3 is above 1, or the stored table lacks some byte
unfoldable pub bad_own : Memory → Test
bad_own m = eq (m edition_at) 2 and (lt 1 (m own_at) or (eq (m own_at) 1 and is (not (has_every (stored_table m)))))

-- a table is given to Format; one of length 0 is none
unfoldable pub is_given : List ℕ → Bool
is_given table = ltb 0 (length table)

-- refusal 16: a given table is not 256 bytes long, or lacks some byte
unfoldable pub bad_given : List ℕ → Test
bad_given table = is (is_given table) and (ne (length table) 256 or is (not (has_every table)))

-- every byte occurs once among a table's 256 entries, and nothing else does
pub record OnceEach (table : ℕ → ℕ) : Type 0 where
  pub entries : (i : ℕ) → i < 256 → table i < 256
  pub occurs : (b : ℕ) → b < 256 → (i : ℕ) × (i < 256) × (table i ≡ b)
  pub once : (i j : ℕ) → i < 256 → j < 256 → table i ≡ table j → i ≡ j

-- a table that may be given: 256 entries, every byte once
pub record GoodTable (table : List ℕ) : Type 0 where
  pub entries : length table ≡ 256
  pub once_each : OnceEach (entry_in table)

-- some byte is none of 256 entries
pub record LacksByte (entry : ℕ → ℕ) : Type 0 where
  pub lacking : ℕ
  pub low : lacking < 256
  pub nowhere : (i : ℕ) → i < 256 → entry i ≢ lacking

-- an image's own table is bad, word by word and byte by byte
abbrev pub BadOwn : Memory → Type 0
BadOwn m = (m 0 ≡ 2) × ((1 < m 3) ⊎ ((m 3 ≡ 1) × LacksByte (λ i. byte (m (8 + i / 8)) (i % 8))))
