-- Tables as the code has them: lists of 256 bytes, laid out or tested.
use Rattle.std.specs.Prelude.{cond, List, ℕ, zero, suc, set}
use Rattle.memory.specs.Words.{Memory, byte}
use Rattle.tree.specs.Fingerprint.{the_table, has_own, stored_table}

-- the table by which an image is read, its 256 entries in turn
unfoldable pub table_in : Memory → List ℕ
table_in m = cond (has_own m) (stored_table m) the_table

-- 1 at each of a word's bytes, the first k of them
unfoldable pub flagged : List ℕ → (word k : ℕ) → List ℕ
flagged seen w zero = seen
flagged seen w (suc k) = set (flagged seen w k) (byte w k) 1
