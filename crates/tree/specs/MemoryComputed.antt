-- The same definitions for worked examples, which compute: what proofs go by is Memory.antt and the laws.
unfoldable pub use Rattle.memory.specs.Words.{field, with_field, bit, is_set, with_bit, without_bit, byte, with_byte, marked}
unfoldable pub use Rattle.memory.specs.Search.{first}
unfoldable pub use Rattle.memory.specs.Script.{stores, segmented}
unfoldable pub use Rattle.memory.specs.Crash.{apply}
