-- What the layer above needs of the layer below, passed on. Definitions stay shut: what they mean is in the laws.
pub use Rattle.memory.specs.Words.{Memory, reads, field, with_field, bit, is_set, with_bit, without_bit, byte, with_byte, marked}
pub use Rattle.memory.specs.Search.{first}
pub use Rattle.memory.specs.Script.{Entry, store, barrier, flush, Store, stores, encode, written, decode, segmented}
pub use Rattle.memory.specs.Crash.{CrashImage, passed, apply}
pub use Rattle.memory.specs.Apply.{is_some, outcome, carry_out}
pub use Rattle.memory.specs.Laws.{NoneBelow, Avoids, Inside, Fit, FitStores, entries, single, set_all, store_words, Torn, FallsIn, after_all, here, later}
pub use Rattle.flushes.specs.Crash.{FlushCrash}
pub use Rattle.flushes.specs.Translate.{translated, Translation, translation, translate}
pub use Rattle.flushes.specs.Module.{Module, plain, flushing, entries_on, CrashOn, ours_on, flushed_after, Lasting}
pub use Rattle.flushes.specs.Laws.{EachLine}
