-- What the layer above needs of the proofs of the layer below, passed on.
pub use Rattle.memory.proofs.Laws.{bit_laws, byte_laws, no_bit, first_laws, script_laws, written_rest, apply_laws, settles, segment_laws, crash_laws}
pub use Rattle.memory.proofs.Laws.{apply_none, apply_first, apply_single, length_segmented, ends_in_barrier, crash_none, passed_or, torn_whole}
pub use Rattle.flushes.proofs.Laws.{translator_laws, own_writes_laws, module_laws}
