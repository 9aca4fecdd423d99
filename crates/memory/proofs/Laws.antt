-- What crates above cite: a proof for each record of specs/Laws.antt, and the lemmas that proofs of code ask for.
pub use Rattle.memory.proofs.Fields.{bit_laws, byte_laws, no_bit}
pub use Rattle.memory.proofs.First.{first_laws}
pub use Rattle.memory.proofs.Written.{script_laws, written_rest}
pub use Rattle.memory.proofs.Stores.{apply_laws, OldOrStored, content, unstored, settles}
pub use Rattle.memory.proofs.StoreLists.{segment_laws, apply_none, apply_first, apply_single, length_segmented, ends_in_barrier, crash_none, passed_or, torn_whole}
pub use Rattle.memory.proofs.Bitmap.{clear_in, unmarked, full_word, Passed, pass_word}
pub use Rattle.memory.proofs.Trailing.{trailing_first, lowest_in, lowest_set, lowest_taken, not_bits}
pub use Rattle.memory.proofs.Bytes.{equal_bit, equal_beside, set_ahead, half_bits, or_bits, and_bits}
pub use Rattle.memory.proofs.Cases.{test, clash}
-- and what `flushes`, which knows crashes from within, builds on
pub use Rattle.memory.proofs.Lists.{mem_take, number_of, element_at, take_through}
pub use Rattle.memory.proofs.Pairs.{Pairs, none, half, pair, pairs, pair_read, length_pairs}
pub use Rattle.memory.proofs.Written.{set_two, Reads, as_barrier, as_flush, as_store, entry_reads}
pub use Rattle.memory.proofs.Stores.{length_apply, apply_append}
pub use Rattle.memory.proofs.StoreLists.{store_of}
pub use Rattle.memory.proofs.Fences.{Fenced, no_barrier, rejoined, barrier_later, none_later}
pub use Rattle.memory.proofs.Possible.{fenced_at, choice_means, length_image, reads_image}
use Rattle.memory.specs.Laws.{CrashLaws}
use Rattle.memory.proofs.Fences.{passed_means, passed_at_end}
use Rattle.memory.proofs.Possible.{last_barrier, only_chosen, possible, outside}
use Rattle.memory.proofs.Crash.{as_carried_out, none_yet, all_done, fits, unreached, same_value}
use Rattle.memory.proofs.Segments.{falls_in, torn_possible, left_to_pass, all_passed}

pub crash_laws : CrashLaws
crash_laws = record {
  within = λ m es k m' c. c.within;
  same_length = λ m es k m' c. c.same_length;
  last_barrier = last_barrier;
  possible = possible;
  only_chosen = only_chosen;
  as_carried_out = as_carried_out;
  none_yet = none_yet;
  all_done = all_done;
  all_passed = all_passed;
  passed_means = passed_means;
  passed_at_end = passed_at_end;
  passed_or = passed_or;
  outside = outside;
  falls_in = falls_in;
  crash_none = crash_none;
  torn_whole = torn_whole;
  torn_possible = torn_possible;
  left_to_pass = left_to_pass;
  fits = fits;
  unreached = unreached;
  same_value = same_value;
}
