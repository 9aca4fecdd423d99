-- An image full of stale words, converted there and back, and a history that starts on the copy: computed.
use mathlib.Core.Path.{◌≡◌, refl}
use mathlib.Core.Option.{some}
use mathlib.Core.List.{[], ◌∷◌, flat_map}
use Prim.Native.Nat.{◌^◌}
use native.Mathlib.Omega.{arith}
use Rattle.tree.specs.MemoryComputed.{field, with_field, bit, is_set, byte, with_byte, first, stores, apply}
use Rattle.tree.specs.Memory.{Fit}
use Rattle.tree.specs.Layout.{bad_image, geometry_of}
use Rattle.tree.specs.Lists.{up_to, range, keep, every, has_key, distinct}
use Rattle.tree.specs.Fingerprint.{fingerprint, folded, table_entry, rule_for, rule_of, has_own, bad_own, bytes_to}
use Rattle.tree.specs.Node.{formed, well_formed, size_allowed}
use Rattle.tree.specs.Slots.{filled, filled_slots}
use Rattle.tree.specs.Lookup.{first_spot, path, path_from, matches, found_at, lookup, find}
use Rattle.tree.specs.Subtree.{children, subtree, tree, all_trees, held_places, frames_in, listing}
use Rattle.tree.specs.Check.{walkable, in_place, is_sound}
use Rattle.tree.specs.Convert.{other_edition, new_header, new_slot, is_reached, new_frame, new_print, new_word, new_node_word, converted, converted_image}
use Rattle.tree.proofs.Memory.{apply_laws, segment_laws}
use Rattle.book.specs.Refusals.{refusal}
use Rattle.book.specs.State.{recover}
use Rattle.book.specs.Checks.{refusals}
use Rattle.book.specs.Perform.{granted, perform}
use Rattle.book.specs.Held.{reels_held, table_of}
use Rattle.book.specs.Histories.{started}
use Rattle.book.specs.Witnesses.{stale_words, clean_words, book_of, copy_of, ConvertedBook}
use Rattle.book.proofs.Entries.{each_at}
use Rattle.book.proofs.Held.{held_starts, at_once}
use Rattle.book.proofs.OldBook.{Small}
use Rattle.book.proofs.Sample.{zeros_fit}

copy_fits : Fit (book_of (clean_words 2 1)).image
unfolding book_of
copy_fits = apply_laws.fits _ _ (zeros_fit 228) (λ i v x. each_at Small (clean_words 2 1) (omega arith) (segment_laws.stored (clean_words 2 1) i v x))

record Computed : Type 0 where
  there : copy_of stale_words ≡ some (book_of (clean_words 2 1)).image
  back : copy_of (clean_words 2 1) ≡ some (book_of (clean_words 1 144)).image
  recovers : (perform (recover 1) (book_of (clean_words 2 1))).answer ≡ 0
  table : (table_of (book_of (clean_words 2 1)).image).reels ≡ record { number = 7; frames = 2 ^ 32 ∷ [] } ∷ []
  old_print : (perform (recover 1) (book_of (clean_words 2 144))).answer ≡ 4

computed : Computed
unfolding book_of table_of reels_held range up_to keep perform granted refusals bad_image refusal geometry_of apply stores first is_set byte with_byte field with_field bit filled path_from path well_formed formed size_allowed first_spot find lookup found_at matches fingerprint folded table_entry rule_for has_own rule_of bad_own bytes_to children subtree tree all_trees filled_slots walkable in_place is_sound held_places frames_in listing distinct has_key every flat_map other_edition new_header new_slot is_reached new_frame new_print new_word new_node_word converted converted_image
computed = record { there = refl; back = refl; recovers = refl; table = refl; old_print = refl }

pub converted_book : ConvertedBook
converted_book = record {
  there = computed.there;
  back = computed.back;
  recovers = computed.recovers;
  history = started (held_starts 1 (book_of (clean_words 2 1)) copy_fits computed.recovers _ (at_once 1 (book_of (clean_words 2 1)) computed.recovers));
  table = computed.table;
  old_print = computed.old_print;
}
