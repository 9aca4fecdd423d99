-- A history that starts on an image of edition 1, computed.
use mathlib.Core.Path.{◌≡◌, refl, subst}
use mathlib.Core.Bool.{false}
use mathlib.Core.List.{[], ◌∷◌, flat_map}
use Prim.Native.Nat.{◌+◌, ◌*◌, ◌^◌, ◌<◌}
use native.Mathlib.Omega.{arith}
use Rattle.tree.specs.MemoryComputed.{field, with_field, bit, is_set, with_bit, byte, with_byte, marked, first, stores, segmented, apply}
use Rattle.tree.specs.Memory.{plain, Fit, Store}
use Rattle.tree.specs.Layout.{bad_image, geometry_of}
use Rattle.tree.specs.Lists.{up_to, range, keep, every, has_key, distinct}
use Rattle.tree.specs.Fingerprint.{fingerprint, folded, table_entry, rule_for, rule_of, has_own, bad_own, is_given, bad_given}
use Rattle.tree.specs.Node.{formed, well_formed, size_allowed}
use Rattle.tree.specs.Slots.{filled, filled_slots, slot_of, empty_slot}
use Rattle.tree.specs.Lookup.{first_spot, path, path_from, clear_at, clear_spot, matches, found_at, lookup, find, is_free_run, free_run}
use Rattle.tree.specs.Pool.{mark}
use Rattle.tree.specs.Subtree.{children, subtree, tree, all_trees, held_places, frames_in, listing}
use Rattle.tree.specs.Check.{walkable, in_place, is_sound}
use Rattle.tree.specs.Recovery.{recover_stores}
use Rattle.tree.specs.Room.{room_on}
use Rattle.tree.proofs.Memory.{apply_laws, segment_laws}
use Rattle.book.specs.Heads.{state_of, head_at, words_of, with_head, any_head}
use Rattle.book.specs.Refusals.{refusal}
use Rattle.book.specs.State.{format, recover, open_reel, claim, fill, query, has}
use Rattle.book.specs.Checks.{refusals}
use Rattle.book.specs.Perform.{format_stores, open_script, room_script, claim_script, fill_script, granted, leaves, clears, perform}
use Rattle.book.specs.Table.{table_refusals, table_work, reply, empty_table}
use Rattle.book.specs.Held.{reels_held, table_of}
use Rattle.book.specs.Histories.{done, replied, Follows, started, performed}
use Rattle.book.specs.Starred.{run, formatted}
use Rattle.book.specs.Witnesses.{held_words, held_book, old_book, one_frame, OldBook}
use Rattle.book.proofs.Entries.{each_at}
use Rattle.book.proofs.Editions.{editions}
use Rattle.book.proofs.Held.{held_starts, at_once}
use Rattle.book.proofs.Sample.{words_fit, zeros_fit}

abbrev pub Small : Store → Type 0
Small p = p.1 < 2 ^ 64

fits : Fit (held_book 1).image
unfolding held_book
fits = apply_laws.fits _ _ (zeros_fit 146) (λ i v x. each_at Small (held_words 1) (omega arith) (segment_laws.stored (held_words 1) i v x))

record Computed : Type 0 where
  recovers : (perform (recover 1) (held_book 1)).answer ≡ 0
  table : table_of (held_book 1).image ≡ one_frame
  says_yes : (perform (query (has 7 (2 ^ 32))) old_book).work.handed.value ≡ 1
  fills : (perform (fill 50 0) (done (claim 1 50 0 7 0) old_book)).work.script ≡ ((83, 0) ∷ []) ∷ ((74, 144 + 144 * 256) ∷ []) ∷ []
  fills_new : (perform (fill 50 0) (run (open_reel 1 50 7 ∷ claim 1 50 0 7 0 ∷ []) (formatted 1 1))).work.script
      ≡ ((82, 0) ∷ []) ∷ ((74, 32) ∷ []) ∷ []
  formats : (perform (format 1 [] 1 1) old_book).answer ≡ 0
  emptied : (replied (format 1 [] 1 1) old_book one_frame).work.after ≡ empty_table false 1 1
  asked : (perform (query (has 7 (2 ^ 32))) (held_book 2)).answer ≡ 0
  says_no : (perform (query (has 7 (2 ^ 32))) (held_book 2)).work.handed.value ≡ 0
  unsound : (perform (recover 1) (held_book 2)).answer ≡ 4

computed : Computed
unfolding held_book formatted run table_of reels_held reply table_refusals table_work empty_table range up_to keep perform granted leaves clears refusals bad_image refusal geometry_of format_stores open_script room_script claim_script fill_script apply segmented stores first marked is_set with_bit byte with_byte field with_field bit slot_of empty_slot filled free_run is_free_run mark head_at state_of words_of with_head any_head path_from path well_formed formed size_allowed clear_spot clear_at first_spot room_on find lookup found_at matches fingerprint folded table_entry rule_for has_own rule_of bad_own is_given bad_given children subtree tree all_trees filled_slots walkable in_place is_sound held_places frames_in listing distinct has_key every recover_stores flat_map
computed = record {
  recovers = refl;
  table = refl;
  says_yes = refl;
  fills = refl;
  fills_new = refl;
  formats = refl;
  emptied = refl;
  asked = refl;
  says_no = refl;
  unsound = refl;
}

history : Follows plain old_book one_frame
history =
    subst (Follows plain old_book) computed.table (started (held_starts 1 (held_book 1) fits computed.recovers _ (at_once 1 (held_book 1) computed.recovers)))

pub old_book_lem : OldBook
old_book_lem = record {
  recovers = computed.recovers;
  history = history;
  says_yes = computed.says_yes;
  fills = computed.fills;
  fills_new = computed.fills_new;
  goes_on = subst (Follows plain _) computed.emptied (performed history (format 1 [] 1 1) (words_fit (1 ∷ 1 ∷ []) (omega arith)));
  anew = (editions {on = plain}).formatted 1 [] 1 1 old_book computed.formats;
  asked = computed.asked;
  says_no = computed.says_no;
  unsound = computed.unsound;
}
