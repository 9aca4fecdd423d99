-- Tidy, computed: a claim refused 8 is answered once the empty group of another reel is given back; and which groups it takes.
use mathlib.Core.Path.{◌≡◌, refl, ap}
use mathlib.Core.Logic.{inl, inr}
use mathlib.Core.List.Memᴰ
use mathlib.Core.List.{[], ◌∷◌, flat_map, Memᴰ}
use Prim.Native.Nat.{ℕ, ◌+◌, ◌^◌, ◌<◌}
use native.Mathlib.Omega.{arith}
use Rattle.tree.specs.Memory.{Store, Fit}
use Rattle.tree.specs.MemoryComputed.{field, with_field, bit, is_set, with_bit, without_bit, byte, with_byte, marked, first, stores, segmented, apply}
use Rattle.tree.specs.Layout.{bad_image, geometry_of}
use Rattle.tree.specs.Lists.{up_to, range, keep, first_that, every, has_key, distinct}
use Rattle.tree.specs.Path.{child, fanout}
use Rattle.tree.specs.Fingerprint.{fingerprint, folded, table_entry, rule_for, has_own, rule_of, bad_own}
use Rattle.tree.specs.Node.{formed, well_formed, size_allowed}
use Rattle.tree.specs.Slots.{filled, filled_slots, slot_of, empty_slot}
use Rattle.tree.specs.Lookup.{first_spot, path, path_from, clear_at, clear_spot, matches, found_at, lookup, find, is_free_run, free_run}
use Rattle.tree.specs.Pool.{mark, unmark, mark_all, unmark_all, map_of}
use Rattle.tree.specs.Room.{last_of, full_room, room_on}
use Rattle.tree.specs.Subtree.{nodes_of, children, subtree, tree, all_trees, held_places, frames_in, listing}
use Rattle.tree.specs.Groups.{is_empty, all_empty, has_empty_group, first_group}
use Rattle.tree.specs.Check.{walkable, in_place, is_sound, is_sound_tree}
use Rattle.tree.specs.Recovery.{recover_stores}
use Rattle.tree.proofs.Lists.{up_to_members}
use Rattle.tree.proofs.Memory.{apply_laws, segment_laws}
use Rattle.book.specs.Heads.{state_of, head_at, words_of, with_head, any_head}
use Rattle.book.specs.Refusals.{refusal}
use Rattle.book.specs.State.{recover, claim, tidy}
use Rattle.book.specs.Checks.{refusals}
use Rattle.book.specs.Perform.{room_script, claim_script, tidy_script, granted, leaves, clears, perform}
use Rattle.book.specs.Histories.{started}
use Rattle.book.specs.Witnesses.{group_words, room_words, room_book, full_book, tidy_book, TidyRoom, nested, TidyOrder}
use Rattle.book.proofs.Entries.{each_at}
use Rattle.book.proofs.Held.{held_starts, at_once}
use Rattle.book.proofs.OldBook.{Small}
use Rattle.book.proofs.Sample.{zeros_fit}

-- a word stored is a word
word : (i v : ℕ) → Memᴰ {A = Store} (i, v) room_words → v < 2 ^ 64
word i v x = elim (Memᴰ.append_cases group_words x) [
  | inl y ↦ each_at Small group_words (omega arith) y
  | inr y ↦
      let p = Memᴰ.of_map (λ p. (84 + p, p)) (up_to 64) y in
      let q : p.0 ≡ v = ap (λ (w : Store). w.1) p.2 in
      omega (arith, (up_to_members 64).0 p.1)
]

fits : Fit room_book.image
unfolding room_book
fits = apply_laws.fits _ _ (zeros_fit 388) (λ i v x. word i v (segment_laws.stored room_words i v x))

record Computed : Type 0 where
  recovers : (perform (recover 1) room_book).answer ≡ 0
  refused : (perform (claim 1 50 0 8 64) full_book).answer ≡ 8
  none_there : (perform (tidy 1 1 50 8) full_book).answer ≡ 18
  tidied : (perform (tidy 1 1 50 7) full_book).answer ≡ 0
  script : (perform (tidy 1 1 50 7) full_book).work.script ≡ ((148, 0) ∷ []) ∷ []
  map_before : full_book.pool ≡ (2 ^ 0 + 2 ^ 1 + 2 ^ 2 + 2 ^ 3) ∷ []
  map_after : tidy_book.pool ≡ (2 ^ 0 + 2 ^ 1) ∷ []
  answered : (perform (claim 1 50 0 8 64) tidy_book).answer ≡ 0
  none_left : (perform (tidy 1 1 50 7) tidy_book).answer ≡ 18

computed : Computed
unfolding room_book flat_map up_to range keep first_that every has_key distinct perform granted leaves clears refusals bad_image refusal geometry_of room_script claim_script tidy_script apply segmented stores first marked is_set with_bit without_bit byte with_byte field with_field bit slot_of empty_slot filled filled_slots free_run is_free_run mark unmark mark_all unmark_all map_of nodes_of head_at state_of words_of with_head any_head path_from path well_formed formed size_allowed clear_spot clear_at first_spot room_on full_room last_of find lookup found_at matches children subtree tree all_trees held_places frames_in listing walkable in_place is_sound is_sound_tree is_empty all_empty has_empty_group first_group recover_stores fingerprint folded table_entry rule_for has_own rule_of bad_own child fanout
computed = record {
  recovers = refl;
  refused = refl;
  none_there = refl;
  tidied = refl;
  script = refl;
  map_before = refl;
  map_after = refl;
  answered = refl;
  none_left = refl;
}

pub tidy_room : TidyRoom
tidy_room = record {
  recovers = computed.recovers;
  history = started (held_starts 1 room_book fits computed.recovers _ (at_once 1 room_book computed.recovers));
  refused = computed.refused;
  none_there = computed.none_there;
  tidied = computed.tidied;
  script = computed.script;
  map_before = computed.map_before;
  map_after = computed.map_after;
  answered = computed.answered;
  none_left = computed.none_left;
}

-- ---- which group it takes

pub tidy_order : TidyOrder
unfolding nested flat_map up_to range keep first_that every has_key distinct perform granted leaves clears refusals bad_image refusal geometry_of room_script claim_script tidy_script apply segmented stores first marked is_set with_bit without_bit byte with_byte field with_field bit slot_of empty_slot filled filled_slots free_run is_free_run mark unmark mark_all unmark_all map_of nodes_of head_at state_of words_of with_head any_head path_from path well_formed formed size_allowed clear_spot clear_at first_spot room_on full_room last_of find lookup found_at matches children subtree tree all_trees held_places frames_in listing walkable in_place is_sound is_sound_tree is_empty all_empty has_empty_group first_group recover_stores fingerprint folded table_entry rule_for has_own rule_of bad_own child fanout
tidy_order = record {
  first = refl;
  second = refl;
  third = refl;
  map = refl;
  none_left = refl;
  located = refl;
  located_left = refl;
  recovered = refl;
}
