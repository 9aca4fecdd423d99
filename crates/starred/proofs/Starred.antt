-- The starred cases, computed.
use mathlib.Core.Path.{refl}
use mathlib.Core.List.{flat_map}
use lib.Count.{ones, ones_in}
use Rattle.tree.specs.MemoryComputed.{field, with_field, bit, is_set, with_bit, without_bit, byte, with_byte, marked, first, stores, segmented, apply}
use Rattle.tree.specs.Layout.{bad_image, geometry_of}
use Rattle.tree.specs.Lists.{up_to, range, keep, every, has_key, distinct}
use Rattle.tree.specs.Path.{child, fanout}
use Rattle.tree.specs.Fingerprint.{fingerprint, folded, table_entry, rule_for, own_rule, has_own, rule_of, bad_own, is_given, bad_given}
use Rattle.tree.specs.Node.{formed, well_formed, size_allowed}
use Rattle.tree.specs.Slots.{filled, slot_of, empty_slot}
use Rattle.tree.specs.Lookup.{first_spot, path, path_from, clear_at, clear_spot, matches, found_at, lookup, find, is_free_run, free_run}
use Rattle.tree.specs.Subtree.{children, subtree, tree}
use Rattle.tree.specs.Check.{walkable, is_sound_tree}
use Rattle.tree.specs.Pool.{mark, unmark, mark_all, unmark_all}
use Rattle.book.specs.Heads.{state_of, head_at, words_of, with_head, any_head}
use Rattle.book.specs.Refusals.{refusal}
use Rattle.tree.specs.Room.{last_of, full_room, room_on, left_at, places_left}
use Rattle.book.specs.Checks.{refusals}
use Rattle.tree.specs.Subtree.{nodes_of}
use Rattle.book.specs.Perform.{format_stores, open_script, room_script, claim_script, fill_script, granted, leaves, clears, perform}
use Rattle.book.specs.Starred.{run, formatted, keeps, with_frames, with_gaps, starred, Starred}

pub every_starred : Starred
unfolding starred run formatted keeps with_frames with_gaps flat_map up_to range keep every has_key distinct perform granted leaves clears refusals bad_image refusal geometry_of format_stores open_script room_script claim_script fill_script nodes_of apply segmented stores first marked is_set with_bit without_bit byte with_byte field with_field bit slot_of empty_slot filled free_run is_free_run mark unmark mark_all unmark_all head_at state_of words_of with_head any_head path_from path well_formed formed size_allowed clear_spot clear_at first_spot room_on full_room last_of left_at places_left ones ones_in find lookup found_at matches children subtree tree walkable is_sound_tree fingerprint folded table_entry rule_for own_rule has_own rule_of bad_own is_given bad_given child fanout
every_starred = refl
