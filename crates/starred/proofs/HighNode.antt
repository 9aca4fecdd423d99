-- A map of two words, computed: a node's bit in the second.
use mathlib.Core.Path.{refl}
use mathlib.Core.List.{flat_map}
use Rattle.tree.specs.MemoryComputed.{field, with_field, bit, is_set, with_bit, without_bit, marked, first, stores, segmented, apply}
use Rattle.tree.specs.Layout.{bad_image, geometry_of}
use Rattle.tree.specs.Lists.{up_to, range, keep, every, has_key, distinct}
use Rattle.tree.specs.Fingerprint.{rule_for, has_own, rule_of, bad_own}
use Rattle.tree.specs.Node.{formed, well_formed, size_allowed}
use Rattle.tree.specs.Slots.{filled, filled_slots, slot_of, empty_slot}
use Rattle.tree.specs.Lookup.{is_free_run, free_run}
use Rattle.tree.specs.Pool.{mark, unmark, mark_all, unmark_all, map_of}
use Rattle.tree.specs.Subtree.{nodes_of, children, subtree, tree, all_trees, held_places}
use Rattle.tree.specs.Check.{walkable, in_place, is_sound, is_sound_tree}
use Rattle.tree.specs.Recovery.{recover_stores}
use Rattle.book.specs.Heads.{state_of, head_at, any_head}
use Rattle.book.specs.Refusals.{refusal}
use Rattle.book.specs.Checks.{refusals}
use Rattle.book.specs.Perform.{open_script, granted, leaves, clears, perform}
use Rattle.book.specs.Witnesses.{high_book, HighNode}

pub high_node : HighNode
unfolding high_book flat_map up_to range keep every has_key distinct perform granted leaves clears refusals bad_image refusal geometry_of open_script apply segmented stores first marked is_set with_bit without_bit field with_field bit slot_of empty_slot filled filled_slots free_run is_free_run mark unmark mark_all unmark_all map_of nodes_of head_at state_of any_head well_formed formed size_allowed children subtree tree all_trees held_places walkable in_place is_sound is_sound_tree recover_stores rule_for has_own rule_of bad_own
high_node = record { recovers = refl; map = refl; opens = refl; retires = refl }
