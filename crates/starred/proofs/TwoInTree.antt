-- A crash with two claims in one tree: a history comes to such a book, and a crash in its commit may keep or lose the frame.
use mathlib.Core.Path.{◌≡◌, refl}
use mathlib.Core.List.{flat_map}
use native.Mathlib.Omega.{arith}
use Rattle.tree.specs.Memory.{plain}
use Rattle.tree.specs.MemoryComputed.{field, with_field, bit, is_set, with_bit, byte, with_byte, marked, first}
use Rattle.tree.specs.MemoryComputed.{stores, segmented, apply}
use Rattle.tree.specs.Layout.{bad_image, geometry_of}
use Rattle.tree.specs.Lists.{up_to, range}
use Rattle.tree.specs.Path.{child, fanout}
use Rattle.tree.specs.Fingerprint.{fingerprint, folded, table_entry, rule_for, has_own, rule_of, bad_own, is_given, bad_given}
use Rattle.tree.specs.Node.{formed, well_formed, size_allowed}
use Rattle.tree.specs.Slots.{filled, slot_of, empty_slot}
use Rattle.tree.specs.Lookup.{first_spot, path, path_from, clear_at, clear_spot, matches, found_at, lookup, find, is_free_run, free_run}
use Rattle.tree.specs.Pool.{mark, mark_all}
use Rattle.tree.specs.Room.{last_of, full_room, room_on}
use Rattle.book.specs.declared.HeadState.TheVariants.{Claimed, Filled}
use Rattle.book.specs.Heads.{state_of, head_at, words_of, with_head, any_head}
use Rattle.book.specs.Refusals.{refusal}
use Rattle.book.specs.State.{claim, commit, query, has}
use Rattle.book.specs.Checks.{refusals}
use Rattle.book.specs.Perform.{format_stores, open_script, room_script, claim_script, fill_script, granted, leaves, clears, perform}
use Rattle.book.specs.Table.{Table}
use Rattle.book.specs.Histories.{done, Follows}
use Rattle.book.specs.Starred.{run, formatted, keeps, with_frames}
use Rattle.book.specs.Witnesses.{two_in_tree, TwoInTree}
use Rattle.book.proofs.Sample.{run_follows, Tells, told_apart}
use Rattle.book.proofs.Demands.{demand3, witnesses}
use Rattle.starred.proofs.FullReel.{full_history}

-- ---- the history

history : (t : Table) × Follows plain two_in_tree t
unfolding two_in_tree
history = (_, run_follows _ (omega arith) full_history.0)

-- ---- the computed answers

record Computed : Type 0 where
  head_0 : head_at two_in_tree.heads 0 ≡ Filled (record { slot = 0; node = 1; place = 0; frame = 64 })
  head_1 : head_at two_in_tree.heads 1 ≡ Claimed (record { slot = 0; node = 2; place = 0; frame = 65 })
  third : (perform (claim 1 50 2 7 66) two_in_tree).answer ≡ 13
  answered : (perform (commit 50 0) two_in_tree).answer ≡ 0
  -- Has of frame 64 hands back 0 before the commit of head 0, 1 after it
  absent : (perform (query (has 7 64)) two_in_tree).work.handed.value ≡ 0
  present : (perform (query (has 7 64)) (done (commit 50 0) two_in_tree)).work.handed.value ≡ 1

computed : Computed
unfolding two_in_tree run formatted keeps with_frames flat_map up_to range perform granted leaves clears refusals bad_image refusal geometry_of format_stores open_script room_script claim_script fill_script apply segmented stores first marked is_set with_bit byte with_byte field with_field bit slot_of empty_slot filled free_run is_free_run mark mark_all head_at state_of words_of with_head any_head path_from path well_formed formed size_allowed clear_spot clear_at first_spot room_on full_room last_of find lookup found_at matches fingerprint folded table_entry rule_for has_own rule_of bad_own is_given bad_given child fanout
computed = record { head_0 = refl; head_1 = refl; third = refl; answered = refl; absent = refl; present = refl }

tells : Tells two_in_tree 0 7 64
tells = record { words = omega arith; head = omega arith; absent = computed.absent; present = computed.present }

pub two_in_tree_lem : TwoInTree
two_in_tree_lem = record {
  history = history;
  head_0 = computed.head_0;
  head_1 = computed.head_1;
  third = computed.third;
  answered = computed.answered;
  cut = λ t f. witnesses.commit_cut two_in_tree t f 50 0 (omega arith) computed.answered;
  told_apart = told_apart demand3 tells;
}
