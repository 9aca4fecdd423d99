-- A claim cut short once its children are linked: the reel has 64 frames, and a path of two nodes.
use mathlib.Core.Path.{◌≡◌, refl}
use mathlib.Core.List.{[], ◌∷◌, flat_map}
use mathlib.Core.Logic.{inl, inr}
use Prim.Native.Nat.{ℕ, ◌≤◌}
use native.Mathlib.Omega.{arith}
use lib.ListN.{length, take, replicate}
use Rattle.tree.specs.Memory.{plain}
use Rattle.tree.specs.MemoryComputed.{field, with_field, bit, is_set, with_bit, without_bit, byte, with_byte, marked, first, stores, segmented, apply}
use Rattle.tree.specs.Layout.{bad_image, geometry_of}
use Rattle.tree.specs.Lists.{up_to, range, keep, every, has_key, distinct}
use Rattle.tree.specs.Path.{child, fanout}
use Rattle.tree.specs.Fingerprint.{fingerprint, folded, table_entry, rule_for, has_own, rule_of, bad_own, is_given, bad_given}
use Rattle.tree.specs.Node.{formed, well_formed, size_allowed}
use Rattle.tree.specs.Slots.{filled, filled_slots, slot_of, empty_slot}
use Rattle.tree.specs.Lookup.{first_spot, path, path_from, clear_at, clear_spot, matches, found_at, lookup, find, is_free_run, free_run}
use Rattle.tree.specs.Pool.{mark, mark_all}
use Rattle.tree.specs.Room.{last_of, full_room, room_on}
use Rattle.tree.specs.Subtree.{children, subtree, tree, all_trees, held_places, frames_in, listing}
use Rattle.tree.specs.Check.{walkable, in_place, is_sound, is_sound_tree}
use Rattle.tree.specs.Recovery.{recover_stores}
use Rattle.book.specs.Heads.{state_of, head_at, words_of, with_head, any_head}
use Rattle.book.specs.Refusals.{refusal}
use Rattle.book.specs.State.{State, recover, claim}
use Rattle.book.specs.Checks.{refusals}
use Rattle.book.specs.Perform.{format_stores, open_script, room_script, claim_script, fill_script, granted, leaves, clears, perform}
use Rattle.book.specs.Table.{Table, Fed, table_refusals, table_work, reply, all_idle}
use Rattle.book.specs.Histories.{none_yet, Follows, before, after}
use Rattle.book.specs.PathNodes.{has_of, in_use}
use Rattle.book.specs.Starred.{run, formatted, keeps, with_frames}
use Rattle.book.specs.Witnesses.{CutAt, cut_claim, CutClaim}
use lib.Dec.{eqb}
use Rattle.tree.proofs.Cases.{test}
use Rattle.tree.proofs.Memory.{crash_laws}
use Rattle.book.proofs.Held.{at_once}
use Rattle.book.proofs.Witnesses.{cut_script}
use Rattle.book.proofs.Demands.{demand3}
use Rattle.book.proofs.Sample.{words_fit}
use Rattle.starred.proofs.FullReel.{full_history, full_frames}

-- the book that the cut leaves
abbrev left : State
left =
    let s = with_frames 3 64 in
    let entries = take 13 (segmented (perform (claim 1 50 0 7 64) s).work.script) in
    record { image = apply s.image entries; pool = 9 ∷ []; heads = replicate 20 9 }

record Computed : Type 0 where
  enough : 13 ≤ length (segmented (perform (claim 1 50 0 7 64) (with_frames 3 64)).work.script)
  recovers : (perform (recover 1) left).answer ≡ 0
  two : (has_of 7 64 cut_claim).work.handed.path_nodes ≡ 2

computed : Computed
unfolding cut_claim run formatted keeps with_frames flat_map up_to range keep every has_key distinct perform granted leaves clears refusals bad_image refusal geometry_of format_stores open_script room_script claim_script fill_script apply segmented stores first marked is_set with_bit without_bit byte with_byte field with_field bit slot_of empty_slot filled filled_slots free_run is_free_run mark mark_all head_at state_of words_of with_head any_head path_from path well_formed formed size_allowed clear_spot clear_at first_spot room_on full_room last_of find lookup found_at matches children subtree tree all_trees held_places frames_in listing walkable in_place is_sound is_sound_tree recover_stores fingerprint folded table_entry rule_for has_own rule_of bad_own is_given bad_given child fanout
computed = record { enough = omega arith; recovers = refl; two = refl }

-- what a claim makes of a table is gone with its heads
claim_idle : (words script h reel f : ℕ) (x : Fed) (t : Table) → all_idle (reply (claim words script h reel f) x t).work.after ≡ all_idle t
unfolding reply table_work all_idle
claim_idle words script h reel f x t = elim (test (eqb (refusal (table_refusals (claim words script h reel f) x t)) 0)) [ inl e ↦ rw e refl | inr e ↦ rw e refl ]

cut : CutAt (claim 1 50 0 7 64) (with_frames 3 64) 13 cut_claim
unfolding cut_claim
cut = record {
  left = left.image;
  interrupted = cut_script (λ u. elim u [ ]) (crash_laws.as_carried_out _ _ 13 computed.enough);
  recovered = at_once 1 left computed.recovers;
}

goes_on : (t : Table) × Follows plain cut_claim t × (length (in_use t 7) ≡ 64)
goes_on =
    let h = full_history.0 in
    let fit = words_fit (0 ∷ 7 ∷ 64 ∷ []) (omega arith) in
    elim (((demand3 _ _ h).survives (claim 1 50 0 7 64) fit 13 _ _ cut.interrupted none_yet).whole cut_claim cut.recovered) [
      | inl y ↦ (_, before h (claim 1 50 0 7 64) fit 13 cut.interrupted cut.recovered y.0 y.1, full_frames)
      | inr y ↦ (_, after h (claim 1 50 0 7 64) fit 13 cut.interrupted cut.recovered y, rw (claim_idle 1 50 0 7 64) full_frames)
    ]

pub cut_claim_lem : CutClaim
cut_claim_lem = record { history = (_, full_history.0, full_history.1); cut = cut; goes_on = goes_on; two = computed.two }
