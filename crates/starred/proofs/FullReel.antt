-- Reel 7 with frames 0 to 63, put in one by one: a history comes to it, in which the reel is small, and its table has these frames.
use mathlib.Core.Path.{◌≡◌, refl}
use mathlib.Core.Bool.{Bool, true, false, ◌&&◌}
use mathlib.Core.Logic.{inl, inr}
use mathlib.Core.List.{List, [], ◌∷◌, flat_map}
use Prim.Native.Nat.{◌≤◌}
use native.Mathlib.Omega.{arith}
use lib.ListN.{length}
use lib.Dec.{ltb}
use borrow.Author.Tests.{ltb-true}
use Rattle.tree.specs.Memory.{plain}
use Rattle.tree.specs.MemoryComputed.{field, with_field, bit, is_set, with_bit, byte, with_byte, marked, first, stores, segmented, apply}
use Rattle.tree.specs.Layout.{bad_image, geometry_of}
use Rattle.tree.specs.Lists.{up_to, range, keep, every, has_key}
use Rattle.tree.specs.Path.{child, fanout}
use Rattle.tree.specs.Fingerprint.{fingerprint, folded, table_entry, rule_for, has_own, rule_of, bad_own, is_given, bad_given}
use Rattle.tree.specs.Node.{formed, well_formed, size_allowed}
use Rattle.tree.specs.Slots.{filled, slot_of, empty_slot}
use Rattle.tree.specs.Lookup.{first_spot, path, path_from, clear_at, clear_spot, matches, found_at, lookup, find, is_free_run, free_run}
use Rattle.tree.specs.Pool.{mark, mark_all}
use Rattle.tree.specs.Room.{last_of, full_room, room_on}
use Rattle.book.specs.Heads.{state_of, head_at, words_of, with_head, any_head}
use Rattle.book.specs.Refusals.{refusal}
use Rattle.book.specs.State.{State, Operation, format, arguments}
use Rattle.book.specs.Checks.{refusals}
use Rattle.book.specs.Perform.{format_stores, open_script, room_script, claim_script, fill_script, granted, leaves, clears, perform}
use Rattle.book.specs.Table.{Table, frames_in, is_present, frames_of, is_held, any_table_head, change_frames, joined, table_refusals, table_work, reply, empty_table, all_idle}
use Rattle.book.specs.Histories.{done, replied, Follows, performed}
use Rattle.book.specs.PathNodes.{in_use, answered_open, Small}
use Rattle.book.specs.Starred.{run, formatted, keeps, opens, with_frames}
use Rattle.tree.proofs.Cases.{and-true}
use Rattle.tree.proofs.Lists.{up_to_members}
use Rattle.book.proofs.Entries.{Each, each_flat_map}
use Rattle.book.proofs.Sample.{Words, words_fit, zeros, format_follows, table_after, run_follows}

-- at every step the reel is there, with no more than 64 frames in use
unfoldable stays_small : List Operation → State → Table → Bool
stays_small [] s t = true
stays_small (op ∷ ops) s t =
    let t' = (replied op s t).work.after in
    is_present t' 7 && (ltb (length (in_use t' 7)) 65 && stays_small ops (done op s) t')

abbrev filling : List Operation
filling = flat_map (keeps 7) (up_to 64)

-- the table that they come to
unfoldable pub full_table : Table
full_table = table_after (opens 7 ∷ filling) (formatted 1 3) (empty_table false 1 3)

record Computed : Type 0 where
  formats : (perform (format 1 [] 1 3) (zeros 1 3)).answer ≡ 0
  answered : (perform (opens 7) (formatted 1 3)).answer ≡ 0
  small : stays_small (opens 7 ∷ filling) (formatted 1 3) (empty_table false 1 3) ≡ true
  frames : length (in_use (all_idle full_table) 7) ≡ 64

computed : Computed
unfolding stays_small full_table table_after all_idle in_use is_present frames_in frames_of is_held any_table_head change_frames joined table_refusals table_work reply empty_table has_key keep every formatted keeps flat_map up_to range perform granted leaves clears refusals bad_image refusal geometry_of format_stores open_script room_script claim_script fill_script apply segmented stores first marked is_set with_bit byte with_byte field with_field bit slot_of empty_slot filled free_run is_free_run mark mark_all head_at state_of words_of with_head any_head path_from path well_formed formed size_allowed clear_spot clear_at first_spot room_on full_room last_of find lookup found_at matches fingerprint folded table_entry rule_for has_own rule_of bad_own is_given bad_given child fanout
computed = record { formats = refl; answered = refl; small = refl; frames = refl }

-- ---- the history

-- operations whose numbers are words
abbrev InWords : List Operation → Type 0
InWords = Each (λ op. Words (arguments op))

filling_words : InWords filling
unfolding keeps
filling_words = each_flat_map (λ op. Words (arguments op)) (keeps 7) (up_to 64) (λ f x. omega (arith, (up_to_members 64).0 x))

-- a step's part of that
step_small : (op : Operation) (ops : List Operation) (s : State) (t : Table) → stays_small (op ∷ ops) s t ≡ true
    → (is_present (replied op s t).work.after 7 ≡ true) × (length (in_use (replied op s t).work.after 7) ≤ 64)
    × (stays_small ops (done op s) (replied op s t).work.after ≡ true)
unfolding stays_small
step_small op ops s t e =
    let t' = (replied op s t).work.after in
    let few = ltb (length (in_use t' 7)) 65 in
    let a = and-true (is_present t' 7) (few && stays_small ops (done op s) t') e in
    let b = and-true few (stays_small ops (done op s) t') a.1 in
    let l = ltb-true (length (in_use t' 7)) 65 b.0 in
    (a.0, omega arith, b.1)

small_run : (ops : List Operation) (w : InWords ops) {s : State} {t : Table} (f : Follows plain s t) → Small 7 f → stays_small ops s t ≡ true
    → Small 7 (run_follows ops w f)
unfolding run_follows
small_run [] w f x e = x
small_run (op ∷ ops) w {s} {t} f x e =
    let p = step_small op ops s t e in
    small_run ops w.1 (performed f op (words_fit (arguments op) w.0)) (p.0, p.1, inr x) p.2

pub full_history : (h : Follows plain (with_frames 3 64) full_table) × Small 7 h
unfolding with_frames full_table run table_after
full_history =
    let fresh = format_follows 1 3 computed.formats in
    let p = step_small (opens 7) filling (formatted 1 3) (empty_table false 1 3) computed.small in
    let first : Follows plain (done (opens 7) (formatted 1 3)) (replied (opens 7) (formatted 1 3) (empty_table false 1 3)).work.after =
    performed fresh (opens 7) (words_fit (7 ∷ []) (omega arith)) in
    (run_follows filling filling_words first, small_run filling filling_words first (p.0, p.1, inl (answered_open computed.answered)) p.2)

pub full_frames : length (in_use (all_idle full_table) 7) ≡ 64
full_frames = computed.frames
