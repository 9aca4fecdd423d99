-- Books computed from a format on, and that histories come to them.
use mathlib.Core.Path.{◌≡◌, refl, sym, ◌∙◌, subst}
use mathlib.Core.Bool.{false}
use mathlib.Core.Logic.{inl, inr}
use mathlib.Core.List.{List, [], ◌∷◌, flat_map}
use Prim.Native.Nat.{ℕ, zero, suc, ◌+◌, ◌*◌, ◌^◌, ◌<◌}
use native.Mathlib.Omega.{arith}
use lib.ListN.{replicate}
use lib.Dec.{eqb}
use Rattle.tree.specs.MemoryComputed.{field, with_field, bit, is_set, with_bit, byte, with_byte, marked, first, stores, segmented, apply}
use Rattle.tree.specs.Memory.{plain, Fit}
use Rattle.tree.specs.Layout.{bad_image, geometry_of}
use Rattle.tree.specs.Lists.{up_to, range, keep, every, has_key, distinct}
use Rattle.tree.specs.Fingerprint.{fingerprint, folded, table_entry, rule_for, rule_of, has_own, bad_own, is_given, bad_given}
use Rattle.tree.specs.Node.{formed, well_formed, size_allowed}
use Rattle.tree.specs.Slots.{filled, filled_slots, slot_of, empty_slot}
use Rattle.tree.specs.Lookup.{first_spot, path, path_from, clear_at, clear_spot, matches, found_at, lookup, find, is_free_run, free_run}
use Rattle.tree.specs.Pool.{mark}
use Rattle.tree.specs.Subtree.{children, subtree, tree, all_trees, held_places}
use Rattle.tree.specs.Check.{walkable, in_place, is_sound}
use Rattle.tree.proofs.Cases.{test}
use Rattle.book.specs.Heads.{state_of, head_at, words_of, with_head, any_head}
use Rattle.book.specs.Refusals.{refusal}
use Rattle.tree.specs.Room.{room_on}
use Rattle.book.specs.State.{State, Operation, format, recover, claim, commit, query, has, arguments}
use Rattle.book.specs.Checks.{refusals}
use Rattle.tree.specs.Recovery.{recover_stores}
use Rattle.book.specs.Perform.{format_stores, open_script, room_script, claim_script, fill_script, granted, leaves, clears, perform}
use Rattle.book.specs.Table.{Table, Fed, nothing, fed, frames_in, is_present, frames_of, is_held, any_table_head, table_refusals, table_work, reply, empty_table, all_idle}
use Rattle.book.specs.Agrees.{Agrees}
use Rattle.book.specs.Histories.{done, replied, Follows, formatted, started, performed}
use Rattle.book.specs.Starred as starred
use Rattle.book.specs.Starred.{run}
use Rattle.book.specs.Demands.{Demand3}
use Rattle.book.specs.Witnesses.{claims_of_all, all_claimed, four_open, locate_words, OtherGeometry}
use Rattle.book.proofs.Entries.{Each}
use Rattle.book.proofs.Alike.{alike}

-- ---- numbers that are words

abbrev pub Words : List ℕ → Type 0
Words = Each (λ n. n < 2 ^ 64)

pub words_fit : (ns : List ℕ) → Words ns → Fit ns
words_fit [] w i = omega arith
words_fit (n ∷ ns) w zero = w.0
words_fit (n ∷ ns) w (suc i) = words_fit ns w.1 i

pub zeros_fit : (n : ℕ) → Fit (replicate n 0)
zeros_fit zero i = omega arith
zeros_fit (suc n) zero = omega arith
zeros_fit (suc n) (suc i) = zeros_fit n i

-- ---- histories without a crash

-- an image of zeros, just before a format
abbrev pub zeros : (slots nodes : ℕ) → State
zeros slots nodes = record { image = replicate (64 + 2 * slots + 80 * nodes) 0; pool = []; heads = [] }

pub format_follows : (slots nodes : ℕ) → (perform (format 1 [] slots nodes) (zeros slots nodes)).answer ≡ 0
    → Follows plain (starred.formatted slots nodes) (empty_table false slots nodes)
unfolding starred.formatted is_given
format_follows slots nodes h = started (formatted 1 [] slots nodes (zeros slots nodes) (zeros_fit (64 + 2 * slots + 80 * nodes)) h)

-- the table that operations come to, one after the other
unfoldable pub table_after : List Operation → State → Table → Table
table_after [] s t = t
table_after (op ∷ ops) s t = table_after ops (done op s) (replied op s t).work.after

unfoldable pub run_follows : (ops : List Operation) → Each (λ op. Words (arguments op)) ops → {s : State} {t : Table} → Follows plain s t
    → Follows plain (run ops s) (table_after ops s t)
unfolding run table_after
run_follows [] w f = f
run_follows (op ∷ ops) w f = run_follows ops w.1 (performed f op (words_fit (arguments op) w.0))

-- ---- the computed answers

format_answers : ((perform (format 1 [] 41 1) (zeros 41 1)).answer ≡ 0) × ((perform (format 1 [] 4 4) (zeros 4 4)).answer ≡ 0)
unfolding perform refusals bad_image refusal bad_given is_given
format_answers = (refl, refl)

pub record Computed : Type 0 where
  pub table : table_after claims_of_all (starred.formatted 4 4) (empty_table false 4 4) ≡ four_open
  pub no_fifth : (perform (claim 1 50 4 7 12) all_claimed).answer ≡ 11
  pub answered : (perform (commit 50 3) all_claimed).answer ≡ 0
  -- Has of frame 12 of reel 10 hands back 0 before the commit, 1 after it
  pub absent : (perform (query (has 10 12)) all_claimed).work.handed.value ≡ 0
  pub present : (perform (query (has 10 12)) (done (commit 50 3) all_claimed)).work.handed.value ≡ 1
  -- a recovery makes every locate word new, so one that is cut may leave any of them old
  pub recovers : (perform (recover 1) all_claimed).answer ≡ 0
  pub all_old : locate_words all_claimed ≡ 1 ∷ 1 ∷ 1 ∷ 1 ∷ []
  pub all_new : locate_words (perform (recover 1) all_claimed).work.after ≡ 0 ∷ 0 ∷ 0 ∷ 0 ∷ []
  pub all_idle_lem : (perform (recover 1) all_claimed).work.after.heads ≡ replicate 20 0

pub computed : Computed
unfolding all_claimed run table_after reply table_refusals table_work empty_table is_present frames_in any_table_head is_held frames_of starred.formatted range up_to keep perform granted leaves clears refusals bad_image refusal geometry_of format_stores open_script room_script claim_script fill_script apply segmented stores first marked is_set with_bit byte with_byte field with_field bit slot_of empty_slot filled free_run is_free_run mark head_at state_of words_of with_head any_head path_from path well_formed formed size_allowed clear_spot clear_at first_spot room_on find lookup found_at matches fingerprint folded table_entry rule_for has_own rule_of bad_own is_given bad_given children subtree tree all_trees filled_slots walkable in_place is_sound held_places distinct has_key every recover_stores flat_map
computed = record {
  table = refl;
  no_fifth = refl;
  answered = refl;
  absent = refl;
  present = refl;
  recovers = refl;
  all_old = refl;
  all_new = refl;
  all_idle_lem = refl;
}

pub four_follows : Follows plain all_claimed four_open
unfolding all_claimed
four_follows = subst (Follows plain all_claimed) computed.table (run_follows claims_of_all (omega arith) (format_follows 4 4 format_answers.1))

pub other_geometry : OtherGeometry
unfolding starred.formatted perform refusals bad_image refusal bad_given is_given granted leaves clears apply stores segmented format_stores range up_to geometry_of reply table_refusals table_work empty_table
other_geometry = record { history = format_follows 41 1 format_answers.0; answered = refl; table = refl }

-- ---- a frame that a commit brings, before and after

module _ (reel f : ℕ) where
  -- what a table says of it
  abbrev said : Table → ℕ
  said t = (reply (query (has reel f)) nothing t).work.handed.value

  -- whatever it is fed, and the same with every head idle
  said_fed : (x : Fed) (t : Table) → (reply (query (has reel f)) x t).work.handed.value ≡ said t
  unfolding reply table_refusals
  said_fed x t = refl

  said_idle : (t : Table) → said (all_idle t) ≡ said t
  unfolding reply table_refusals table_work is_present is_held frames_of all_idle
  said_idle t = elim (test (eqb (refusal (table_refusals (query (has reel f)) nothing t)) 0)) [ inl e ↦ rw (e, said) | inr e ↦ rw (e, said) ]

  -- a book that agrees with it says the same
  said_alike : Words (reel ∷ f ∷ []) → {s : State} {t : Table} → Agrees s t → (perform (query (has reel f)) s).work.handed.value ≡ said t
  said_alike w {s} {t} a =
      (alike a (query (has reel f)) (words_fit (reel ∷ f ∷ []) w)).value ∙ said_fed (fed (perform (query (has reel f)) s).answer) t

-- a commit of head h that Has tells: 0 before, 1 after
pub record Tells (s : State) (h reel f : ℕ) : Type 0 where
  pub words : Words (reel ∷ f ∷ [])
  pub head : Words (h ∷ [])
  pub absent : (perform (query (has reel f)) s).work.handed.value ≡ 0
  pub present : (perform (query (has reel f)) (done (commit 50 h) s)).work.handed.value ≡ 1

module _ (kept : Demand3 plain) {s : State} {h reel f : ℕ} (tells : Tells s h reel f) (t : Table) (follows : Follows plain s t) where
  abbrev then : Table
  then = (replied (commit 50 h) s t).work.after

  said_before : said reel f t ≡ 0
  said_before = sym (said_alike reel f tells.words (kept s t follows).agrees) ∙ tells.absent

  said_after : said reel f then ≡ 1
  said_after =
      let g : Follows plain (done (commit 50 h) s) then = performed follows (commit 50 h) (words_fit (h ∷ []) tells.head) in
      sym (said_alike reel f tells.words (kept (done (commit 50 h) s) then g).agrees) ∙ tells.present

  -- no book agrees with both tables
  pub told_apart : (s' : State) → Agrees s' (all_idle t) → Agrees s' (all_idle then) → ⊥
  told_apart s' a b =
      omega (arith, said_before, said_after, said_alike reel f tells.words a ∙ said_idle reel f t, said_alike reel f tells.words b ∙ said_idle reel f then)
