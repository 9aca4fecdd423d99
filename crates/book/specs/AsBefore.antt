-- Before and since two heads may be on a reel: where Claim was answered before, answer and script are the same. A statement alone,
-- over any state.
use Rattle.std.specs.Prelude.{◌≡◌, not, ◌≢◌, List, [], ◌∷◌, ℕ}
use Rattle.tree.specs.Memory.{reads, is_some}
use Rattle.tree.specs.Test.{is, lt, le, ◌and◌, ◌or◌}
use Rattle.tree.specs.Fingerprint.{rule_of}
use Rattle.tree.specs.Slots.{slot_of}
use Rattle.tree.specs.declared.path.Room.{Room}
use Rattle.tree.specs.Lookup.{path_from, find, free_run}
use Rattle.tree.specs.Room.{room_on, needs, at_level31}
use Rattle.tree.specs.Pool.{mark_all}
use Rattle.book.specs.declared.HeadState.TheVariants.{Claimed}
use Rattle.book.specs.Heads.{head_count, head_at, is_idle, with_head, busy}
use Rattle.book.specs.Refusals.{Refusal, ◌gives◌, refusal}
use Rattle.book.specs.State.{State, claim, memory, shape, Work}
use Rattle.book.specs.Checks.{bad_map, bad_script, checked, no_path, place_in}
use Rattle.book.specs.Perform.{claim_script, taken, writing, perform}

module _ (s : State) (map script h reel f : ℕ) where
  abbrev pub slot : ℕ
  slot = slot_of (shape s) (memory s) reel

  abbrev pub room : Room
  room = room_on (shape s) (memory s) (path_from (shape s) (memory s) slot f)

  -- Claim's refusals as they were: 13 for any open claim on the reel, just after 5 (4 for a bad table, in `checked`, is newer)
  unfoldable pub refusals_before : List Refusal
  refusals_before =
      checked s.image (bad_map (shape s) map or bad_script script)
      ((le head_count h gives 11)
      ∷ (is (not (is_idle (head_at s.heads h))) gives 12)
      ∷ (le (shape s).slots slot gives 5)
      ∷ (is (busy s.heads slot) gives 13)
      ∷ (no_path (path_from (shape s) (memory s) slot f) or is (at_level31 room) gives 4)
      ∷ (is (is_some (find (rule_of (memory s)) (shape s) (memory s) slot f)) gives 9)
      ∷ (lt 0 (needs room) and le (shape s).nodes (free_run (shape s) (reads s.pool) (needs room)) gives 8)
      ∷ [])

  -- what an answered one did
  abbrev pub work_before : Work
  work_before =
      let start = free_run (shape s) (reads s.pool) (needs room) in
      let t = place_in room start f in
      writing (claim_script (shape s) (memory s) room start f) (record {
        image = s.image;
        pool = mark_all s.pool (taken room start);
        heads = with_head s.heads h (Claimed (record { slot = slot; node = t.node; place = t.place; frame = f }));
      })

-- where it was not 13, the answer is the same; and an answered one does the same
pub record ClaimAsBefore : Type 0 where
  pub answer : (s : State) (map script h reel f : ℕ) → refusal (refusals_before s map script h reel f) ≢ 13
      → (perform (claim map script h reel f) s).answer ≡ refusal (refusals_before s map script h reel f)
  pub same : (s : State) (map script h reel f : ℕ) → refusal (refusals_before s map script h reel f) ≡ 0
      → (perform (claim map script h reel f) s).work ≡ work_before s map script h reel f
