-- Where an answered claim's frame sits.
use mathlib.Core.Path.{◌≡◌, refl, ◌∙◌}
use mathlib.Core.List.{[], ◌∷◌}
use Prim.Native.Nat.{ℕ, ◌+◌, ◌*◌, ◌≤◌}
use native.Mathlib.Omega.{arith}
use lib.ListN.{length}
use Rattle.tree.specs.Memory.{Fit}
use Rattle.book.specs.declared.HeadState.TheVariants.{Claimed}
use Rattle.book.specs.State.{State, claim}
use Rattle.book.specs.Checks.{place_in}
use Rattle.book.specs.Perform.{perform}
use Rattle.book.specs.Table.{Table}
use Rattle.book.specs.Agrees.{Agrees}
use Rattle.book.specs.Demands.{ClaimPlaced}
use Rattle.book.proofs.Performed.{work_granted}
use Rattle.book.proofs.Heads.{head_written}
use Rattle.book.proofs.Claiming.{target_at}
use Rattle.book.proofs.StepClaim.{slot_in, room_in, start_in, work_of, asked_now, work_is, claim_step}

pub claim_placed : {s : State} {t : Table} → Agrees s t → (words script h reel f : ℕ) → Fit (h ∷ reel ∷ f ∷ [])
    → (perform (claim words script h reel f) s).answer ≡ 0 → ClaimPlaced (claim words script h reel f) s h reel f
claim_placed {s} a words script h reel f fits answered =
    let r = room_in s reel f in
    let place = place_in r (start_in s r) f in
    let target = target_at (slot_in s reel) place.node place.place f in
    let b = asked_now a words script h reel f (fits 2) answered in
    let is : (perform (claim words script h reel f) s).work ≡ work_of s h f (slot_in s reel) r (start_in s r) =
    work_granted (claim words script h reel f) s answered ∙ work_is s words script h reel f in
    let inside : 5 * h + 5 ≤ length s.heads = omega (arith, b.low, a.head_words) in
    record {
      target = target;
      claimed = rw is (head_written s.heads h (Claimed target) inside);
      of_frame = refl;
      of_reel = b.has;
      takes = rw is (claim_step a words script h reel f (fits 2) answered).takes;
    }
