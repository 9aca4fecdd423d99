use Rattle.std.proofs.Common.{◌≡◌, [], sym, length, rules}
use Rattle.operations.specs.HeadLists.{heads_after}
use Rattle.operations.specs.Ends.{buffers, state}
use Rattle.operations.proofs.HandedOver.{OfHead}
use Rattle.claims.specs.Answers.{head_done}
use Rattle.reelbook.proofs.Ended.{head_inside}
use Rattle.reelbook.proofs.reelbook_claim.Goals as goal

pub hand_over_head-requires : goal.hand_over_head-requires
hand_over_head-requires c =
    let a = c.args in
    let done = head_done c.claim-claimed.result in
    let e : c.map-answer.result ≡ done = search (rules, c.map-answer.ensures) in
    rw e
    (head_inside (OfHead.claims {map = length a.map.now} {script = length a.script.now} {reel = a.reel} {f = a.frame})
    (state a.image.now a.map.now a.heads.now) (buffers [] a.script.now []) done
    {s' = state a.image.now c.claim-claimed.new.pool (heads_after a.heads.now a.head done)}
    (c.claim-claimed.ensures a.heads.now (sym c.read_heads.ensures)))
