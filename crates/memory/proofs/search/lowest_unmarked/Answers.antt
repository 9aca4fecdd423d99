use Rattle.std.proofs.Common.{◌≡◌, ◌+◌, ◌*◌, ◌/◌, ◌≤◌, ◌<◌, arith, ap, ◌∙◌, get_or, take, get_or-take, length-take}
use Rattle.memory.specs.Words.{reads}
use Rattle.memory.specs.Search.{first}
use Rattle.memory.proofs.First.{first_laws}
use Rattle.memory.proofs.Bitmap.{clear_in, Passed, pass_word}
use Rattle.memory.proofs.search.lowest_unmarked.Goals as goal
use Rattle.memory.proofs.search.lowest_unmarked.Goals.{After-lowest_clear-clear}

-- what is known once word k has been searched
passed : (c : After-lowest_clear-clear) → Passed (reads c.args.bitmap.now) (64 * c.loop-k.k) c.lowest_clear-clear.result
passed c =
    let k = c.loop-k.k in
    let words = c.args.bitmap.now in
    let here : 64 * k / 64 ≡ k = omega arith in
    let below : k < c.div_ceil.result = omega (arith, c.loop-k-test.true, length-take c.div_ceil.result words) in
    let word : get_or (take c.div_ceil.result words) k 0 ≡ get_or words (64 * k / 64) 0 = rw here (get_or-take c.div_ceil.result words k 0 below) in
    pass_word _ _ _ (omega arith) (c.lowest_clear-clear.ensures ∙ ap (λ w. first (clear_in w) 64) word) c.loop-k.invariant

pub returns-then-clear-lt64 : goal.returns-then-clear-lt64
returns-then-clear-lt64 c =
    let s = passed (goal.at.returns-then-clear-lt64 c).After-lowest_clear-clear in
    let m = c.min.ensures in
    (first_laws _ _).stops _ (omega arith) (λ j l. s.none_before j (omega arith))
    (λ l. let q : c.min.result ≡ 64 * c.loop-k.k + c.lowest_clear-clear.result = omega arith in rw q (s.hit (omega arith)))

pub loop-k-preserved : goal.loop-k-preserved
loop-k-preserved c =
    let s = passed (goal.at.loop-k-preserved c).After-lowest_clear-clear in
    λ j l. s.none_before j (omega arith)

pub returns : goal.returns
returns c =
    let end : c.args.n ≤ 64 * c.loop-k.k = omega (arith, c.requires, length-take c.div_ceil.result c.args.bitmap.now, c.div_ceil.ensures) in
    (first_laws _ _).stops _ (omega arith) (λ j l. c.loop-k.invariant j (omega arith)) (λ l. absurd (omega arith))
