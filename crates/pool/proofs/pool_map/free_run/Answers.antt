use native.Mathlib.Decide.{dec_lt}
use borrow.Author.Count.{below_more}
use Rattle.std.proofs.Common.{rules, ◌≡◌, ◌+◌, ◌-◌, ◌*◌, ◌∙◌, sym, arith, true, get_or-take}
use Rattle.memory.specs.Words.{reads, marked}
use Rattle.pool.proofs.PoolLoops.{word_full, run_used, run_found, run_missing, none_outside}
use Rattle.pool.proofs.pool_map.free_run.Goals as goal

pub loop-i-preserved-then-word : goal.loop-i-preserved-then-word
loop-i-preserved-then-word c = word_full _ _ _ c.loop-i.i (search rules) (sym (get_or-take _ c.args.pool.now c.loop-i.i 0 (search rules)) ∙ c.if-word.true) c.loop-i.invariant

-- past s, from which a run would have a node that is used
pub search-preserved : goal.search-preserved
search-preserved c =
    let s = c.search.s in
    let n = c.loop-n.n in
    let q : s + (n - s) ≡ n = search rules in
    let u : marked (reads c.args.pool.now) (s + (n - s)) ≡ true = rw q (sym c.is_used.ensures ∙ c.if-is_used.true) in
    below_more _ _ c.search.invariant (run_used _ _ c.args.k s (n - s) (search rules) u)

pub returns-in-search : goal.returns-in-search
returns-in-search c = run_found _ _ _ c.search.s (search rules) c.search.invariant (λ i b. c.loop-n.invariant (c.search.s + i) (omega arith) (search rules))

-- a word is through, or what is left of it is too near to the pool's end
pub loop-i-preserved : goal.loop-i-preserved
loop-i-preserved c =
    let s = c.search.s in
    elim (dec_lt c.args.g.nodes (s + c.args.k)) [
      | yes o ↦ none_outside _ _ _ s _ o c.search.invariant
      | no h ↦ λ j b. c.search.invariant j (search rules)
    ]

pub returns : goal.returns
returns c = run_missing c.args.g _ c.args.k (64 * c.loop-i.i) (search rules) c.loop-i.invariant
