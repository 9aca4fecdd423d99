use Rattle.std.proofs.Common.{rules, arith, refl, ◌+◌, ◌*◌, ◌≤◌, length}
use Rattle.tree.proofs.Pool.{pool_laws}
use Rattle.pool.proofs.pool_map.UsedNodesIterator.next.Goals as goal

pub overflow_add-self : goal.overflow_add-self
overflow_add-self c =
    let t = pool_laws.next_tells _ _ _ _ c.next_used-n.ensures (search rules) in
    record { fits = omega (arith, t.within) }

pub returns-clause-steps : goal.returns-clause-steps
returns-clause-steps c =
    let t = pool_laws.next_tells _ _ _ _ c.next_used-n.ensures (search rules) in
    (refl, refl, (c.next_used-n.ensures, omega (arith, t.within), refl))

pub returns-clause-goes : goal.returns-clause-goes
returns-clause-goes c =
    let s = c.args.self.now in
    let n = c.next_used-n.result in
    let t = pool_laws.next_tells _ _ _ _ c.next_used-n.ensures (search rules) in
    let can : (n + 1 ≤ s.nodes) × (s.nodes ≤ 64 * length s.pool.now) × (s.nodes ≤ 65536) = (omega (arith, t.within), c.requires.1, c.requires.2) in
    record { on = λ _. (can, tt, omega (arith, t.within, t.none_before.onward)); keeps = can; rests = λ _. tt }
