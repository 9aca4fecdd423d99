use Rattle.std.proofs.Common.{◌≡◌, refl, ap, ◌∙◌, ℕ, arith, rules}
use Rattle.tree.specs.Memory.{written}
use Rattle.rooms.proofs.ClaimingScripts.{new_nodes, nodes_none, nodes_more}
use Rattle.rooms.proofs.room_script.put_nodes.Goals as goal

pub loop-i-init : goal.loop-i-init
loop-i-init c = (refl, nodes_none c.args.g c.args.level c.args.start c.args.script.now)

pub loop-i-preserved : goal.loop-i-preserved
loop-i-preserved c =
    let a = c.args in
    let l = c.loop-i in
    (search rules, nodes_more a.g a.level a.start l.i a.script.now l.script c.put_node.new.script l.invariant.1 c.put_node.ensures)

pub returns : goal.returns
returns c =
    let a = c.args in
    let e : c.loop-i.i ≡ a.count = omega arith in
    c.loop-i.invariant.1 ∙ ap (λ (i : ℕ). written (new_nodes a.g a.level a.start i) a.script.now) e
