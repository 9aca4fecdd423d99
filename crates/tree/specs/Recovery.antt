-- What recovery writes.
use Rattle.std.specs.Prelude.{not, List, map, eqb}
use Rattle.memory.specs.Words.{Memory}
use Rattle.memory.specs.Script.{Store}
use Rattle.tree.specs.Lists.{keep}
use Rattle.tree.specs.declared.layout.Geometry.{Geometry}
use Rattle.tree.specs.Layout.{locate_at, set_at}
use Rattle.tree.specs.Subtree.{all_trees}

-- Recover: every differing locate word of a reached node becomes its set word
unfoldable pub recover_stores : Geometry → Memory → List Store
recover_stores g m =
    map (λ v. (locate_at g v.node, m (set_at g v.node)))
    (keep (λ v. not (eqb (m (locate_at g v.node)) (m (set_at g v.node)))) (all_trees g m))
