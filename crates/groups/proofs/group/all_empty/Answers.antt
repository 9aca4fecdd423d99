use Rattle.std.proofs.Common.{rules, tests, arith, ◌+◌, refl}
use Rattle.std.proofs.lemmas.Iterator.{YieldsList-from_range}
use Rattle.std.proofs.lemmas.Iterator.Search.{all_from_yields_List}
use Rattle.memory.specs.Words.{reads}
use Rattle.tree.specs.Groups.{is_empty}
use Rattle.groups.proofs.Searches.{all_tested}
use Rattle.groups.proofs.group.all_empty.Goals as goal

pub returns : goal.returns
returns c =
    let a = c.args in
    all_tested a.g (reads a.image.now) a.start a.count
    (all_from_yields_List (λ k. is_empty a.g (reads a.image.now) (a.start + k)) _ _ c.all.result c.all.ensures.ran
    (YieldsList-from_range 0 a.count a.count refl (omega arith)) (λ x b q k. (search (rules, tests), search (rules, tests))))
