use Rattle.tree.specs.Layout.{map_words}
use lib.ListN.{length}
use mathlib.Core.Path.{refl, sym, ◌∙◌}
use Rattle.memory.specs.Words.{reads as readsWords}
use Rattle.visits.proofs.Kept.{cleared}
use Rattle.visits.proofs.Checked.{unsound, sound}
use Rattle.walks.proofs.Checked.{freed}
use borrow.Author.Rules.{rules}
use Rattle.walks.proofs.trees.free_tree.Statement.{statement}
use Rattle.walks.proofs.trees.free_tree.Tie as tie

returns : tie.Need-returns-then-not-check_tree
returns c =
    let tested = c.before.before.before.before in
    let check = tested.check_tree in
    let start = tested.before.before.before.before.before.before.before.before in
    let a = start.args in
    let not_sound = unsound a.g (readsWords a.image.now) a.slot check.result _ check.ensures tested.if-not-check_tree.true-raw in
    (sym not_sound, rw not_sound refl, cleared (length check.new.scratch) (map_words a.g) _ c.clear_map.ensures (search rules))

returns_2 : tie.Need-returns
returns_2 c =
    let check = c.check_tree in
    let a = c.args in
    let is_sound_lem = sound a.g (readsWords a.image.now) a.slot check.result _ check.ensures c.if-not-check_tree.false-raw in
    let gone = freed a.g (readsWords a.image.now) a.slot check.result _ check.ensures c.if-not-check_tree.false-raw a.pool.now c.requires.2 (λ i. (c.slice_known-1.given i).fits) in
    (sym is_sound_lem, rw is_sound_lem (c.take_out.ensures ∙ gone), cleared (length check.new.scratch) (map_words a.g) _ c.clear_map-2.ensures (search rules))

pub free_tree_spec : {M : Type 1} → statement M
free_tree_spec =
    tie.close
    (tie.spec
    (λ c κs. search rules)
    (λ c κs. search rules)
    (λ c. search rules)
    returns
    (λ c κs. search rules)
    (λ c κs. search rules)
    (λ c. search rules)
    (λ c. search rules)
    returns_2)
