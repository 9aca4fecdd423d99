use Rattle.std.proofs.Common.{[], ◌∷◌, ◌++◌, sym, ◌∙◌, ap}
use Rattle.tree.proofs.Nodes.{well_formed_facts, size_most}
use Rattle.paths.specs.Descent.{left_of}
use Rattle.paths.proofs.PathSteps.{node_inside, along_start, along_malformed, along_end, along_down, lookups, clears, found_more, found_none}
use Rattle.paths.proofs.ClearSteps.{none_told}
use Rattle.paths.proofs.Trails.{trail_malformed, trail_end}
use Rattle.paths.proofs.descent.walk.Goals as goal

pub loop-g-init : goal.loop-g-init
loop-g-init c = ([], along_start _ _ _ _ _ c.requires.1, found_none (lookups _ _ _), found_none (clears _ _ _), none_told _ _)

pub returns-then-not-well_formed : goal.returns-then-not-well_formed
returns-then-not-well_formed c =
    trail_malformed _ _ _ _ _ _ (along_malformed c.loop-g.invariant.1 c.well_formed-in-loop-g.ensures c.if-not-well_formed.true)

-- past the test the node is well formed
pub found_on-found-requires : goal.found_on-found-requires
found_on-found-requires c =
    let formed = sym c.well_formed-in-loop-g.ensures ∙ c.if-not-well_formed.false in
    (c.requires.0, node_inside _ _ _ _ formed, c.requires.2)

pub clear_on-clear-requires : goal.clear_on-clear-requires
clear_on-clear-requires c =
    let formed = sym c.well_formed-in-loop-g.ensures ∙ c.if-not-well_formed.false in
    let facts = (well_formed_facts _ _ _ _).0 formed in
    (c.requires.0, facts.inside, size_most facts, facts.locate, c.loop-g.invariant.4)

pub returns-in_default : goal.returns-in_default
returns-in_default c =
    let l = c.loop-g in
    let formed = sym c.well_formed-in-loop-g.ensures ∙ c.if-not-well_formed.false in
    trail_end _ l.invariant.1
    (along_end l.invariant.1 formed c.step_from.ensures c.in_default.is)
    (c.seen_by.ensures ∙ found_more (lookups _ _ _) _ _ l.invariant.2 c.found_on-found.ensures)
    (c.seen_by-in_default.ensures ∙ found_more (clears _ _ _) _ _ l.invariant.3 c.clear_on-clear.ensures.0)
    (c.clear_on-clear.ensures.1 ∙ ap (left_of _ _) (sym c.seen_by-in_default.ensures))

pub loop-g-preserved : goal.loop-g-preserved
loop-g-preserved c =
    let l = c.loop-g in
    let formed = sym c.well_formed-in-loop-g.ensures ∙ c.if-not-well_formed.false in (
      l.invariant.0 ++ l.n ∷ [],
      along_down l.invariant.1 formed c.step_from.ensures c.in-Some.is,
      found_more (lookups _ _ _) _ _ l.invariant.2 c.found_on-found.ensures,
      found_more (clears _ _ _) _ _ l.invariant.3 c.clear_on-clear.ensures.0,
      c.clear_on-clear.ensures.1,
    )
