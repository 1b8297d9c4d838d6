-- `neighbour_corner::diagonal_leaf`: the tests in their order, then the leaf beyond the corner in its own diagonal.
--
use mathlib.Core.Path.{ap, ◌∙◌}
use native.Mathlib.Omega.{arith}
use Rattle.answer.proofs.OutcomeLaws.{thens}
use Rattle.table.proofs.CheckLaws.{asked_ok}
use Rattle.neighbour.specs.Neighbour.{outcome_of, diagonal_leaf_of}
use Rattle.neighbour_find.proofs.CallLaws.{bounds}
use Rattle.neighbour.proofs.CornerLaws.{diagonal_on}
use Rattle.neighbour.proofs.FoundLaws.{beside_small}
use borrow.Author.Rules.{rules}
use Rattle.neighbour_corner.proofs.diagonal_leaf.Goals as goal

pub returns-in_err-asked : goal.returns-in_err-asked
unfolding diagonal_leaf_of
returns-in_err-asked c = search (thens, bounds, rules)

pub returns-then-corner-gt3 : goal.returns-then-corner-gt3
unfolding diagonal_leaf_of
returns-then-corner-gt3 c = search (thens, bounds, rules)

pub invariant_of-sheet : goal.invariant_of-sheet
invariant_of-sheet c = search (asked_ok, rules)

pub leaf_beyond-requires : goal.leaf_beyond-requires
leaf_beyond-requires c =
    let s = c.args in
    let k = asked_ok _ _ _ _ c.in_ok-asked.ensures in
    record { accepted = k.accepted; node = k.node; way = omega arith; corner = omega arith; on = diagonal_on s.corner (omega arith) }

pub outcome-requires : goal.outcome-requires
outcome-requires c =
    let k = asked_ok _ _ _ _ c.in_ok-asked.ensures in
    rw c.leaf_beyond.ensures (beside_small _ _ k.accepted _ _ _ _)

pub returns : goal.returns
unfolding diagonal_leaf_of
returns c =
    let e = c.outcome.ensures ∙ ap outcome_of c.leaf_beyond.ensures in
    search (thens, bounds, e, rules)
