-- `neighbour_find::neighbour`: the tests in their order, then the search from the node's own level.
use mathlib.Core.Path.{◌≡◌, ap, ◌∙◌}
use native.Mathlib.Omega.{arith}
use Rattle.answer.proofs.OutcomeLaws.{thens}
use Rattle.table.proofs.CheckLaws.{asked_ok}
use Rattle.neighbour.specs.Neighbour.{neighbour_found, outcome_of, neighbour_of}
use Rattle.neighbour_find.proofs.CallLaws.{bounds}
use Rattle.neighbour.proofs.FoundLaws.{neighbour_small}
use borrow.Author.Rules.{rules}
use Rattle.neighbour_find.proofs.neighbour.Goals as goal

pub returns-in_err-asked : goal.returns-in_err-asked
unfolding neighbour_of
returns-in_err-asked c = search (thens, bounds, rules)

pub returns-then-direction-gt7 : goal.returns-then-direction-gt7
unfolding neighbour_of
returns-then-direction-gt7 c = search (thens, bounds, rules)

pub level_of-level-requires : goal.level_of-level-requires
level_of-level-requires c = (asked_ok _ _ _ _ c.in_ok-asked.ensures).node

pub invariant_of-sheet : goal.invariant_of-sheet
invariant_of-sheet c = search (asked_ok, rules)

pub find-requires : goal.find-requires
find-requires c =
    let k = asked_ok _ _ _ _ c.in_ok-asked.ensures in
    (k.node, c.level_of-level.ensures, omega arith)

pub outcome-requires : goal.outcome-requires
outcome-requires c =
    let k = asked_ok _ _ _ _ c.in_ok-asked.ensures in
    rw c.find.ensures (neighbour_small _ _ k.accepted _ _)

pub returns : goal.returns
unfolding neighbour_of
returns c =
    let s = c.args in
    let e : c.outcome.result ≡ outcome_of (neighbour_found s.n s.table.now s.node s.direction) = c.outcome.ensures ∙ ap outcome_of c.find.ensures in
    search (thens, bounds, e, rules)
