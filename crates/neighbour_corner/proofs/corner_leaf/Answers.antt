-- `neighbour_corner::corner_leaf`: the tests in their order, then the leaf beyond the corner in the side's direction.
--
use Rattle.base.proofs.BoolLaws.{on}
use mathlib.Core.Path.{ap, ◌∙◌}
use native.Mathlib.Omega.{arith}
use Rattle.answer.proofs.OutcomeLaws.{thens, then_ok}
use Rattle.table.proofs.CheckLaws.{asked_ok}
use Rattle.neighbour.specs.Neighbour.{outcome_of, corner_leaf_of}
use Rattle.neighbour_find.proofs.CallLaws.{bounds, good_within, good_joined}
use Rattle.neighbour.proofs.CornerLaws.{side_on}
use Rattle.neighbour.proofs.FoundLaws.{beside_small}
use borrow.Author.Rules.{rules}
use mathlib.Core.Bool.{not}
use Rattle.neighbour_corner.proofs.corner_leaf.Goals as goal

pub returns-in_err-asked : goal.returns-in_err-asked
unfolding corner_leaf_of
returns-in_err-asked c = search (thens, bounds, rules)

pub returns-then-side-gt3 : goal.returns-then-side-gt3
unfolding corner_leaf_of
returns-then-side-gt3 c = search (thens, bounds, rules)

pub returns-then-corner-gt3 : goal.returns-then-corner-gt3
unfolding corner_leaf_of
returns-then-corner-gt3 c = search (thens, bounds, rules)

pub returns-then-not-adj : goal.returns-then-not-adj
unfolding corner_leaf_of
returns-then-not-adj c = search (thens, bounds, rules)

pub invariant_of-sheet : goal.invariant_of-sheet
invariant_of-sheet c = search (asked_ok, rules)

pub leaf_beyond-requires : goal.leaf_beyond-requires
leaf_beyond-requires c =
    let s = c.args in
    let k = asked_ok _ _ _ _ c.in_ok-asked.ensures in
    record { accepted = k.accepted; node = k.node; way = omega arith; corner = omega arith; on = side_on s.side s.corner (omega arith) (on _ _ c.adj.ensures (ap not c.if-not-adj.false)) }

pub outcome-requires : goal.outcome-requires
outcome-requires c =
    let k = asked_ok _ _ _ _ c.in_ok-asked.ensures in
    rw c.leaf_beyond.ensures (beside_small _ _ k.accepted _ _ _ _)

pub returns : goal.returns
unfolding corner_leaf_of
returns c =
    let t = c in
    let s = t.args in
    then_ok _ _ _ _ t.in_ok-asked.ensures
    (good_within 3 s.side _ _ (omega arith)
    (good_within 3 s.corner _ _ (omega arith)
    (good_joined _ _ _ _ t.adj.ensures _ (ap not t.if-not-adj.false) (c.outcome.ensures ∙ ap outcome_of c.leaf_beyond.ensures))))
