-- `ground_centre::centre`: the refusals in their order, then two stores; nothing is written before the last test.
use Rattle.ground_centre.proofs.CentreLaws.{centre_asked, centre_range, centre_room, centre_put}
use Rattle.table.proofs.CheckLaws.{asked_ok}
use native.Mathlib.Omega.{arith}
use borrow.Author.Rules.{rules}
use Rattle.ground_centre.proofs.centre.Goals as goal

pub returns-in_err-asked : goal.returns-in_err-asked
returns-in_err-asked c = centre_asked _ _ _ _ _ _ _ c.from_residual.ensures c.in_err-asked.ensures

pub returns-in_err-range : goal.returns-in_err-range
returns-in_err-range c = centre_range _ _ _ _ _ _ c.in_ok-asked.ensures _ _ c.from_residual-in_err-range.ensures c.in_err-range.ensures

pub returns-then-place-lt2 : goal.returns-then-place-lt2
returns-then-place-lt2 c = centre_room _ _ _ _ _ _ c.in_ok-asked.ensures _ c.in_ok-range.ensures c.if-place-lt2.true

pub middle_of-middle-requires : goal.middle_of-middle-requires
middle_of-middle-requires c = (asked_ok _ _ _ _ c.in_ok-asked.ensures).node

pub invariant_of-sheet : goal.invariant_of-sheet
invariant_of-sheet c = search (asked_ok, rules)

pub returns : goal.returns
returns c = centre_put _ _ _ _ _ _ c.in_ok-asked.ensures _ c.in_ok-range.ensures _ _ _ (omega arith) c.middle_of-middle.ensures c.east_of.ensures c.north_of.ensures
