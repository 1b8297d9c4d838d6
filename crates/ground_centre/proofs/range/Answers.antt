-- `ground_centre::range`: east, north and step tested in that order; the literals are the numbers of the definitions.
--
use Rattle.ground_centre.proofs.GroundLaws.{range_east, range_north, range_step, range_all}
use borrow.Author.Rules.{rules}
use Rattle.ground_centre.proofs.range.Goals as goal

pub returns-then-not-in_range : goal.returns-then-not-in_range
returns-then-not-in_range c = search (range_east, rules)

pub returns-then-not-in_range-2 : goal.returns-then-not-in_range-2
returns-then-not-in_range-2 c = search (range_north, rules)

pub returns-then-not-in_range-3 : goal.returns-then-not-in_range-3
returns-then-not-in_range-3 c = search (range_step, rules)

pub returns : goal.returns
returns c = search (range_all, rules)
