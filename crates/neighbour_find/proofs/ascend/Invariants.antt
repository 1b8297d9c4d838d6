-- `neighbour_find::ascend`: what is left to go from the node, then the moves so far, lead where the direction leads
-- from p. The measure is the node, which falls with each father link.
use mathlib.Core.Path.{◌≡◌}
use Rattle.neighbour.specs.Search.{way_to, direction_of, Climbed}
use Rattle.neighbour_find.proofs.ascend.Given as goal

abbrev pub invariant-loop-way : goal.invariant-loop-way
invariant-loop-way l = (l.way ≡ way_to (direction_of l.way)) × Climbed l.sheet.n l.table l.p l.level l.direction l.node l.above (direction_of l.way) l.moves

abbrev pub decreases-loop-way : goal.decreases-loop-way
decreases-loop-way l = l.node
