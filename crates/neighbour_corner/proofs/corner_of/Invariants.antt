-- `neighbour_corner::corner_of` goes down: the leaf at the corner of p is that of the node it began with, and `its` is
-- p's level. The measure is what is left above p, since sons stand above their fathers.
use mathlib.Core.Path.{◌≡◌}
use Prim.Native.Nat.{◌-◌, ◌<◌}
use Rattle.table.specs.Table.{nodes}
use Rattle.table.specs.Nodes.{level_of}
use Rattle.neighbour.specs.Search.{corner_under}
use Rattle.neighbour_corner.proofs.corner_of.Given as goal

abbrev pub invariant-loop-table : goal.invariant-loop-table
invariant-loop-table l =
    (l.p < nodes l.table) × (l.its ≡ level_of l.sheet.n l.table l.p) × (corner_under l.sheet.n l.table l.quadrant l.p ≡ corner_under l.sheet.n l.table l.quadrant l.node)

abbrev pub decreases-loop-table : goal.decreases-loop-table
decreases-loop-table l = nodes l.table - l.p
