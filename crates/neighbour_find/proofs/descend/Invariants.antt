-- `neighbour_find::descend`: the node holds the block that the moves so far lead to. The measure is the moves left.
--
use Prim.Native.Nat.{◌-◌}
use Rattle.table.specs.Nodes.{path_to}
use Rattle.neighbour.specs.Search.{block, inward}
use Rattle.neighbour_find.proofs.ClimbLaws.{Under}
use Rattle.neighbour_find.proofs.descend.Given as goal

abbrev pub invariant-loop-its : goal.invariant-loop-its
invariant-loop-its l =
    Under l.sheet.n l.table (inward (l.initial.its - l.level) l.initial.moves (block (path_to l.table l.sheet.n l.initial.node))) l.level l.node l.its l.moves

abbrev pub decreases-loop-its : goal.decreases-loop-its
decreases-loop-its l = l.its - l.level
