-- `table_node::block_of` climbs: the digits passed and those of q's block are p's column and row (`Climbed`). The
-- measure is q, since fathers stand below sons.
use Rattle.table.proofs.BlockLaws.{Climbed}
use Rattle.table_node.proofs.block_of.Given as goal

abbrev pub invariant-loop-q : goal.invariant-loop-q
invariant-loop-q l = Climbed l.sheet.n l.table l.p l.q l.unit l.column l.row l.level

abbrev pub decreases-loop-q : goal.decreases-loop-q
decreases-loop-q l = l.q
