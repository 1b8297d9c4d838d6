-- `table_node::level_of`: the depth is at most n.
use native.Mathlib.Omega.{arith}
use Rattle.table.proofs.AcceptedLaws.{rising, depth_le}
use Rattle.table_node.proofs.level_of.Goals as goal

pub depth_to-requires : goal.depth_to-requires
depth_to-requires c = (c.requires, rising _ _ c.args.sheet.now.accepted _ c.requires)

pub overflow_sub-result : goal.overflow_sub-result
overflow_sub-result c = let s = c.args.sheet.now in omega (arith, c.depth_to.ensures, depth_le s.table.now s.n c.args.p)
