-- `table_order::in_order`: son by son, each behind all that is seen from its brother; a son that is a fork of four
-- pixels ends at the fifth node. The measure is the level.
use Rattle.table_order.proofs.OrderLaws.{Passing}
use Rattle.table_order.proofs.+in_order.Given as goal

abbrev pub decreases-in_order : goal.decreases-in_order
decreases-in_order l = l.level

abbrev pub invariant-loop-q : goal.invariant-loop-q
invariant-loop-q l = Passing l.table l.level l.p l.q l.next
