-- `rows::print_rows`: the invariant is a walk under way with its links tallied, the measure the steps left to it.
use Rattle.walk_rows.proofs.TallyLaws.{UnderWay, steps_left}
use Rattle.rows.proofs.print_rows.Given as goal

abbrev pub invariant-loop-out : goal.invariant-loop-out
invariant-loop-out g l = UnderWay l.level l.table l.place l.links

abbrev pub decreases-loop-out : goal.decreases-loop-out
decreases-loop-out g l = steps_left l.level l.table l.place
