-- `ponds_labels::fork`: the first quadrants have been gone through. The measure is the level.
use Rattle.ponds_leaf.proofs.ForkLaws.{Firsts}
use Rattle.ponds_labels.proofs.+fork.Given as goal

abbrev pub decreases-fork : goal.decreases-fork
decreases-fork l = l.level

abbrev pub invariant-loop-q : goal.invariant-loop-q
invariant-loop-q l = Firsts l.table l.initial.words l.initial.lines l.p l.x l.y l.level l.side l.half l.q l.words l.lines l.leaders
