-- `ponds_queues::stand_fork`: the last sons are gone through. The measure is the fork's level.
use Rattle.ponds_queues.proofs.SonLaws.{Sons}
use Rattle.ponds_queues.proofs.+stand_fork.Given as goal

abbrev pub decreases-stand_fork : goal.decreases-stand_fork
decreases-stand_fork l = l.level

abbrev pub invariant-loop-q : goal.invariant-loop-q
invariant-loop-q l = Sons l.table l.initial.words l.initial.rows l.p l.level l.y l.q l.words l.rows
