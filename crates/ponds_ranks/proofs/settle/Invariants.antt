-- `ponds_ranks::settle`: the words before p are settled.
use Rattle.ponds_queues.proofs.WordLaws.{Settling}
use Rattle.ponds_ranks.proofs.settle.Given as goal

abbrev pub invariant-loop-p : goal.invariant-loop-p
invariant-loop-p l = Settling l.initial.words l.words l.p
