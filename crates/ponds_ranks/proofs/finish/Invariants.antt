-- `ponds_ranks::finish`: the mark is taken off the words before this one.
use Rattle.ponds_queues.proofs.WordLaws.{Writing}
use Rattle.ponds_ranks.proofs.finish.Given as goal

abbrev pub invariant-loop-word : goal.invariant-loop-word
invariant-loop-word l = Writing l.initial.words l.words l.word-index
