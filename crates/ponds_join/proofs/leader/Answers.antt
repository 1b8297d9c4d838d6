use borrow.Author.Rules.{rules}
use Rattle.ponds_join.proofs.JoinLaws.{asked_within, way_start, way_within, way_on, way_ends}
use Rattle.ponds_join.proofs.WayLaws.{way_fewer}
use Rattle.ponds_join.proofs.leader.Goals as goal

pub bounds-words-q-in-loop-word : goal.bounds-words-q-in-loop-word
bounds-words-q-in-loop-word c = search (way_within, rules)

pub loop-word-smaller : goal.loop-word-smaller
loop-word-smaller c = search (way_fewer, rules)

pub loop-word-preserved : goal.loop-word-preserved
loop-word-preserved c = search (way_on, rules)

pub returns : goal.returns
returns c = search (way_ends, rules)
