-- `ponds_join::join`: two leaders, and the one that begins later put under the other.
use borrow.Author.Rules.{rules}
use Rattle.ponds_join.proofs.JoinLaws.{second_asking, one_already, first_within, second_within, first_under, second_under}
use Rattle.ponds_join.proofs.join.Goals as goal

pub root-b-requires : goal.root-b-requires
root-b-requires c = search (second_asking, rules)

pub returns-then-a-b : goal.returns-then-a-b
returns-then-a-b c = search (one_already, rules)

pub bounds-words-a : goal.bounds-words-a
bounds-words-a c = search (first_within, rules)

pub bounds-words-b : goal.bounds-words-b
bounds-words-b c = search (second_within, rules)

pub returns-then-words-a : goal.returns-then-words-a
returns-then-words-a c = search (second_under, rules)

pub bounds-words-a-2 : goal.bounds-words-a-2
bounds-words-a-2 c = search (first_within, rules)

pub returns : goal.returns
returns c = search (first_under, rules)
