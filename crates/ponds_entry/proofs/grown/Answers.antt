-- `ponds_entry::grown`: each number is the one of `grown_of`, and fits a word.
use borrow.Author.Rules.{rules}
use Rattle.ponds_entry.proofs.GrownLaws.{fits, grown_is}
use Rattle.ponds_entry.proofs.grown.Goals as goal

pub overflow_mul-top : goal.overflow_mul-top
overflow_mul-top c = search (fits, rules)

pub overflow_mul-left : goal.overflow_mul-left
overflow_mul-left c = search (fits, rules)

pub overflow_mul-result : goal.overflow_mul-result
overflow_mul-result c = search (fits, rules)

pub overflow_add-result : goal.overflow_add-result
overflow_add-result c = search (fits, rules)

pub overflow_sub-side : goal.overflow_sub-side
overflow_sub-side c = search (fits, rules)

pub overflow_add-top : goal.overflow_add-top
overflow_add-top c = search (fits, rules)

pub overflow_sub-side-2 : goal.overflow_sub-side-2
overflow_sub-side-2 c = search (fits, rules)

pub overflow_add-left : goal.overflow_add-left
overflow_add-left c = search (fits, rules)

pub returns : goal.returns
returns c = search (grown_is, rules)
