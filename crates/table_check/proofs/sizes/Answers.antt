-- `table_check::sizes` is the tests for 1 and 2.
use Rattle.table.proofs.RuleLaws.{size_level, size_length, size_good}
use borrow.Author.Rules.{rules}
use Rattle.table_check.proofs.sizes.Goals as goal

pub returns-then-n-gt-TOP_LEVEL : goal.returns-then-n-gt-TOP_LEVEL
returns-then-n-gt-TOP_LEVEL c = search (size_level, rules)

pub returns-then-not-length_ok : goal.returns-then-not-length_ok
returns-then-not-length_ok c = search (size_length, rules)

pub returns : goal.returns
returns c = search (size_good, rules)
