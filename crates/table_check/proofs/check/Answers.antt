-- `table_check::check`: the tests for 1 and 2, then the six rules.
use Rattle.table.proofs.CheckLaws.{sized_ok}
use Rattle.table.specs.Rules.{check_of}
use Rattle.answer.proofs.OutcomeLaws.{thens}
use borrow.Author.Rules.{rules}
use Rattle.table_check.proofs.check.Goals as goal

pub returns-in_err-sizes : goal.returns-in_err-sizes
unfolding check_of
returns-in_err-sizes c = search (thens, rules)

pub faults-requires : goal.faults-requires
faults-requires c = search (sized_ok, rules)

pub returns : goal.returns
unfolding check_of
returns c = search (thens, rules)
