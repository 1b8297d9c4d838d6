-- `table_check::asked`: the check, then the node count.
use Rattle.table.proofs.CheckLaws.{asked_none, asked_node}
use Rattle.table.specs.Rules.{asked_of}
use Rattle.answer.proofs.OutcomeLaws.{thens}
use borrow.Author.Rules.{rules}
use Rattle.table_check.proofs.asked.Goals as goal

pub returns-in_err-check : goal.returns-in_err-check
unfolding asked_of
returns-in_err-check c = search (thens, rules)

pub returns-then-node_count-node : goal.returns-then-node_count-node
returns-then-node_count-node c = search (asked_none, rules)

pub returns : goal.returns
returns c = search (asked_node, rules)
