-- `table_check::each_node`: the tests for 1 and 2, the words' length, then the six rules.
use Rattle.table.proofs.CheckLaws.{sized_ok, each_node_words, each_node_faults}
use Rattle.table.specs.Rules.{each_node_of}
use Rattle.answer.proofs.OutcomeLaws.{thens}
use borrow.Author.Rules.{rules}
use Rattle.table_check.proofs.each_node.Goals as goal

pub returns-in_err-sizes : goal.returns-in_err-sizes
unfolding each_node_of
returns-in_err-sizes c = search (thens, rules)

pub returns-then-words-node_count : goal.returns-then-words-node_count
returns-then-words-node_count c = search (each_node_words, rules)

pub faults-requires : goal.faults-requires
faults-requires c = search (sized_ok, rules)

pub returns : goal.returns
returns c = search (each_node_faults, rules)
