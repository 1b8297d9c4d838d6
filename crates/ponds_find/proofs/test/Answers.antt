-- `ponds_find::test`: the tests of one word for each node, then the room for the register.
use borrow.Author.Rules.{rules}
use Rattle.answer.proofs.OutcomeLaws.{thens}
use Rattle.table.proofs.CheckLaws.{each_node_ok}
use Rattle.ponds.specs.Calls.{ponds_test}
use Rattle.ponds.proofs.LongestRegister.{most_black_lem}
use Rattle.ponds_find.proofs.test.Goals as goal

pub returns-in_err-each_node : goal.returns-in_err-each_node
unfolding ponds_test
returns-in_err-each_node c = search (thens, rules)

pub room_for-requires : goal.room_for-requires
room_for-requires c = let acc = (each_node_ok _ _ _ _ c.in_ok-each_node.ensures).0 in (acc.sized.few, most_black_lem _ _ acc, c.requires)

pub returns : goal.returns
unfolding ponds_test
returns c = search (thens, rules)
