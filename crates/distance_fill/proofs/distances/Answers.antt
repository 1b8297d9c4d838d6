-- `distance_fill::distances`: the tests, and the words only where they are passed.
use borrow.Author.Rules.{rules}
use Rattle.table.proofs.CheckLaws.{each_node_ok}
use Rattle.distance_fill.proofs.CallLaws.{refused, filled}
use Rattle.distance_fill.proofs.distances.Goals as goal

pub returns-in_err-each_node : goal.returns-in_err-each_node
returns-in_err-each_node c = search (refused, rules)

pub fill-requires : goal.fill-requires
fill-requires c = (each_node_ok _ _ _ _ c.in_ok-each_node.ensures).1

pub invariant_of-sheet : goal.invariant_of-sheet
invariant_of-sheet c = record { accepted = (each_node_ok _ _ _ _ c.in_ok-each_node.ensures).0 }

pub returns : goal.returns
returns c = search (filled, rules)
