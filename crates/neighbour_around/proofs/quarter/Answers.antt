-- `neighbour_around::quarter`: the type picks the son or the leaf itself.
use Rattle.neighbour_around.proofs.SurroundLaws.{quarter_picked}
use borrow.Author.Rules.{rules}
use Rattle.neighbour_around.proofs.quarter.Goals as goal

pub returns : goal.returns
returns c = search (quarter_picked, rules)
