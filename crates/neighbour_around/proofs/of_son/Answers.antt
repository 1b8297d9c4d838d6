-- `neighbour_around::of_son`: three brothers, and five parts of what stands around their father.
use Rattle.neighbour_around.proofs.SurroundLaws.{sons_placed}
use borrow.Author.Rules.{rules}
use Rattle.neighbour_around.proofs.of_son.Goals as goal

pub returns : goal.returns
returns c = search (sons_placed, rules)
