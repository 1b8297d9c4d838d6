-- How many of the others differ from the first, and whether a fork's type does (`like_counted`).
use Rattle.quad.proofs.TreeLaws.{like_counted}
use Rattle.quad.proofs.like_leaves.Goals as goal

pub returns : goal.returns
returns c = like_counted _ _ _ _ _ _ _ _ c.from.ensures c.from-2.ensures c.from-3.ensures c.from-4.ensures
