-- `neighbour_find::mirror` reads REFLECT for a side and OPQUAD for a corner.
use Rattle.base.proofs.CaseLaws.{cases}
use Rattle.neighbour.specs.Search.{mirror_of}
use borrow.Author.Rules.{rules}
use Rattle.neighbour_find.proofs.mirror.Goals as goal

pub returns-then-direction-lt4 : goal.returns-then-direction-lt4
unfolding mirror_of
returns-then-direction-lt4 c = search (cases, rules)

pub returns : goal.returns
unfolding mirror_of
returns c = search (cases, rules)
