-- `ponds_join::next`: nothing, or two sets joined.
use Rattle.ponds_sets.proofs.ShoreLaws.{next_none, next_met}
use Rattle.ponds_join.proofs.next.Goals as goal

pub returns : goal.returns
returns c = next_met c.if-other-before.false c.meet.ensures
