-- `distance_seek::next_quarter` reads a table, whose rule holds of every direction.
use Rattle.distance_seek.proofs.WayLaws.{next_rule}
use Rattle.distance_seek.proofs.next_quarter.Goals as goal

pub returns : goal.returns
returns c = next_rule c.args.direction c.requires
