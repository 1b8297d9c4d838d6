-- `distance_seek::next_way` reads a table, whose rule holds of every direction.
use Rattle.distance_seek.proofs.WayLaws.{next_way_rule}
use Rattle.distance_seek.proofs.next_way.Goals as goal

pub returns : goal.returns
returns c = next_way_rule c.args.direction c.requires
