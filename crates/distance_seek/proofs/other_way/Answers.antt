-- `distance_seek::other_way` reads a table, whose rule holds of every direction.
use Rattle.distance_seek.proofs.WayLaws.{other_way_rule}
use Rattle.distance_seek.proofs.other_way.Goals as goal

pub returns : goal.returns
returns c = other_way_rule c.args.direction c.requires
