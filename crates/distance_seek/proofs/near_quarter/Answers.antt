-- `distance_seek::near_quarter` reads a table, whose rule holds of every direction.
use Rattle.distance_seek.proofs.WayLaws.{near_rule}
use Rattle.distance_seek.proofs.near_quarter.Goals as goal

pub returns : goal.returns
returns c = near_rule c.args.direction c.requires
