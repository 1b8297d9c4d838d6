-- `ground_centre::reach`: the literals 1.0 and 2.0 are the numbers 1 and 2.
use Rattle.ground_centre.proofs.GroundLaws.{reach_is}
use Rattle.ground_centre.proofs.reach.Goals as goal

pub returns : goal.returns
returns c = reach_is _ _ _ c.from.ensures
