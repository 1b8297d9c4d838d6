-- `distance_seek::look` and `distance_seek::seek`: the quarters of a fork one after the other, each with the best so
-- far, until the best is no more than where the rest begins. The measure is twice the level, and one more where a node
-- is still to be looked at.
use Prim.Native.Nat.{◌+◌, ◌*◌}
use Rattle.distance_seek.proofs.+look_seek.Given as goal

abbrev pub decreases-look : goal.decreases-look
decreases-look l = 2 * l.level + 1

abbrev pub decreases-seek : goal.decreases-seek
decreases-seek l = 2 * l.level
