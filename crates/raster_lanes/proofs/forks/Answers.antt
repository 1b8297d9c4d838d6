-- `raster_lanes::forks`: the small ones by their lanes, the large ones by two sums.
use native.Mathlib.Omega.{arith}
use Rattle.raster_lanes.proofs.LaneLaws.{forks_sum}
use Rattle.raster_lanes.proofs.forks.Goals as goal

pub returns : goal.returns
returns c = (forks_sum _ _ _ _ _ _ c.mixed_lanes.ensures.0 c.mixed_lanes-2.ensures.0 c.lane_sum.ensures.0 c.mixed_two.ensures.0, omega (arith, c.lane_sum.ensures.1, c.mixed_two.ensures.1))
