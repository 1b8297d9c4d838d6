-- `raster_lanes::Pixels::half_forks`: from the sums in both halves.
use Rattle.raster_lanes.proofs.WindowLaws.{sums_four, half_is}
use Rattle.raster_lanes.proofs.Pixels.half_forks.Goals as goal

pub forks-requires : goal.forks-requires
forks-requires c = (sums_four _ _ _ c.args.self.now.colours _ c.four_sums-north.ensures, sums_four _ _ _ c.args.self.now.colours _ c.four_sums-south.ensures)

pub returns : goal.returns
returns c = (half_is _ _ _ c.args.self.now.colours _ _ _ c.four_sums-north.ensures c.four_sums-south.ensures c.forks.ensures.0, c.forks.ensures.1)
