-- `raster_lanes::Pixels::nodes`: one, four sons, and four for each fork below them.
use Rattle.raster_lanes.proofs.WindowLaws.{nodes_are}
use Rattle.raster_lanes.proofs.Pixels.nodes.Goals as goal

pub returns : goal.returns
returns c = nodes_are _ _ _ c.args.self.now.colours c.requires.1 _ _ c.half_forks-north.ensures.0 c.half_forks-south.ensures.0
