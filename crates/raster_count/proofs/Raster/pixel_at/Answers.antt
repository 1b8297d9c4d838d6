-- `raster_count::Raster::pixel_at`: the pixel's place lies in the raster.
use Rattle.raster.proofs.BlockLaws.{place_lt}
use Rattle.raster_count.proofs.Raster.pixel_at.Goals as goal

pub bounds-self-y : goal.bounds-self-y
bounds-self-y c = rw (c.args.self.now.wide, c.args.self.now.picture.whole) (place_lt c.requires)
