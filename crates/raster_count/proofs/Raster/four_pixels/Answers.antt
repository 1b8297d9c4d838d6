-- `raster_count::Raster::four_pixels`: four bytes of a row.
use mathlib.Core.Path.{◌∙◌}
use Rattle.raster_count.proofs.KindLaws.{four_place, four_bytes}
use Rattle.raster_count.proofs.Raster.four_pixels.Goals as goal

pub four_at-requires : goal.four_at-requires
four_at-requires c = rw c.args.self.now.wide (four_place c.args.x c.args.self.now.picture c.requires).0

pub returns : goal.returns
returns c = (rw c.args.self.now.wide at c.four_at.ensures.0 ∙ four_bytes c.args.self.now.n c.args.x c.args.y c.args.self.now.pixels.bytes.now, c.four_at.ensures.1)
