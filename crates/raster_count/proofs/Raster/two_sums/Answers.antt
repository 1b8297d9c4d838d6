-- `raster_count::Raster::two_sums`: two rows added up, and the sum carried by one place.
use native.Mathlib.Omega.{arith}
use Rattle.raster.specs.Raster.{picture_of}
use Rattle.raster.proofs.BlockLaws.{on_son}
use Rattle.raster_count.proofs.KindLaws.{two_blocks}
use Rattle.raster_count.proofs.Raster.two_sums.Goals as goal

pub four_pixels-north-requires : goal.four_pixels-north-requires
four_pixels-north-requires c = on_son c.requires (omega arith) _ _ (omega arith) (omega arith)

pub four_pixels-south-requires : goal.four_pixels-south-requires
four_pixels-south-requires c = on_son c.requires (omega arith) _ _ (omega arith) (omega arith)

pub returns : goal.returns
returns c =
    two_blocks (picture_of c.args.self.now.n c.args.self.now.pixels.bytes.now) (λ i j. c.args.self.now.picture.colours _) c.args.x c.args.y _ _ c.four_pixels-north.ensures.0 c.four_pixels-south.ensures.0
