-- `raster_count::Raster::sum_sixteen`: four sums of four.
use native.Mathlib.Omega.{arith}
use Rattle.raster.specs.Raster.{picture_of}
use Rattle.raster.proofs.BlockLaws.{on_son}
use Rattle.raster_lanes.proofs.KindLaws.{sixteen_sum_lem}
use Rattle.raster_count.proofs.Raster.sum_sixteen.Goals as goal

pub two_sums-north-requires : goal.two_sums-north-requires
two_sums-north-requires c = on_son c.requires (omega arith) _ _ (omega arith) (omega arith)

pub two_sums-south-requires : goal.two_sums-south-requires
two_sums-south-requires c = on_son c.requires (omega arith) _ _ (omega arith) (omega arith)

pub returns : goal.returns
returns c =
    sixteen_sum_lem (picture_of c.args.self.now.n c.args.self.now.pixels.bytes.now) (λ i j. c.args.self.now.picture.colours _) c.args.x c.args.y _ _ _ _ c.two_sums-north.ensures.0 c.two_sums-north.ensures.1 c.two_sums-south.ensures.0 c.two_sums-south.ensures.1
