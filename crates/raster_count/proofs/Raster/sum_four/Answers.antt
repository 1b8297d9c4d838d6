-- `raster_count::Raster::sum_four`: four pixels, none above 1.
use native.Mathlib.Omega.{arith}
use Rattle.raster.specs.Sums.{four_sum}
use Rattle.raster.proofs.BlockLaws.{on_son}
use Rattle.raster_count.proofs.KindLaws.{pixel_few}
use Rattle.raster_count.proofs.Raster.sum_four.Goals as goal

pub pixel_at-nw-requires : goal.pixel_at-nw-requires
pixel_at-nw-requires c = on_son c.requires (omega arith) _ _ (omega arith) (omega arith)

pub returns : goal.returns
returns c =
    (unfold four_sum in omega (arith, c.pixel_at-nw.ensures, c.pixel_at-ne.ensures, c.pixel_at-sw.ensures, c.pixel_at-se.ensures), omega (arith, pixel_few c.args.self.now.picture _ _ _ c.pixel_at-nw.ensures, pixel_few c.args.self.now.picture _ _ _ c.pixel_at-ne.ensures, pixel_few c.args.self.now.picture _ _ _ c.pixel_at-sw.ensures, pixel_few c.args.self.now.picture _ _ _ c.pixel_at-se.ensures))
