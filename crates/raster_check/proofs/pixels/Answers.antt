-- `raster_check::pixels`: the byte that was found, or none.
use Rattle.raster.proofs.TestLaws.{pixels_found, pixels_passed}
use Rattle.raster_check.proofs.pixels.Goals as goal

pub returns-in-Some : goal.returns-in-Some
returns-in-Some c = pixels_found c.args.raster.now _ c.first_bad.ensures c.in-Some.i c.in-Some.is

pub returns-in-None : goal.returns-in-None
returns-in-None c = pixels_passed c.args.raster.now _ c.first_bad.ensures c.in-None.is
