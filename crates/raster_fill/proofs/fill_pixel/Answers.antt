-- `raster_fill::fill_pixel`: the pixel's place lies in the raster.
use Rattle.raster.proofs.BlockLaws.{place_lt}
use Rattle.raster_fill.proofs.PaintingLaws.{painted_pixel}
use Rattle.raster_fill.proofs.fill_pixel.Goals as goal

pub bounds-raster-y : goal.bounds-raster-y
bounds-raster-y c = rw (c.side-across.ensures, c.requires.2) (place_lt c.requires.1)

pub returns : goal.returns
returns c = rw c.side-across.ensures (painted_pixel _ _ _ _ _ c.requires.1 c.requires.2)
