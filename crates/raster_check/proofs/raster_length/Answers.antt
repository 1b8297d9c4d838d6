-- `raster_check::raster_length`: the side times the side is 4 ^ n.
use Rattle.raster.proofs.TestLaws.{length_wrong, length_right}
use Rattle.raster_check.proofs.raster_length.Goals as goal

pub returns-then-bytes-across : goal.returns-then-bytes-across
returns-then-bytes-across c = length_wrong _ _ _ c.side-across.ensures c.if-bytes-across.true

pub returns : goal.returns
returns c = length_right _ _ _ c.side-across.ensures c.if-bytes-across.false
