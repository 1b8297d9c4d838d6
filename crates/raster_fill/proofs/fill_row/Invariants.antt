-- `raster_fill::fill_row`: the first i bytes are filled.
use Rattle.raster_fill.specs.Painting.{BytesFilled}
use Rattle.raster_fill.proofs.fill_row.Given as goal

abbrev pub invariant-loop-i : goal.invariant-loop-i
invariant-loop-i l = BytesFilled l.start l.i l.colour l.initial.raster l.raster
